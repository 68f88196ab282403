-- `job_reader::walk::on_seeds` meets its contract.
use Rattle.job_reader.specs.Setting.{setting_on}
use Rattle.job_reader.proofs.Refused.{seeds_8}
use Rattle.job_reader.proofs.walk.on_seeds.Goals as goal

pub returns-then-p-ne1 : goal.returns-then-p-ne1
returns-then-p-ne1 c = seeds_8 _ _ _ _ _ _ _ c.if-p-ne1.true

pub returns : goal.returns
unfolding setting_on
returns c = rw (c.if-p-ne1.false) (c.in_ok-generator.ensures.0, rw c.in_ok-generator.ensures.1)

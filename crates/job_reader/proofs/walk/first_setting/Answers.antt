-- `job_reader::walk::first_setting` meets its contract.
use Rattle.job_reader.specs.Setting.{start}
use Rattle.job_reader.proofs.walk.first_setting.Goals as goal

pub returns : goal.returns
unfolding start
returns c = rw c.seed-seeded.ensures

-- `job_reader::walk::on_sigma` meets its contract.
use Rattle.std.proofs.Common.{refl, lt-ltb, le-ltb}
use Rattle.job_reader.specs.Limits.{most_sigma}
use Rattle.job_reader.specs.Setting.{setting_on}
use Rattle.job_reader.proofs.Refused.{sigma_8, sigma_7, sigma_0}
use Rattle.job_reader.proofs.walk.on_sigma.Goals as goal

pub returns-then-p-ne2 : goal.returns-then-p-ne2
returns-then-p-ne2 c = sigma_8 _ _ _ c.if-p-ne2.true

pub returns-then-x-gt-MOST_SIGMA : goal.returns-then-x-gt-MOST_SIGMA
returns-then-x-gt-MOST_SIGMA c = sigma_7 _ _ _ c.if-p-ne2.false (rw (lt-ltb most_sigma _ c.if-x-gt-MOST_SIGMA.true))

pub returns-then-x-gt-MOST_SIGMA-2 : goal.returns-then-x-gt-MOST_SIGMA-2
returns-then-x-gt-MOST_SIGMA-2 c =
    sigma_7 _ _ _ c.if-p-ne2.false
    (rw (le-ltb most_sigma _ c.if-x-gt-MOST_SIGMA.false, lt-ltb most_sigma _ c.if-x-gt-MOST_SIGMA-2.true))

pub returns : goal.returns
unfolding setting_on
returns c = (sigma_0 _ _ _ c.if-p-ne2.false c.if-x-gt-MOST_SIGMA.false c.if-x-gt-MOST_SIGMA-2.false, refl)

-- `job_reader::walk::first_progress` meets its contract.
use Rattle.job_reader.specs.Setting.{begun}
use Rattle.job_reader.proofs.walk.first_progress.Goals as goal

pub returns : goal.returns
unfolding begun
returns c = rw c.first_setting-setting.ensures

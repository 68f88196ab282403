-- `job_reader::walk::Progress::finish` meets its contract.
use Rattle.std.proofs.Common.{lt-ltb, le-ltb}
use Rattle.job_reader.specs.Refusals.{first_bad}
use Rattle.job_reader.proofs.walk.Progress.finish.Goals as goal

pub returns-then-self-lt3-clause-verdict : goal.returns-then-self-lt3-clause-verdict
unfolding first_bad
returns-then-self-lt3-clause-verdict c = rw (lt-ltb _ 3 c.if-self-lt3.true)

pub returns-clause-verdict : goal.returns-clause-verdict
unfolding first_bad
returns-clause-verdict c = rw (le-ltb _ 3 c.if-self-lt3.false)

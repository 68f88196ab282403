-- `job_reader::first_bad::first_bad` meets its contract.
use Rattle.text.specs.Scan.{lines}
use Rattle.job_reader.specs.Private.{Reading}
use Rattle.job_reader.proofs.first_bad.first_bad.Given as goal

abbrev pub invariant-loop-line : goal.invariant-loop-line
invariant-loop-line l = Reading (lines l.text) (lines l.line-iterator.rest.now) l.read

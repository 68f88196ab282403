-- `job_reader::loops::walk` meets its contract.
use Rattle.text.specs.Scan.{lines}
use Rattle.job_reader.specs.Private.{Going}
use Rattle.job_reader.proofs.loops.walk.Given as goal

abbrev pub invariant-loop-line : goal.invariant-loop-line
invariant-loop-line l = Going (lines l.text) (lines l.line-iterator.rest.now) l.initial.shots l.shots l.s

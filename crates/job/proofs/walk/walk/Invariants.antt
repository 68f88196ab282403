-- `job::walk::walk` meets its contract.
use Rattle.text.specs.Scan.{lines}
use Rattle.job.specs.Private.{Going}
use Rattle.job.proofs.walk.walk.Given as goal

abbrev pub invariant-loop-line : goal.invariant-loop-line
invariant-loop-line l = Going (lines l.text) (lines l.line-iterator.rest.now) l.initial.out l.out l.s

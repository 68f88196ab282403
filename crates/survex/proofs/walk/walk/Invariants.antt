-- `survex::walk::walk` meets its contract.
use Rattle.std.proofs.Common.{◌-◌, length, drop}
use Rattle.text.specs.Scan.{lines}
use Rattle.survex.specs.Survex.{legs_from}
use Rattle.survex.proofs.Walks.{Going}
use Rattle.survex.proofs.walk.walk.Given as goal

abbrev pub invariant-loop-kept : goal.invariant-loop-kept
invariant-loop-kept l = Going l.text (legs_from l.fn.first.line (lines (drop l.fn.first.at l.text))) l.room l.initial.out l.out l.at l.line l.m

abbrev pub decreases-loop-kept : goal.decreases-loop-kept
decreases-loop-kept l = length l.text - l.at

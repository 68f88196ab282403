-- `survex_reader::lines::line_at` meets its contract.
use Rattle.std.proofs.Common.{◌-◌, length}
use Rattle.survex_reader.proofs.Places.{Passing}
use Rattle.survex_reader.proofs.lines.line_at.Given as goal

abbrev pub invariant-loop-place : goal.invariant-loop-place
invariant-loop-place l = Passing l.text l.at l.place l.passed

abbrev pub decreases-loop-place : goal.decreases-loop-place
decreases-loop-place l = length l.text - l.place

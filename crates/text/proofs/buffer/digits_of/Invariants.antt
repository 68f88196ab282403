-- `text::buffer::digits_of` meets its contract.
use Rattle.std.proofs.Common.{◌≤◌, ◌≡◌, ◌++◌, length, drop}
use Rattle.text.specs.Fields.{decimal}
use Rattle.text.proofs.buffer.digits_of.Given as goal

abbrev pub invariant-loop-rest : goal.invariant-loop-rest
invariant-loop-rest l = (l.from ≤ 20) × (length l.bytes ≡ 20) × (length (decimal l.rest) ≤ l.from) ×
    (decimal l.n ≡ decimal l.rest ++ drop l.from l.bytes)

abbrev pub decreases-loop-rest : goal.decreases-loop-rest
decreases-loop-rest l = l.rest

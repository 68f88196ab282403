-- `apply` is `applied`: the sum so far, and what the columns left give at the digits left, are the whole.
use Rattle.std.proofs.Common.{◌≡◌, drop, bit_xor}
use Rattle.bit_matrix.specs.Matrices.{applied}
use Rattle.bit_matrix.proofs.apply.Given as goal

abbrev pub invariant-loop-column : goal.invariant-loop-column
invariant-loop-column l = bit_xor l.sum (applied (drop l.column-index l.columns) l.rest) ≡ applied l.columns l.x

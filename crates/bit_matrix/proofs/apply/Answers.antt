-- `apply` is `applied`: the sum so far, and what the columns left give at the digits left, are the whole.
use Rattle.std.proofs.Common.{sym, ◌∙◌, arith}
use Rattle.bit_matrix.proofs.Loops.{apply_turn, apply_end}
use Rattle.bit_matrix.proofs.apply.Goals as goal

pub loop-column-preserved : goal.loop-column-preserved
loop-column-preserved c = let l = c.loop-column in apply_turn _ l.column-index l.sum l.rest (omega arith) ∙ l.invariant

pub returns : goal.returns
returns c = let l = c.loop-column in sym (apply_end _ l.column-index l.sum l.rest (omega arith)) ∙ l.invariant

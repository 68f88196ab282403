-- `powers`: for each word, the applications left, of the matrix as it then is, are all of them.
use Rattle.std.proofs.Common.{◌≡◌, sym, ◌∙◌, arith, map, ◌%◌}
use Rattle.bit_matrix.specs.Matrices.{repeat, applied}
use Rattle.bit_matrix.proofs.Loops.{once_odd, once_even, powers_turn, powers_end}
use Rattle.bit_matrix.proofs.Matrix.powers.Goals as goal
use Rattle.bit_matrix.proofs.Matrix.powers.Goals.{then-left-eq1, else-left-eq1}

pub loop-left-preserved : goal.loop-left-preserved
loop-left-preserved c =
    let l = c.loop-left in
    let f = applied l.matrix.columns in
    let once : c.if-left-eq1.reached ≡ map (repeat f (l.left % 2)) l.reached = elim c.if-left-eq1.branch [
      | then-left-eq1 w ↦ w.reached-is ∙ w.apply_each.ensures ∙ once_odd f l.left l.reached (omega (arith, w.if-left-eq1.true))
      | else-left-eq1 w ↦ w.reached-is ∙ once_even f l.left l.reached (omega (arith, w.if-left-eq1.false))
    ] in
    powers_turn _ _ l.left l.reached _ c.squared-square.ensures once ∙ l.invariant

pub returns : goal.returns
returns c = let l = c.loop-left in sym (powers_end _ l.left l.reached (omega arith)) ∙ l.invariant

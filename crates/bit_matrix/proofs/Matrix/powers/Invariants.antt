-- `powers`: for each word, the applications left, of the matrix as it then is, are all of them.
use Rattle.std.proofs.Common.{◌≡◌, map}
use Rattle.bit_matrix.specs.Matrices.{repeat, applied}
use Rattle.bit_matrix.proofs.Matrix.powers.Given as goal

abbrev pub invariant-loop-left : goal.invariant-loop-left
invariant-loop-left l =
    map (repeat (applied l.matrix.columns) l.left) l.reached ≡ map (repeat (applied l.initial.matrix.columns) l.n) l.initial.reached

abbrev pub decreases-loop-left : goal.decreases-loop-left
decreases-loop-left l = l.left

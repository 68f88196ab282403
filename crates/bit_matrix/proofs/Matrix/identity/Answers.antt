-- `identity`: each call of the closure gave the unit word of its digit.
use Rattle.std.proofs.lemmas.List.FromFn.{fill_by_all}
use Rattle.std.proofs.Common.{◌^◌}
use Rattle.bit_matrix.specs.Matrices.{units}
use Rattle.bit_matrix.proofs.Matrix.identity.Goals as goal

pub returns : goal.returns
unfolding units
returns c =
    let made = c.from_fn.ensures.items in
    fill_by_all (λ k. 2 ^ k) c.from_fn.result 32 0 made.long (λ k h. let (p, q, called) = made.at k 0 h in called.met)

-- `angle::signed_of` meets its contract: the sine and the cosine in the quarter, turned.
use Rattle.std.proofs.Common.{◌%◌, refl, ◌∙◌}
use Rattle.angle.specs.Steps.{signed_of}
use Rattle.angle.proofs.signed_of.Goals as goal

pub returns : goal.returns
unfolding signed_of
returns c =
    let rotated = c.of-rotations.ensures in
    let w = c.args.v % 16384 in
    c.turn.ensures ∙ rw (c.sine.ensures w rotated, c.cosine.ensures w rotated) refl

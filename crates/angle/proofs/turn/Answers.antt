-- `angle::turn` meets its contract: two sizes, exchanged or not, with their signs.
use Rattle.std.proofs.Common.{◌∙◌, to_z-of_z, w64, SFits}
use Rattle.angle.proofs.TurnLaws.{turned}
use Rattle.angle.proofs.turn.Goals as goal

pub returns : goal.returns
returns c =
    let sine = c.signed-sine in
    let cosine = c.signed-cosine in
    let sine_fits : SFits w64 sine.result = record { sfits = sine.type_inv } in
    let cosine_fits : SFits w64 cosine.result = record { sfits = cosine.type_inv } in
    turned _ c.args.sin c.args.cos (rw c.exchanged-exchanged.ensures at c.either.ensures) (to_z-of_z sine_fits ∙ rw c.sine_negative.ensures at sine.ensures)
    (rw c.exchanged-exchanged.ensures at c.either-2.ensures) (to_z-of_z cosine_fits ∙ rw c.cosine_negative.ensures at cosine.ensures) c.args.q c.of-quarter.ensures.values

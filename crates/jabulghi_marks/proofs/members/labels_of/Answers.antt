-- `labels_of` is `labels_of`.
use Rattle.std.proofs.Common.{◌≡◌, refl, arith, length, rules}
use Rattle.jabulghi_marks.proofs.Filling.{filled_next, filled_all}
use Rattle.jabulghi_marks.proofs.members.labels_of.Goals as goal

pub loop-i-init : goal.loop-i-init
loop-i-init c = record { size = refl; first = refl }

pub loop-i-preserved : goal.loop-i-preserved
loop-i-preserved c =
    let at = c in
    let args = c.args in
    let us : length args.used ≡ 16 = search rules in
    let ls : length args.lengths ≡ 16 = search rules in
    filled_next args.used args.lengths args.names us ls at.loop-i.label-items at.loop-i.i at.loop-i.invariant _
    (omega (arith, c.loop-i-test.true)) (rw c.elements_at.ensures refl)

pub returns : goal.returns
returns c =
    let args = c.args in
    let us : length args.used ≡ 16 = search rules in
    let ls : length args.lengths ≡ 16 = search rules in
    filled_all args.used args.lengths args.names us ls c.loop-i.label-items c.loop-i.i c.loop-i.invariant
    c.loop-i-test.false

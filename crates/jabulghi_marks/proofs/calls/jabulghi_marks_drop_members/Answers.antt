-- `jabulghi_marks_drop_members`: the code of the call, and its place alone cleared.
use Rattle.std.proofs.Common.{refl, ne_eqb}
use Rattle.jabulghi_marks.specs.Members.{dropped_in}
use Rattle.jabulghi_marks.proofs.calls.jabulghi_marks_drop_members.Goals as goal

pub returns-then-code-ne0 : goal.returns-then-code-ne0
unfolding dropped_in
returns-then-code-ne0 c =
    rw (← c.labels_of-labels.ensures, ← c.place_to_drop-placed.ensures.placed, ne_eqb _ 0 c.if-code-ne0.true) (record { code = refl; members_after = refl })

pub store-requires : goal.store-requires
store-requires c = c.place_to_drop-placed.ensures.within c.if-code-ne0.false

pub returns : goal.returns
unfolding dropped_in
returns c =
    rw (← c.labels_of-labels.ensures, ← c.place_to_drop-placed.ensures.placed, c.if-code-ne0.false)
    (record { code = refl; members_after = rw c.no_label-label.ensures at c.store.ensures })

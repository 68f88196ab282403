-- `jabulghi_marks_save_members`: the code of the call, and its place alone written.
use Rattle.std.proofs.Common.{refl, ne_eqb}
use Rattle.jabulghi_marks.specs.Members.{saved_in}
use Rattle.jabulghi_marks.proofs.calls.jabulghi_marks_save_members.Goals as goal

pub returns-then-code-ne0 : goal.returns-then-code-ne0
unfolding saved_in
returns-then-code-ne0 c =
    rw (
      ← c.labels_of-labels.ensures,
      ← c.unpacked-g.ensures,
      ← c.place_to_save-placed.ensures.placed,
      ne_eqb _ 0 c.if-code-ne0.true,
    ) (record { code = refl; members_after = refl })

pub store-requires : goal.store-requires
store-requires c = c.place_to_save-placed.ensures.within c.if-code-ne0.false

pub returns : goal.returns
unfolding saved_in
returns c =
    rw (
      ← c.labels_of-labels.ensures,
      ← c.unpacked-g.ensures,
      ← c.place_to_save-placed.ensures.placed,
      c.if-code-ne0.false,
      ← c.label_of-label.ensures,
    ) (record { code = refl; members_after = c.store.ensures })

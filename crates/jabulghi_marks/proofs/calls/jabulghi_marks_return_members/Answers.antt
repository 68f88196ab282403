-- `jabulghi_marks_return_members`: the code of the call, and the words as they were saved.
use Rattle.std.proofs.Common.{arith, refl, ne_eqb}
use Rattle.jabulghi_marks.specs.Members.{returned_words}
use Rattle.jabulghi_marks.proofs.calls.jabulghi_marks_return_members.Goals as goal

pub returns-then-code-ne0 : goal.returns-then-code-ne0
unfolding returned_words
returns-then-code-ne0 c =
    rw (
      ← c.labels_of-labels.ensures,
      ← c.unpacked-g.ensures,
      ← c.place_to_return-placed.ensures.placed,
      ne_eqb _ 0 c.if-code-ne0.true,
    ) (record { code = refl; words_after = refl })

pub overflow_mul-place : goal.overflow_mul-place
overflow_mul-place c = omega (arith, c.place_to_return-placed.ensures.within c.if-code-ne0.false)

pub elements_at-requires : goal.elements_at-requires
elements_at-requires c = omega (arith, c.place_to_return-placed.ensures.within c.if-code-ne0.false)

pub returns : goal.returns
unfolding returned_words
returns c =
    rw (
      ← c.labels_of-labels.ensures,
      ← c.unpacked-g.ensures,
      ← c.place_to_return-placed.ensures.placed,
      c.if-code-ne0.false,
    ) (record { code = refl; words_after = c.elements_at.ensures })

-- The first cause that applies: laws of `first_cause` and of the single causes.
use mathlib.Core.Path.{◌≡◌, refl, sym, ◌∙◌}
use mathlib.Core.Bool.{Bool, true, false}
use mathlib.Core.List.{List, [], ◌∷◌}
use mathlib.Core.Logic.{◌↔◌}
use Prim.Native.Nat.{ℕ, ◌+◌, ◌*◌, ◌%◌, ◌≤◌, ◌<◌}
use native.Mathlib.Omega.{arith}
use lib.Dec.{leb, eqb}
use borrow.Author.Tests.{leb-true, leb-false, eqb-true, eqb-false}
use Rattle.streams.specs.declared.Generator.{Generator}
use Rattle.streams.specs.Streams.{record_code, open_code, none_open_code, asked_code, taken_code, length_code, count_code, first_cause}
use Rattle.streams.specs.Streams.{most_asked, most_count, Call, note_code, own_code, room_code, code_of, if_accepted}

-- One cause alone.
pub lone_cause : (code : ℕ) → first_cause (code ∷ []) ≡ code
lone_cause code = by_test (eqb code 0) refl
  where
    by_test : (t : Bool) → eqb code 0 ≡ t → first_cause (code ∷ []) ≡ code
    by_test true e = rw e (sym (eqb-true code 0 e))
    by_test false e = rw e

-- A call is accepted where none of its causes applies.
pub none_applies : (cause : ℕ) (causes : List ℕ) → first_cause (cause ∷ causes) ≡ 0 → (cause ≡ 0) × (first_cause causes ≡ 0)
none_applies cause causes h = by_test (eqb cause 0) refl
  where
    by_test : (t : Bool) → eqb cause 0 ≡ t → (cause ≡ 0) × (first_cause causes ≡ 0)
    by_test true e = (eqb-true _ _ e, rw e at h)
    by_test false e = absurd (eqb-false _ _ e (rw e at h))

-- It is, just where the record's, the note's, its own and the count's do not apply.
pub accepted_causes : (c : Call) (g : Generator)
    → (code_of c g ≡ 0) ↔ ((record_code g ≡ 0) × (note_code c g ≡ 0) × (own_code c g ≡ 0) × (room_code c g ≡ 0))
unfolding code_of
accepted_causes c g = (
  λ h.
      let (fits, rest) = none_applies (record_code g) (note_code c g ∷ own_code c g ∷ room_code c g ∷ []) h in
      let (note, rest-2) = none_applies (note_code c g) (own_code c g ∷ room_code c g ∷ []) rest in
      let (own, last) = none_applies (own_code c g) (room_code c g ∷ []) rest-2 in
      (fits, note, own, sym (lone_cause (room_code c g)) ∙ last),
  λ h. rw (h.0, h.1, h.2, h.3),
)

-- 14 does not apply where no request is open, nor 15 where one is;
pub none_open : (g : Generator) → (open_code g ≡ 0) ↔ (g.waiting ≡ 0)
unfolding open_code
none_open g = by_test (eqb g.waiting 0) refl
  where
    by_test : (t : Bool) → eqb g.waiting 0 ≡ t → (open_code g ≡ 0) ↔ (g.waiting ≡ 0)
    by_test true e = (λ h. eqb-true _ _ e, λ h. rw (open_code, e))
    by_test false e = (λ h. absurd (omega (arith, rw (open_code, e) at h)), λ h. absurd (eqb-false _ _ e h))

pub one_open : (g : Generator) → (none_open_code g ≡ 0) ↔ (g.waiting ≡ 0 → ⊥)
unfolding none_open_code
one_open g = by_test (eqb g.waiting 0) refl
  where
    by_test : (t : Bool) → eqb g.waiting 0 ≡ t → (none_open_code g ≡ 0) ↔ (g.waiting ≡ 0 → ⊥)
    by_test true e = (λ h. absurd (omega (arith, rw (none_open_code, e) at h)), λ h. absurd (h (eqb-true _ _ e)))
    by_test false e = (λ h. eqb-false _ _ e, λ h. rw (none_open_code, e))

-- 16 not on asking for n pairs up to the most,
pub few_asked : (n : ℕ) → (asked_code n ≡ 0) ↔ (n ≤ most_asked)
unfolding asked_code
few_asked n = by_test (leb n most_asked) refl
  where
    by_test : (t : Bool) → leb n most_asked ≡ t → (asked_code n ≡ 0) ↔ (n ≤ most_asked)
    by_test true e = (λ h. leb-true _ _ e, λ h. rw (asked_code, e))
    by_test false e = (λ h. absurd (omega (arith, rw (asked_code, e) at h)), λ h. absurd (omega (arith, leb-false n most_asked e)))

-- nor on taking as many as that into a block of just so many samples;
pub just_taken : (g : Generator) (n : ℕ) → (taken_code g n ≡ 0) ↔ ((g.asked ≤ most_asked) × (n ≡ 2 * g.asked))
unfolding taken_code
just_taken g n = by_tests (eqb (asked_code g.asked) 0) refl (eqb n (2 * g.asked)) refl
  where
    by_tests : (t : Bool) → eqb (asked_code g.asked) 0 ≡ t → (u : Bool) → eqb n (2 * g.asked) ≡ u
        → (taken_code g n ≡ 0) ↔ ((g.asked ≤ most_asked) × (n ≡ 2 * g.asked))
    by_tests true e true f = (λ h. ((few_asked g.asked).0 (eqb-true _ _ e), eqb-true _ _ f), λ h. rw (taken_code, e, f))
    by_tests true e false f = (λ h. absurd (omega (arith, rw (taken_code, e, f) at h)), λ h. absurd (eqb-false _ _ f h.1))
    by_tests false e u f = (
      λ h. absurd (omega (arith, rw (taken_code, e) at h)),
      λ h. absurd (eqb-false _ _ e ((few_asked g.asked).1 h.0)),
    )

-- 4 not for an even length.
pub even_length : (n : ℕ) → (length_code n ≡ 0) ↔ (n % 2 ≡ 0)
unfolding length_code
even_length n = by_test (eqb (n % 2) 0) refl
  where
    by_test : (t : Bool) → eqb (n % 2) 0 ≡ t → (length_code n ≡ 0) ↔ (n % 2 ≡ 0)
    by_test true e = (λ h. eqb-true (n % 2) 0 e, λ h. rw (length_code, e))
    by_test false e = (λ h. absurd (omega (arith, rw (length_code, e) at h)), λ h. absurd (eqb-false (n % 2) 0 e h))

-- The count has room for n pairs more, or would pass its most.
pub count_room : (g : Generator) (n : ℕ) → (count_code g n ≡ 0) ↔ (g.count + n ≤ most_count)
unfolding count_code
count_room g n = by_test (leb (g.count + n) most_count) refl
  where
    by_test : (t : Bool) → leb (g.count + n) most_count ≡ t → (count_code g n ≡ 0) ↔ (g.count + n ≤ most_count)
    by_test true e = (λ h. leb-true _ _ e, λ h. rw (count_code, e))
    by_test false e = (λ h. absurd (omega (arith, rw (count_code, e) at h)), λ h. absurd (omega (arith, leb-false (g.count + n) most_count e)))

-- where it has room for them, the record n pairs on is that
pub with_room : (g next : Generator) (n : ℕ) {r : Generator} → r ≡ if_accepted (count_code g n) next g → g.count + n ≤ most_count → r ≡ next
with_room g next n is room = is ∙ rw ((count_room g n).1 room)

pub count_full : (g : Generator) (n : ℕ) → (count_code g n ≡ 13) ↔ (most_count < g.count + n)
unfolding count_code
count_full g n = by_test (leb (g.count + n) most_count) refl
  where
    by_test : (t : Bool) → leb (g.count + n) most_count ≡ t → (count_code g n ≡ 13) ↔ (most_count < g.count + n)
    by_test true e = (λ h. absurd (omega (arith, rw (count_code, e) at h)), λ h. absurd (omega (arith, leb-true (g.count + n) most_count e)))
    by_test false e = (λ h. leb-false _ _ e, λ h. rw (count_code, e))

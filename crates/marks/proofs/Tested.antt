-- The tests of a call, one after the other: the first that is not passed gives its refusal code.
use Rattle.std.proofs.Common.{◌≡◌, refl, sym, ◌∙◌, ap, subst, ℕ, ◌<◌, List, [], ◌∷◌, length, Option, Some, None, MatchOption, ok_or, position, lt-ltb}
use Rattle.streams.specs.declared.Generator.{Generator}
use Rattle.streams.specs.declared.Refusal.{Refusal}
use Rattle.streams.specs.Refusals.{number}
use Rattle.streams.specs.Streams.{record_code, open_code, first_cause}
use Rattle.streams.proofs.Causes.{lone_cause}
use Rattle.streams.proofs.Refused.{number_not_0}
use Rattle.marks.specs.declared.label.Label.{Label}
use Rattle.marks.specs.declared.call.Refusal.{Refusal as MarkRefusal}
use Rattle.marks.specs.Codes.{mark_number, mark_code, or_places, Within}
use Rattle.marks.specs.Marks.{places, has_name, is_free, place_of, save_place, idle_code, place_code}
use Rattle.marks.proofs.Searches.{found_first, found_within}

-- ---- The record

pub unfit : (g : Generator) (refusal : Refusal) → number refusal ≡ record_code g → number refusal ≡ idle_code g
unfolding idle_code
unfit g refusal e = rw (← e, number_not_0 refusal)

pub fit : (g : Generator) {code : ℕ} → 0 ≡ record_code g → code ≡ open_code g → code ≡ idle_code g
unfolding idle_code
fit g none e = rw (← none) (e ∙ sym (lone_cause _))

-- ---- A call

-- the code of a call whose record and name pass is that of its place
pub at_place : {busy malformed absent code : ℕ} → busy ≡ 0 → 0 ≡ malformed → code ≡ absent → code ≡ first_cause (busy ∷ malformed ∷ absent ∷ [])
at_place ready well e = rw (ready, ← well) (e ∙ sym (lone_cause _))

pub place_is : (found : Option ℕ) (absent : MarkRefusal) → Within found
    → mark_code (ok_or found absent) ≡ place_code (or_places found) (mark_number absent)
unfolding place_code
place_is (Some place) absent within = rw (lt-ltb place 16 within)
place_is None absent within = refl

-- ---- The place that a name is saved in

module _ (labels : List Label) (size : length labels ≡ places) (x : List ℕ) where
  held_first : (place : ℕ) → Some place ≡ position (has_name x) labels → place ≡ save_place labels x
  unfolding save_place
  held_first place e =
      let first : place ≡ place_of labels x = ap or_places e ∙ found_first (has_name x) labels size in
      let within : place < places = subst Within (sym e) (found_within (has_name x) labels size) in
      rw (save_place, ← first, lt-ltb place 16 within)

  next_free : None ≡ position (has_name x) labels → or_places (position is_free labels) ≡ save_place labels x
  unfolding save_place
  next_free e =
      let none : places ≡ place_of labels x = ap or_places e ∙ found_first (has_name x) labels size in
      rw (save_place, ← none) (found_first is_free labels size)

  pub held_or_free : (held found : Option ℕ) → held ≡ position (has_name x) labels → {P : Type 0} → MatchOption held P (λ place. found ≡ Some place)
      → (P → found ≡ position is_free labels) → or_places found ≡ save_place labels x
  held_or_free (Some place) found e h free = ap or_places h ∙ held_first place e
  held_or_free None found e h free = ap or_places (free h) ∙ next_free e

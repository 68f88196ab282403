-- From the fields of a line to what it says.
use Prim.Native.Nat.{ℕ, ◌+◌, ◌≤◌}
use native.Mathlib.Omega.{arith}
use mathlib.Core.Path.{◌≡◌, refl, sym, ◌∙◌}
use mathlib.Core.Bool.{Bool, true, false, cond, ◌&&◌}
use mathlib.Core.List.{List, [], ◌∷◌}
use mathlib.Core.Option.{some, none}
use lib.ListN.{get_or}
use Rattle.std.proofs.Common.{Option, Some, None, Result, Ok}
use Rattle.text.specs.Fields.{name, digit_string, value, Spells, SpellThree}
use Rattle.text.specs.Forms.{read_form, or_else, marks, fields_at, found_of, no_place}
use Rattle.text.specs.declared.field.Place.{Place}
use Rattle.text.specs.declared.form.Found.{Found}
use Rattle.text.proofs.FoundFields.{part_at, field_place, found, missed}
use Rattle.text.proofs.Readings.{there, not_there, all_there}
use Rattle.listing_rows.specs.Private.{of_two, RowAt}
use Rattle.listing_rows.specs.Rows.{header, header_of, row_form, end_form}
use Rattle.listing_rows.specs.Entries.{high_at, leg, last, neither, leg_of, end_of, read_entry}

-- the fields of each form
pub header_marks : (b : Bool) → 0 ≡ marks (header_of b)
unfolding marks header header_of
header_marks true = refl
header_marks false = refl

pub row_marks : (b : Bool) → high_at b + 2 ≡ marks (row_form b)
unfolding marks row_form high_at
row_marks true = refl
row_marks false = refl

pub end_marks : 1 ≡ marks end_form
unfolding marks end_form
end_marks = refl

pub high_range : (b : Bool) → (2 ≤ high_at b) × (high_at b ≤ 3)
unfolding high_at
high_range true = omega arith
high_range false = omega arith

pub row_few : (b : Bool) → marks (row_form b) ≤ 6
row_few b = omega (arith, row_marks b, high_range b)

-- how a line is read, once it is known which form it has
module _ (b : Bool) (l : List ℕ) where
  pub read_row : (vs : List (List ℕ)) → read_form (row_form b) l ≡ some vs → read_entry b l ≡ leg_of (high_at b) vs
  unfolding read_entry
  read_row vs e = rw (e, read_entry)

  pub read_end : (vs : List (List ℕ)) → read_form (row_form b) l ≡ none → read_form end_form l ≡ some vs → read_entry b l ≡ end_of vs
  unfolding read_entry
  read_end vs p e = rw (p, e, read_entry)

  pub read_neither : read_form (row_form b) l ≡ none → read_form end_form l ≡ none → read_entry b l ≡ neither
  unfolding read_entry
  read_neither p e = rw (p, e, read_entry)

-- a shot by the fields of its row, as of one with two readings
of_two_lem : (b : Bool) (v : List (List ℕ)) → leg_of (high_at b) v ≡ leg_of 3 (of_two b v)
unfolding leg_of high_at
of_two_lem true v = refl
of_two_lem false v = refl

-- a line by where the fields of a row stand in it
module _ (b : Bool) (line : List ℕ) (r : Option (List Place)) (h : RowAt b line r) where
  pub row_is : (places : List Place) → r ≡ Some places → read_entry b line ≡ leg_of 3 (fields_at line places)
  row_is places e =
      let (v, p, q) = rw e at h in
      read_row b line v p ∙ of_two_lem b v ∙ rw q

  pub row_other : r ≡ None → read_entry b line ≡ or_else (read_form end_form line) end_of neither
  unfolding read_entry
  row_other e =
      let p : read_form (row_form b) line ≡ none = rw e at h in
      rw (p, read_entry)

module _ (line : List ℕ) (places : List Place) where
  abbrev p : ℕ → List ℕ
  p i = part_at line places i

  -- a shot, by the places of its fields
  leg_at_lem : leg_of 3 (fields_at line places)
      ≡ cond (name (p 0) && name (p 1) && (digit_string (p 2) && digit_string (p 3) && digit_string (p 4)))
      (leg (p 0) (p 1) (value 0 (p 2)) (value 0 (p 3)) (value 0 (p 4)))
      neither
  unfolding leg_of
  leg_at_lem = rw (
    field_place line places 0,
    field_place line places 1,
    field_place line places 2,
    field_place line places 3,
    field_place line places 4,
  )

  pub leg_unnamed : false ≡ name (p 0) → neither ≡ leg_of 3 (fields_at line places)
  leg_unnamed e = rw (leg_at_lem, ← e)

  module _ (m : true ≡ name (p 0)) where
    pub leg_nowhere : false ≡ name (p 1) → neither ≡ leg_of 3 (fields_at line places)
    leg_nowhere e = rw (leg_at_lem, ← m, ← e)

    module _ (n : true ≡ name (p 1)) where
      pub leg_unmeasured : digit_string (p 2) && digit_string (p 3) && digit_string (p 4) ≡ false → neither ≡ leg_of 3 (fields_at line places)
      leg_unmeasured e = rw (leg_at_lem, ← m, ← n, e)

      pub leg_whole : (r : Option ℕ × Option ℕ × Option ℕ) → SpellThree (p 2) (p 3) (p 4) r → (low high step : ℕ) → r.0 ≡ Some low → r.1 ≡ Some high → r.2 ≡ Some step
          → leg (p 0) (p 1) low high step ≡ leg_of 3 (fields_at line places)
      leg_whole r s low high step e f g =
          let (t, u, v, w) = all_there _ _ _ r s low high step e f g in rw (leg_at_lem, ← m, ← n, t, u, v, w)

  -- the count of the last row, by its place
  end_at : end_of (fields_at line places) ≡ cond (digit_string (p 0)) (last (value 0 (p 0))) neither
  unfolding end_of
  end_at = rw (field_place line places 0)

-- the last row, or a line that is none
module _ (line : List ℕ) (r : Result (Found 1) (Found 1)) (e : r ≡ found_of 1 end_form line) where
  pub end_not : ((c : Found 1) → r ≡ Ok c → ⊥) → neither ≡ or_else (read_form end_form line) end_of neither
  end_not k = rw (missed end_form line 1 r e (sym end_marks) k)

  module _ (c : Found 1) (k : r ≡ Ok c) (d : Option ℕ) (s : Spells (digit_string (part_at line c.places 0)) (part_at line c.places 0) d) where
    end_here : or_else (read_form end_form line) end_of neither ≡ end_of (fields_at line c.places)
    end_here = rw (found end_form line 1 r e (sym end_marks) c k)

    pub end_uncounted : d ≡ None → neither ≡ or_else (read_form end_form line) end_of neither
    end_uncounted f = rw (end_here, end_at line c.places, not_there _ _ d s f)

    pub end_counted : (n : ℕ) → d ≡ Some n → last n ≡ or_else (read_form end_form line) end_of neither
    end_counted n f = let (t, u) = there _ _ d n s f in rw (end_here, end_at line c.places, t, u)

-- where the fields of a row stand, by what the reader of forms found
module _ (line : List ℕ) (r : Result (Found 5) (Found 5)) (e : r ≡ found_of 5 (row_form true) line) where
  pub not_of_two : ((c : Found 5) → r ≡ Ok c → ⊥) → RowAt true line None
  unfolding high_at
  not_of_two k = missed (row_form true) line 5 r e (sym (row_marks true)) k

  pub row_of_two : (c : Found 5) → r ≡ Ok c → RowAt true line (Some c.places)
  unfolding high_at
  row_of_two c k = (fields_at line c.places, found (row_form true) line 5 r e (sym (row_marks true)) c k, refl)

module _ (line : List ℕ) (r : Result (Found 4) (Found 4)) (e : r ≡ found_of 4 (row_form false) line) where
  pub not_of_one : ((c : Found 4) → r ≡ Ok c → ⊥) → RowAt false line None
  unfolding high_at
  not_of_one k = missed (row_form false) line 4 r e (sym (row_marks false)) k

  pub row_of_one : (c : Found 4) → r ≡ Ok c
      → RowAt false line (Some (get_or c.places 0 no_place ∷ get_or c.places 1 no_place ∷ get_or c.places 2 no_place ∷ get_or c.places 2 no_place ∷ get_or c.places 3 no_place ∷ []))
  unfolding high_at
  row_of_one c k = (
    fields_at line c.places,
    found (row_form false) line 4 r e (sym (row_marks false)) c k,
    sym (rw (field_place line c.places 0, field_place line c.places 1, field_place line c.places 2, field_place line c.places 3)),
  )

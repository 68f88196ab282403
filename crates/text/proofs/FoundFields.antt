-- The fields that were found in a line, place by place.
use Prim.Native.Nat.{ℕ}
use native.Mathlib.Omega.{arith}
use mathlib.Core.Path.{◌≡◌, refl, sym, ap, ◌∙◌}
use mathlib.Core.List.{List, []}
use mathlib.Core.Option.{some, none}
use lib.Dec.{leb-zero}
use lib.ListN.{length, get_or, take, get_or-map}
use borrow.Author.Tests.{le-leb}
use Rattle.std.proofs.Common.{Result, Ok, Err}
use Rattle.text.specs.Fields.{part_of}
use Rattle.text.specs.Forms.{read_form, read_few, marks, fields_at, found_in, found_of, no_place}
use Rattle.text.specs.declared.field.Place.{Place}
use Rattle.text.specs.declared.form.Found.{Found}
use Rattle.text.proofs.Steps.{told, places_found, all_found}

-- the field at the i-th place
abbrev pub part_at : List ℕ → List Place → ℕ → List ℕ
part_at line places i = part_of line (get_or places i no_place)

no_place_lem : (line : List ℕ) → [] ≡ part_of line no_place
unfolding part_of
no_place_lem line = rw (leb-zero (length line))

pub field_place : (line : List ℕ) (places : List Place) (i : ℕ) → get_or (fields_at line places) i [] ≡ part_at line places i
field_place line places i =
    ap (λ (d : List ℕ). get_or (fields_at line places) i d) (no_place_lem line) ∙ get_or-map (part_of line) places i no_place

-- what was found of a form with so many fields
module _ (form line : List ℕ) (n : ℕ) (r : Result (Found n) (Found n)) (e : r ≡ found_of n form line) (m : marks form ≡ n) where
  reads : read_form form line ≡ found_in form line r
  unfolding read_few
  reads = sym (rw (le-leb (marks form) n (omega (arith, m)))) ∙ told n form line ∙ rw (← e)

  pub found : (c : Found n) → r ≡ Ok c → read_form form line ≡ some (fields_at line c.places)
  unfolding found_in
  found c k =
      let f = sym e ∙ k in
      let all : take (marks form) c.places ≡ c.places = places_found n form line c f ∙ sym (all_found n form line c m f) in
      reads ∙ rw (k, all)

  pub missed : ((c : Found n) → r ≡ Ok c → ⊥) → read_form form line ≡ none
  unfolding found_in
  missed h = reads ∙ go r h
    where
      go : (o : Result (Found n) (Found n)) → ((c : Found n) → o ≡ Ok c → ⊥) → found_in form line o ≡ none
      go (Ok c) k = absurd (k c refl)
      go (Err c) k = refl

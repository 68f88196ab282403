-- For private functions; no public contract cites these.
use Rattle.std.specs.Prelude.{ℕ, ◌≡◌, Bool, true, false, Option, Some, None, List, [], ◌∷◌}
use Rattle.std.proofs.Math.Option.{some, none}
use Rattle.text.specs.Forms.{read_form, field_at, fields_at}
use Rattle.text.specs.declared.field.Place.{Place}
use Rattle.listing_rows.specs.Rows.{row_form}

-- the fields of a shot's row as those of two readings: one distance is both the shortest and the longest
abbrev pub of_two : Bool → List (List ℕ) → List (List ℕ)
of_two true v = v
of_two false v = field_at v 0 ∷ field_at v 1 ∷ field_at v 2 ∷ field_at v 2 ∷ field_at v 3 ∷ []

-- where these stand in a line, if it is such a row
abbrev pub RowAt : Bool → List ℕ → Option (List Place) → Type 0
RowAt between line None = read_form (row_form between) line ≡ none
RowAt between line (Some places) = (v : List (List ℕ)) × (read_form (row_form between) line ≡ some v) × (fields_at line places ≡ of_two between v)

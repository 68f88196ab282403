-- For private functions; no public contract cites these.
use Rattle.std.specs.Prelude.{ℕ, suc, ◌-◌, ◌*◌, ◌^◌, ◌<◌, ◌≡◌, Bool, true, false, Option, Some, None, not, ◌&&◌, ◌||◌, List, ltb, eqb, length, drop}
use Rattle.text.specs.Limits.{decimal_bound}
use Rattle.text.specs.Fields.{name, value, part_of}
use Rattle.text.specs.Forms.{field_at}
use Rattle.survex_reader.specs.Limits.{tape_decimals, compass_decimals}
use Rattle.survex_reader.specs.Legs.{words, word_at, digits_up_to, is_decimal, tape_in, compass_in}
use Rattle.survex_reader.specs.declared.leg.LegFields.{LegFields}
use Rattle.survex_reader.specs.declared.leg.LegNumbers.{LegNumbers}

-- the places of a leg's fields
pub record FieldsAt (line : List ℕ) (f : LegFields) : Type 0 where
  pub from_place : f.from ≡ word_at line 0
  pub to_place : f.to ≡ word_at line (word_at line 0).to
  pub from : part_of line f.from ≡ field_at (words line) 0
  pub to : part_of line f.to ≡ field_at (words line) 1
  pub tape : part_of line f.tape ≡ field_at (words line) 2
  pub compass : part_of line f.compass ≡ field_at (words line) 3
  pub clino : part_of line f.clino ≡ field_at (words line) 4

-- just where a line has five
abbrev pub Fielded : List ℕ → Option LegFields → Type 0
Fielded line (Some f) = (eqb (length (words line)) 5 ≡ true) × FieldsAt line f
Fielded line None = eqb (length (words line)) 5 ≡ false

-- the decimals after a point
abbrev pub few_decimals : ℕ → List ℕ → ℕ → Bool
few_decimals most l point = not (ltb point (length l)) || digits_up_to most (drop (suc point) l)

abbrev pub DecimalsOf : ℕ → List ℕ → ℕ → Option ℕ → Type 0
DecimalsOf most l point (Some n) =
    (few_decimals most l point ≡ true) × (n ≡ value 0 (drop (suc point) l) * 10 ^ (most - length (drop (suc point) l))) × (n < decimal_bound * 10 ^ tape_decimals)
DecimalsOf most l point None = few_decimals most l point ≡ false

-- names and numbers of a leg's fields
abbrev pub numbered : List (List ℕ) → Bool
numbered v = name (field_at v 0) && (name (field_at v 1) && (is_decimal tape_decimals (field_at v 2) && is_decimal compass_decimals (field_at v 3)))

abbrev pub NumbersOf : List (List ℕ) → Option LegNumbers → Type 0
NumbersOf v (Some n) = (numbered v ≡ true) × (n.tape ≡ tape_in v) × (n.compass ≡ compass_in v)
NumbersOf v None = numbered v ≡ false

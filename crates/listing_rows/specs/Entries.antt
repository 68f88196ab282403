-- The lines of a listing as they are read (document 02, Job 13: "Names and numbers have a job's form").
use Rattle.std.specs.Prelude.{ℕ, ◌+◌, Bool, true, false, cond, ◌&&◌, List}
use Rattle.std.specs.Prelude.{Option as Found, Some, None}
use Rattle.std.proofs.Math.Option.{Option, some, none}
use Rattle.text.specs.Fields.{name, part_of}
use Rattle.text.specs.Forms.{read_form, or_else, field_at, digit_string_at, value_at}
use Rattle.listing_rows.specs.Rows.{header_of, row_form, end_form}
use Rattle.listing_rows.specs.declared.read.Kind.{Kind}
use Rattle.listing_rows.specs.declared.read.Kind.TheVariants.{OneDistance, TwoReadings}
use Rattle.listing_rows.specs.declared.read.Entry.{Entry}
use Rattle.listing_rows.specs.declared.read.Entry.TheVariants.{Shot, End}

-- the kind of a listing as the definitions have it: whether its distances lie between two readings
abbrev pub two_readings : Kind → Bool
two_readings OneDistance = false
two_readings TwoReadings = true

unfoldable pub is_some : Option (List (List ℕ)) → Bool
is_some (some fields) = true
is_some none = false

unfoldable pub is_header : Bool → List ℕ → Bool
is_header between line = is_some (read_form (header_of between) line)

-- A line after the header: a shot (from, to, low, high, step), the end with its count, or neither
pub data Said : Type 0 where
  leg : List ℕ → List ℕ → ℕ → ℕ → ℕ → Said
  last : ℕ → Said
  neither : Said

-- the field of the longest distance: where one distance is given, the same as the shortest's
unfoldable pub high_at : Bool → ℕ
high_at false = 2
high_at true = 3

-- a shot by the fields of its row, the longest distance in field h and the step after it
unfoldable pub leg_of : ℕ → List (List ℕ) → Said
leg_of h v =
    cond (name (field_at v 0) && name (field_at v 1) && (digit_string_at v 2 && digit_string_at v h && digit_string_at v (h + 1)))
    (leg (field_at v 0) (field_at v 1) (value_at v 2) (value_at v h) (value_at v (h + 1)))
    neither

unfoldable pub end_of : List (List ℕ) → Said
end_of v = cond (digit_string_at v 0) (last (value_at v 0)) neither

-- What a line says
unfoldable pub read_entry : Bool → List ℕ → Said
read_entry between line = or_else (read_form (row_form between) line) (leg_of (high_at between)) (or_else (read_form end_form line) end_of neither)

-- what each case of the enum says of a line
abbrev pub tells : List ℕ → Found Entry → Said
tells line (Some (Shot s)) = leg (part_of line s.from) (part_of line s.to) s.low s.high s.step
tells line (Some (End count)) = last count
tells line None = neither

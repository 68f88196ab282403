-- A leg of a Survex text (document 02, Job 12): its fields, its numbers, and the shot that it gives.
use Rattle.std.specs.Prelude.{ℕ, suc, ◌+◌, ◌-◌, ◌*◌, ◌/◌, ◌%◌, ◌^◌, ◌≡◌, Bool, false, cond, Option, Some, None, Result, Ok, Err, not, ◌&&◌, ◌||◌, List, [], ◌∷◌, leb, ltb, eqb, length, get_or, drop}
use Rattle.text.specs.Ascii.{ascii, byte}
use Rattle.text.specs.Scan.{one_of, up_to, before}
use Rattle.text.specs.Fields.{all, within, digit, name, value, part_of}
use Rattle.text.specs.Forms.{field_at}
use Rattle.noisy_shot.specs.Rounding.{turn_steps}
use Rattle.survex_reader.specs.Lines.{blank, not_blank}
use Rattle.text.specs.declared.field.Place.{Place}
use Rattle.survex_reader.specs.Limits.{whole_digits, tape_decimals, compass_decimals, most_tape, compass_turn}
use Rattle.job_lines.specs.declared.Shot.{Shot}
use Rattle.survex_reader.specs.declared.leg.LegRefusal.{LegRefusal}
use Rattle.survex_reader.specs.declared.leg.LegRefusal.TheVariants.{Form, Range}

-- ---- "five fields with blanks or tabs between"

unfoldable pub starts_word : List ℕ → Bool
starts_word [] = false
starts_word (x ∷ xs) = not (blank x)

-- the fields of a line
unfoldable pub words : List ℕ → List (List ℕ)
words [] = []
words (x ∷ xs) =
    let rest = words xs in
    cond (blank x) rest (cond (starts_word xs) (before x rest) ((x ∷ []) ∷ rest))

-- where the field after the blanks from a place on stands
unfoldable pub word_at : List ℕ → ℕ → Place
word_at line at =
    let from = at + length (up_to not_blank (drop at line)) in
    record { from = from; to = from + length (up_to blank (drop from line)) }

-- ---- "Tape and compass are 1 to 4 digits, then perhaps a point and 1 or more decimals; too many decimals get 21."

-- the digits before the point, whether there is one, and the decimals after it
abbrev pub whole : List ℕ → List ℕ
whole l = up_to (one_of (ascii ".")) l

abbrev pub pointed : List ℕ → Bool
pointed l = ltb (length (whole l)) (length l)

abbrev pub decimals : List ℕ → List ℕ
decimals l = drop (suc (length (whole l))) l

abbrev pub digits_up_to : ℕ → List ℕ → Bool
digits_up_to most l = within 1 most (length l) && all digit l

-- whether it is a number of at most so many decimals
unfoldable pub is_decimal : ℕ → List ℕ → Bool
is_decimal most l = digits_up_to whole_digits (whole l) && (not (pointed l) || digits_up_to most (decimals l))

-- what it says, in units of the last of these decimals
unfoldable pub scaled : ℕ → List ℕ → ℕ
scaled most l = value 0 (whole l) * 10 ^ most + value 0 (decimals l) * 10 ^ (most - length (decimals l))

-- what it says, just where it is one
abbrev pub Reads : ℕ → List ℕ → Option ℕ → Type 0
Reads most l r = r ≡ cond (is_decimal most l) (Some (scaled most l)) None

-- ---- The leg

-- "degrees .. turned into the nearest of 65536 steps, halves up, 360 as 0", from hundredths of a degree
unfoldable pub step_of : ℕ → ℕ
step_of c = (2 * (c * turn_steps) + compass_turn) / (2 * compass_turn) % turn_steps

-- "Clino must be the single digit 0."
unfoldable pub level : List ℕ → Bool
level l = eqb (length l) 1 && eqb (get_or l 0 0) (byte "0")

-- the tape of a leg's fields in mm, and its compass in hundredths of a degree
abbrev pub tape_in : List (List ℕ) → ℕ
tape_in v = scaled tape_decimals (field_at v 2)

abbrev pub compass_in : List (List ℕ) → ℕ
compass_in v = scaled compass_decimals (field_at v 3)

-- five fields, two names and two numbers; else 21, "any other line, name or number form"
unfoldable pub leg_form : List (List ℕ) → Bool
leg_form v =
    eqb (length v) 5 &&
    (name (field_at v 0) && (name (field_at v 1) && (is_decimal tape_decimals (field_at v 2) && is_decimal compass_decimals (field_at v 3))))

-- both in their ranges, and a level shot; else 22, "a number out of range, or any other clino"
unfoldable pub leg_range : List (List ℕ) → Bool
leg_range v = leb (tape_in v) most_tape && (leb (compass_in v) compass_turn && level (field_at v 4))

-- What a leg says: a shot, or its refusal code
pub data Said : Type 0 where
  leg : List ℕ → List ℕ → ℕ → ℕ → Said
  wrong : ℕ → Said

-- from a leg's fields, "21 before 22"
unfoldable pub read_leg : List (List ℕ) → Said
read_leg v =
    cond (leg_form v)
    (cond (leg_range v) (leg (field_at v 0) (field_at v 1) (tape_in v) (step_of (compass_in v))) (wrong 22))
    (wrong 21)

-- the code of each refusal, and back
abbrev pub code_of : LegRefusal → ℕ
code_of Form = 21
code_of Range = 22

abbrev pub refusal_of : ℕ → LegRefusal
refusal_of code = cond (eqb code 21) Form Range

-- what the answer says of a line
abbrev pub leg_in : List ℕ → Result Shot LegRefusal → Said
leg_in line (Ok s) = leg (part_of line s.from) (part_of line s.to) s.distance s.bearing
leg_in line (Err e) = wrong (code_of e)

-- the answer for what a line says: the names of a leg by the places of the first field and of the one after it
unfoldable pub leg_at : List ℕ → Said → Result Shot LegRefusal
leg_at line (leg from to d b) = Ok (record { from = word_at line 0; to = word_at line (word_at line 0).to; distance = d; bearing = b })
leg_at line (wrong code) = Err (refusal_of code)

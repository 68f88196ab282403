-- The three forms of a line (document 01, "A job and its listing"): the printer and the reader of each.
use Rattle.std.specs.Prelude.{ℕ, ◌<◌, ◌≡◌, true, cond, Option, Some, None, ◌&&◌, List, [], ◌∷◌, get_or}
use Rattle.text.specs.Limits.{decimal_bound}
use Rattle.text.specs.Ascii.{ascii}
use Rattle.text.specs.Fields.{name, decimal, part_of}
use Rattle.text.specs.Forms.{print_form, read_form, or_else, field_at, value_at, digit_string_at, three_at, no_place, places_from}
use Rattle.text.specs.declared.field.Place.{Place}
use Rattle.job_lines.specs.declared.Seeds.{Seeds as SeedsFields}
use Rattle.job_lines.specs.declared.Sigma.{Sigma as SigmaFields}
use Rattle.job_lines.specs.declared.Shot.{Shot as ShotFields}
use Rattle.job_lines.specs.declared.Line.{Line}
use Rattle.job_lines.specs.declared.Line.TheVariants.{Seeds, Sigma, Shot}

-- A form is written with # for each name or number, and ends with the line feed.
-- Line 1
unfoldable pub seeds_form : List ℕ
seeds_form = ascii "(seeds (a # # #) (b # # #))\n"

-- Line 2
unfoldable pub sigma_form : List ℕ
sigma_form = ascii "(sigma # #)\n"

-- each line after that
unfoldable pub shot_form : List ℕ
shot_form = ascii "(shot # # # #)\n"

-- A line once read: one of the three kinds, or no form
pub data Form : Type 0 where
  seeds : ℕ → ℕ → ℕ → ℕ → ℕ → ℕ → Form
  sigma : ℕ → ℕ → Form
  shot : List ℕ → List ℕ → ℕ → ℕ → Form
  no_form : Form

unfoldable pub seeds_of : List (List ℕ) → Form
seeds_of v =
    cond (three_at v 0 && three_at v 3)
    (seeds (value_at v 0) (value_at v 1) (value_at v 2) (value_at v 3) (value_at v 4) (value_at v 5))
    no_form

unfoldable pub sigma_of : List (List ℕ) → Form
sigma_of v = cond (digit_string_at v 0 && digit_string_at v 1) (sigma (value_at v 0) (value_at v 1)) no_form

unfoldable pub shot_of : List (List ℕ) → Form
shot_of v =
    cond (name (field_at v 0) && name (field_at v 1) && digit_string_at v 2 && digit_string_at v 3)
    (shot (field_at v 0) (field_at v 1) (value_at v 2) (value_at v 3))
    no_form

-- What a line says
unfoldable pub read_line : List ℕ → Form
read_line line =
    or_else (read_form seeds_form line) seeds_of (or_else (read_form sigma_form line) sigma_of (or_else (read_form shot_form line) shot_of no_form))

-- The line that says it
unfoldable pub print_line : Form → List ℕ
print_line (seeds a0 a1 a2 b0 b1 b2) =
    print_form seeds_form (decimal a0 ∷ decimal a1 ∷ decimal a2 ∷ decimal b0 ∷ decimal b1 ∷ decimal b2 ∷ [])
print_line (sigma d b) = print_form sigma_form (decimal d ∷ decimal b ∷ [])
print_line (shot from to d b) = print_form shot_form (from ∷ to ∷ decimal d ∷ decimal b ∷ [])
print_line no_form = []

-- What has a line: names that are names, and numbers that have a digit string
unfoldable pub Printable : Form → Type 0
Printable (seeds a0 a1 a2 b0 b1 b2) =
    (a0 < decimal_bound) × (a1 < decimal_bound) × (a2 < decimal_bound) × (b0 < decimal_bound) × (b1 < decimal_bound) × (b2 < decimal_bound)
Printable (sigma d b) = (d < decimal_bound) × (b < decimal_bound)
Printable (shot from to d b) = (name from ≡ true) × (name to ≡ true) × (d < decimal_bound) × (b < decimal_bound)
Printable no_form = ⊥

-- ---- The line once read, as the code holds it

-- the seeds, the sigmas and the shot that a line says
abbrev pub seeds_in : SeedsFields → Form
seeds_in x = seeds x.a.0 x.a.1 x.a.2 x.b.0 x.b.1 x.b.2

abbrev pub sigma_in : SigmaFields → Form
sigma_in x = sigma x.distance x.bearing

abbrev pub shot_in : List ℕ → ShotFields → Form
shot_in line x = shot (part_of line x.from) (part_of line x.to) x.distance x.bearing

-- what each case of the enum says of a line: the three kinds with their values
abbrev pub line_says : List ℕ → Line → Form
line_says line (Seeds s) = seeds_in s
line_says line (Sigma s) = sigma_in s
line_says line (Shot s) = shot_in line s

-- and where there is none, no form
abbrev pub said : List ℕ → Option Line → Form
said line (Some x) = line_says line x
said line None = no_form

-- where the first and the second name of a shot's line stand in it
abbrev pub name_place : List ℕ → ℕ → Place
name_place line i = get_or (places_from 0 shot_form line) i no_place

-- the case of the enum for what a line says
unfoldable pub line_in : List ℕ → Form → Option Line
line_in line (seeds a0 a1 a2 b0 b1 b2) = Some (Seeds (record { a = (a0, a1, a2); b = (b0, b1, b2) }))
line_in line (sigma d b) = Some (Sigma (record { distance = d; bearing = b }))
line_in line (shot from to d b) = Some (Shot (record { from = name_place line 0; to = name_place line 1; distance = d; bearing = b }))
line_in line no_form = None

-- What the definitions of a job say, as theorems: the record below has a proof in proofs/Theorems.antt.
use Rattle.std.specs.Prelude.{ℕ, ◌+◌, ◌≤◌, ◌<◌, ◌≡◌, List, [], ◌∷◌, ◌++◌, map, ◌↔◌, length, ℤ}
use Rattle.streams.specs.declared.Generator.{Generator}
use Rattle.streams.specs.Streams.{seed_of, after}
use Rattle.box_muller.specs.Steps.{fraction_bits}
use Rattle.noise.specs.Noise.{PairAnswer, pair_of}
use Rattle.text.specs.Ascii.{byte}
use Rattle.text.specs.Fields.{decimal}
use Rattle.text.specs.Scan.{lines}
use Rattle.job.specs.Limits.{listing_room, longest_listing}
use Rattle.job_reader.specs.Limits.{most_bytes}
use Rattle.job_lines.specs.Forms.{Form, seeds, sigma, shot, no_form, read_line, print_line, Printable}
use Rattle.noisy_shot.specs.Rounding.{noisy_distance, noisy_bearing}
use Rattle.listing_rows.specs.Rows.{header, end_row}
use Rattle.job_reader.specs.Refusals.{refusal}
use Rattle.job_reader.specs.Setting.{start}
use Rattle.job.specs.Job.{refused, listed, job_of, answer_of, noisy_row, printed, setting_after}
use Rattle.job_reader.specs.declared.walk.Setting.{Setting}

-- the text that says these forms, a line each
unfoldable pub text_of : List Form → List ℕ
text_of [] = []
text_of (x ∷ xs) = print_line x ++ text_of xs

-- the rows of these lines in their order, each with the setting that those before it left
unfoldable pub rows : Setting → List Form → List ℕ
rows s [] = []
rows s (x ∷ xs) = printed x s ++ rows (setting_after x s) xs

-- the shots among these lines
unfoldable pub is_shot : Form → ℕ
is_shot (seeds a0 a1 a2 b0 b1 b2) = 0
is_shot (sigma d b) = 0
is_shot (shot from to d b) = 1
is_shot no_form = 0

unfoldable pub shots : List Form → ℕ
shots [] = 0
shots (x ∷ xs) = is_shot x + shots xs

-- every line is one that can be printed and is accepted in its place, from line k on
unfoldable pub Accepts : ℕ → List Form → Type 0
Accepts k [] = Unit {0}
Accepts k (x ∷ xs) = Printable x × (refusal k x ≡ 0) × Accepts (k + 1) xs

-- what a shot's line says
pub record ShotLine : Type 0 where
  pub from : List ℕ
  pub to : List ℕ
  pub distance : ℕ
  pub bearing : ℕ

abbrev pub form_of : ShotLine → Form
form_of x = shot x.from x.to x.distance x.bearing

-- pair i of a record, the first being pair 0
abbrev pub pair_at : ℕ → Generator → PairAnswer
pair_at i g = pair_of fraction_bits (after i g)

-- the rows of these shots, the first of them shot i: each with the sigmas and "one pair", shot i with pair i of the record
unfoldable pub rows_from : ℕ → ℕ → ℕ → Generator → List ShotLine → List ℕ
rows_from i distance bearing g [] = []
rows_from i distance bearing g (x ∷ xs) =
    noisy_row distance bearing x.from x.to x.distance x.bearing (pair_at i g).first (pair_at i g).second
    ++ rows_from (i + 1) distance bearing g xs

-- a listed job: seeds on line 1, sigmas on line 2, and then the shots
pub record Drawn (text bytes : List ℕ) : Type 0 where
  pub a0 : ℕ
  pub a1 : ℕ
  pub a2 : ℕ
  pub b0 : ℕ
  pub b1 : ℕ
  pub b2 : ℕ
  pub distance : ℕ
  pub bearing : ℕ
  pub all : List ShotLine
  pub said : text_of (seeds a0 a1 a2 b0 b1 b2 ∷ sigma distance bearing ∷ map form_of all) ≡ text
  -- seeding is accepted, and so is the pair of each shot
  pub seeded : (seed_of a0 a1 a2 b0 b1 b2).code ≡ 0
  pub drawn : (i : ℕ) → i < length all → (pair_at i (seed_of a0 a1 a2 b0 b1 b2).next).code ≡ 0
  -- shot i, from 0, takes pair i of the record that the seeds give
  pub listing : bytes ≡ header ++ (rows_from 0 distance bearing (seed_of a0 a1 a2 b0 b1 b2).next all ++ end_row (length all))

pub record Theorems : Type 0 where
  -- a job is listed just where its text says accepted lines, two at least, in few enough bytes: the header, the rows of its
  -- shots in the job's order, and the count of shots
  pub listed_job : (xs : List Form) → Accepts 1 xs → 2 ≤ length xs → length (text_of xs) ≤ most_bytes
      → job_of (text_of xs) ≡ listed (header ++ (rows start xs ++ end_row (shots xs)))
  pub job_listed : (text bytes : List ℕ) → job_of text ≡ listed bytes
      → (xs : List Form) × Accepts 1 xs × (2 ≤ length xs) × (text_of xs ≡ text) ×
      (bytes ≡ header ++ (rows start xs ++ end_row (shots xs)))
  -- "each shot takes one pair": the row of shot i has the samples of the pair after i pairs of the seeded record, with line 2's sigmas
  pub shot_pairs : (text bytes : List ℕ) → job_of text ≡ listed bytes → Drawn text bytes
  -- the first line that is not accepted gives code and line; a text of accepted lines that ends before line 2 lacks the next
  pub first_bad_lem : (text l : List ℕ) (xs : List Form) (ls : List (List ℕ)) → length text ≤ most_bytes → Accepts 1 xs
      → lines text ≡ map print_line xs ++ (l ∷ ls) → (refusal (1 + length xs) (read_line l) ≡ 0 → ⊥)
      → job_of text ≡ refused (refusal (1 + length xs) (read_line l)) (1 + length xs)
  pub missing_line : (text : List ℕ) (xs : List Form) → length text ≤ most_bytes → Accepts 1 xs → lines text ≡ map print_line xs
      → length xs < 2 → job_of text ≡ refused 8 (1 + length xs)
  -- 5 just where the job is "over 60,000 bytes", and 10 just where it is listed and the listing is "longer than the buffer"
  pub just_5 : (text : List ℕ) (room : ℕ) → ((answer_of (job_of text) room).code ≡ 5) ↔ (60000 < length text)
  pub just_10 : (text : List ℕ) (room : ℕ) → ((answer_of (job_of text) room).code ≡ 10)
      ↔ ((bytes : List ℕ) × (job_of text ≡ listed bytes) × (room < length bytes))
  -- both with line 0 and length 0
  pub told_5 : (text : List ℕ) (room : ℕ) → (answer_of (job_of text) room).code ≡ 5 → answer_of (job_of text) room ≡ record { code = 5; line = 0; length = 0 }
  pub told_10 : (text : List ℕ) (room : ℕ) → (answer_of (job_of text) room).code ≡ 10 → answer_of (job_of text) room ≡ record { code = 10; line = 0; length = 0 }
  -- the 501st shot, after 500 that are accepted, is refused with 9 at line 503, whatever it says and whatever follows
  pub shot_501 : (text : List ℕ) (xs : List Form) (from to : List ℕ) (d b : ℕ) (ls : List (List ℕ)) → length text ≤ 60000 → Accepts 1 xs
      → length xs ≡ 502 → Printable (shot from to d b) → lines text ≡ map print_line xs ++ (print_line (shot from to d b) ∷ ls)
      → job_of text ≡ refused 9 503
  -- "First sample to distance .., second to bearing": the row of a shot, with line 2's two sigmas and the two samples of one pair
  pub row : (sigmaMm sigmaStep : ℕ) (from to : List ℕ) (mm step : ℕ) (first second : ℤ) → noisy_row sigmaMm sigmaStep from to mm step first second
      ≡ from ++ (byte " " ∷ (to ++ (byte " " ∷ (decimal (noisy_distance sigmaMm mm first)
      ++ (byte " " ∷ (decimal (noisy_bearing sigmaStep step second) ++ (byte "\n" ∷ [])))))))
  -- a listing has at most so many bytes
  pub longest : (text bytes : List ℕ) → job_of text ≡ listed bytes → length bytes ≤ longest_listing
  -- a listing fits the listing program's buffer, so that it never prints 10
  pub fits : (text bytes : List ℕ) → job_of text ≡ listed bytes → length bytes ≤ listing_room
  pub never_too_long : (text : List ℕ) → (answer_of (job_of text) listing_room).code ≡ 10 → ⊥

-- A job's answer, from its bytes (document 01, "A job and its listing" and the table of causes).
use Rattle.std.specs.Prelude.{ℕ, ◌+◌, ◌-◌, cond, List, [], ◌∷◌, ◌++◌, leb, ltb, eqb, ℤ, length, drop, Result, Ok, Err}
use Rattle.box_muller.specs.Steps.{fraction_bits}
use Rattle.noise.specs.Noise.{pair_of}
use Rattle.text.specs.Scan.{lines}
use Rattle.job_reader.specs.Limits.{most_bytes}
use Rattle.job_lines.specs.Forms.{Form, seeds, sigma, shot, no_form, read_line}
use Rattle.noisy_shot.specs.Rounding.{noisy_distance, noisy_bearing}
use Rattle.listing_rows.specs.Rows.{header, shot_row, end_row, refused_row}
use Rattle.job_reader.specs.Refusals.{refusal}
use Rattle.job_reader.specs.Setting.{start, setting_on}
use Rattle.job_reader.specs.declared.walk.Setting.{Setting}
use Rattle.job.specs.Refusals.{code_of, line_of}
use Rattle.job.specs.declared.refusal.Refusal.{Refusal}
use Rattle.job.specs.declared.JobAnswer.{JobAnswer}

-- What a line leaves for those after it: "each shot takes one pair", and every other line leaves what it sets
unfoldable pub setting_after : Form → Setting → Setting
setting_after (seeds a0 a1 a2 b0 b1 b2) s = setting_on (seeds a0 a1 a2 b0 b1 b2) s
setting_after (sigma d b) s = setting_on (sigma d b) s
setting_after (shot from to d b) s = record
    { generator = (pair_of fraction_bits s.generator).next; distance = s.distance; bearing = s.bearing }
setting_after no_form s = setting_on no_form s

-- "every line printed for a job is the shot with that noise": the row of a shot with the samples of one pair
unfoldable pub noisy_row : ℕ → ℕ → List ℕ → List ℕ → ℕ → ℕ → ℤ → ℤ → List ℕ
noisy_row sigmaMm sigmaStep from to mm step first second =
    shot_row from to (noisy_distance sigmaMm mm first) (noisy_bearing sigmaStep step second)

-- What a line prints: of the one pair "First sample to distance (below 0 becomes 0), second to bearing (mod 65536)"
unfoldable pub printed : Form → Setting → List ℕ
printed (seeds a0 a1 a2 b0 b1 b2) s = []
printed (sigma d b) s = []
printed (shot from to d b) s =
    noisy_row s.distance s.bearing from to d b (pair_of fraction_bits s.generator).first (pair_of fraction_bits s.generator).second
printed no_form s = []

-- A job is refused with a code and a line, or listed
pub data Outcome : Type 0 where
  refused : ℕ → ℕ → Outcome
  listed : List ℕ → Outcome

abbrev pub onto : List ℕ → Outcome → Outcome
onto bytes (refused code line) = refused code line
onto bytes (listed rest) = listed (bytes ++ rest)

-- The lines from line k on. At the end the text lacks line 1 or 2 (8), or the count of shots follows: all lines but those two
unfoldable pub outcome : ℕ → Setting → List (List ℕ) → Outcome
outcome k s [] = cond (ltb k 3) (refused 8 k) (listed (end_row (k - 3)))
outcome k s (l ∷ ls) =
    cond (eqb (refusal k (read_line l)) 0)
    (onto (printed (read_line l) s) (outcome (k + 1) (setting_after (read_line l) s) ls))
    (refused (refusal k (read_line l)) k)

-- the header, and then line by line
unfoldable pub listing_of : List ℕ → Outcome
listing_of text = onto header (outcome 1 start (lines text))

-- "job over 60,000 bytes" first
unfoldable pub job_of : List ℕ → Outcome
job_of text = cond (ltb most_bytes (length text)) (refused 5 0) (listing_of text)

-- The call's answer with a buffer of a given length: "listing longer than the buffer lent" last
unfoldable pub answer_of : Outcome → ℕ → JobAnswer
answer_of (refused code line) room = record { code = code; line = line; length = 0 }
answer_of (listed bytes) room =
    cond (leb (length bytes) room)
    (record { code = 0; line = 0; length = length bytes })
    (record { code = 10; line = 0; length = 0 })

-- what is answered for a listing's length or a refusal
abbrev pub answer_in : Result ℕ Refusal → JobAnswer
answer_in (Ok n) = record { code = 0; line = 0; length = n }
answer_in (Err refusal) = record { code = code_of refusal; line = line_of refusal; length = 0 }

-- What the buffer then holds: "bytes beyond the listing's length keep their contents"; refused, what it held
unfoldable pub buffer_after : Outcome → List ℕ → List ℕ
buffer_after (refused code line) out = out
buffer_after (listed bytes) out = cond (leb (length bytes) (length out)) (bytes ++ drop (length bytes) out) out

-- What the listing program prints by way of a buffer of a given length: the listing, or its one line where the job is refused
unfoldable pub output_of : Outcome → ℕ → List ℕ
output_of (refused code line) room = refused_row code line
output_of (listed bytes) room = cond (leb (length bytes) room) bytes (refused_row 10 0)

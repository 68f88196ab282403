-- Why a line is refused (document 01, the table of causes, and "for a job 5, then the first bad line, within it 6, 8, 9, 7, 1;
-- last 10"; document 02, Job 1, puts 11 and 12 where 1 stood).
use Rattle.std.specs.Prelude.{ℕ, ◌+◌, Bool, true, false, cond, not, ◌||◌, List, [], ◌∷◌, ltb, eqb, Result, Ok, Err}
use Rattle.streams.specs.Streams.{seed_of}
use Rattle.job_reader.specs.Limits.{last_line, most_seed, most_sigma, most_distance, most_bearing}
use Rattle.job_lines.specs.Forms.{Form, seeds, sigma, shot, no_form, read_line}
use Rattle.job_reader.specs.declared.refusals.Cause.{Cause}
use Rattle.job_reader.specs.declared.refusals.Cause.TheVariants.{NoForm, OutOfRange, WrongPlace, TooManyShots, FirstStream, SecondStream, NotFollowing}
use Rattle.job_reader.specs.declared.refusals.BadLine.{BadLine}
use Rattle.job_reader.specs.declared.refusals.Refusal.{Refusal}
use Rattle.job_reader.specs.declared.refusals.Refusal.TheVariants.{JobTooLong, Line}

-- "line is none of the three forms, or lacks its line feed"
unfoldable pub formless : Form → Bool
formless (seeds a0 a1 a2 b0 b1 b2) = false
formless (sigma d b) = false
formless (shot from to d b) = false
formless no_form = true

-- "form in the wrong place": line 1 is the seeds, line 2 the sigmas, every other line a shot
unfoldable pub misplaced : ℕ → Form → Bool
misplaced k (seeds a0 a1 a2 b0 b1 b2) = not (eqb k 1)
misplaced k (sigma d b) = not (eqb k 2)
misplaced k (shot from to d b) = ltb k 3
misplaced k no_form = false

-- "501st shot"
unfoldable pub too_many : ℕ → Form → Bool
too_many k (seeds a0 a1 a2 b0 b1 b2) = false
too_many k (sigma d b) = false
too_many k (shot from to d b) = ltb last_line k
too_many k no_form = false

-- "number beyond its range"
unfoldable pub beyond : Form → Bool
beyond (seeds a0 a1 a2 b0 b1 b2) =
    ltb most_seed a0 || ltb most_seed a1 || ltb most_seed a2 || (ltb most_seed b0 || ltb most_seed b1 || ltb most_seed b2)
beyond (sigma d b) = ltb most_sigma d || ltb most_sigma b
beyond (shot from to d b) = ltb most_distance d || ltb most_bearing b
beyond no_form = false

-- "a register below its minimum in either stream": the code that seeding answers
unfoldable pub seed_code : Form → ℕ
seed_code (seeds a0 a1 a2 b0 b1 b2) = (seed_of a0 a1 a2 b0 b1 b2).code
seed_code (sigma d b) = 0
seed_code (shot from to d b) = 0
seed_code no_form = 0

-- the refusal code of line k that says x: its first cause in the order 6, 8, 9, 7 and seeding's, or 0 where it is accepted
unfoldable pub refusal : ℕ → Form → ℕ
refusal k x = cond (formless x) 6 (cond (misplaced k x) 8 (cond (too_many k x) 9 (cond (beyond x) 7 (seed_code x))))

-- ---- The numbers of the causes

abbrev pub number_of : Cause → ℕ
number_of NoForm = 6
number_of OutOfRange = 7
number_of WrongPlace = 8
number_of TooManyShots = 9
number_of FirstStream = 11
number_of SecondStream = 12
number_of NotFollowing = 23

-- "job over 60,000 bytes"; a line's cause
abbrev pub code_of : Refusal → ℕ
code_of JobTooLong = 5
code_of (Line bad) = number_of bad.cause

-- the line at fault, 0 where none is
abbrev pub line_of : Refusal → ℕ
line_of JobTooLong = 0
line_of (Line bad) = bad.line

-- ---- The first bad line

-- a code and a line; 0 and 0 where no line is bad
pub record Verdict : Type 0 where
  pub code : ℕ
  pub line : ℕ

-- that of an answer
abbrev pub verdict_in : {A : Type 0} → Result A BadLine → Verdict
verdict_in (Ok x) = record { code = 0; line = 0 }
verdict_in (Err bad) = record { code = number_of bad.cause; line = bad.line }

-- "the first bad line", from line k on: its code and its number; "text ends before line 2 .. (missing: the next one)"; 0 and 0 where there is none
unfoldable pub first_bad : ℕ → List (List ℕ) → Verdict
first_bad k [] = cond (ltb k 3) (record { code = 8; line = k }) (record { code = 0; line = 0 })
first_bad k (l ∷ ls) =
    cond (eqb (refusal k (read_line l)) 0) (first_bad (k + 1) ls) (record { code = refusal k (read_line l); line = k })

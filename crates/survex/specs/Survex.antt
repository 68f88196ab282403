-- A Survex text's legs as a job's shot lines (document 02, Job 12).
use Rattle.std.specs.Prelude.{ℕ, ◌+◌, Bool, true, false, cond, ◌&&◌, List, [], ◌∷◌, Result, Ok, Err}
use Rattle.std.proofs.Math.Option.{Option, some, none}
use Rattle.text.specs.Ascii.{ascii}
use Rattle.text.specs.Scan.{lines}
use Rattle.text.specs.Forms.{read_form}
use Rattle.job_lines.specs.Forms.{shot, print_line}
use Rattle.job.specs.Job.{Outcome, refused, listed, onto, answer_of}
use Rattle.survex_reader.specs.Lines.{left_of, fed, remains}
use Rattle.survex_reader.specs.Legs.{Said, leg, wrong, words, read_leg, code_of}
use Rattle.survex.specs.declared.refusal.Refusal.{Refusal}
use Rattle.survex.specs.declared.refusal.Refusal.TheVariants.{Line, TooLong}
use Rattle.survex.specs.declared.LegsAnswer.{LegsAnswer}

-- "The first remaining line is": a form without a field
unfoldable pub data_form : List ℕ
data_form = ascii "*data normal from to tape compass clino"

abbrev pub found : Option (List (List ℕ)) → Bool
found none = false
found (some fields) = true

unfoldable pub is_data : List ℕ → Bool
is_data l = fed l && found (read_form data_form (left_of l))

-- "the rest are legs"; a line that lacks its line feed is none, whatever else it says
unfoldable pub leg_line : List ℕ → Said
leg_line l = cond (fed l) (read_leg (words (left_of l))) (wrong 21)

-- "a job's shot lines, one a leg in order", before those of the lines to come; or the refusal of line k
abbrev pub on_leg : ℕ → Said → Outcome → Outcome
on_leg k (leg from to d b) rest = onto (print_line (shot from to d b)) rest
on_leg k (wrong code) rest = refused code k

-- The legs from line k on: lines that do not remain are passed over, and count
unfoldable pub legs_from : ℕ → List (List ℕ) → Outcome
legs_from k [] = listed []
legs_from k (l ∷ ls) = cond (remains l) (on_leg k (leg_line l) (legs_from (k + 1) ls)) (legs_from (k + 1) ls)

-- The data line and then the legs; "no data line, told at the next line"
unfoldable pub survex_from : ℕ → List (List ℕ) → Outcome
survex_from k [] = refused 21 k
survex_from k (l ∷ ls) = cond (remains l) (cond (is_data l) (legs_from (k + 1) ls) (refused 21 k)) (survex_from (k + 1) ls)

-- a text: refused with a code and a line, or its shot lines
unfoldable pub survex_of : List ℕ → Outcome
survex_of text = survex_from 1 (lines text)

-- The call's answer with a buffer of a given length, "line and length told as in a job"; the buffer is then as a job's is
-- (`buffer_after`)
abbrev pub legs_answer : Outcome → ℕ → LegsAnswer
legs_answer o room = record { code = (answer_of o room).code; line = (answer_of o room).line; length = (answer_of o room).length }

-- what is answered for a length or a refusal
abbrev pub answer_in : Result ℕ Refusal → LegsAnswer
answer_in (Ok n) = record { code = 0; line = 0; length = n }
answer_in (Err (Line bad)) = record { code = code_of bad.cause; line = bad.line; length = 0 }
answer_in (Err TooLong) = record { code = 10; line = 0; length = 0 }

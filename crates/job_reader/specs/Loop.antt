-- A job as a loop to be played, from its bytes: refused as the job is, and then where a shot does not start where the last one ended.
use Rattle.std.specs.Prelude.{ℕ, ◌+◌, ◌-◌, cond, List, [], ◌∷◌, map, eqb, ltb, length, set, Result, Ok, Err}
use Rattle.text.specs.Scan.{lines}
use Rattle.job_lines.specs.Forms.{Form, seeds, sigma, shot, no_form, read_line}
use Rattle.job_reader.specs.Limits.{most_bytes}
use Rattle.job_reader.specs.Refusals.{refusal, Verdict, first_bad, code_of, line_of}
use Rattle.job_reader.specs.Setting.{start, setting_on}
use Rattle.job_reader.specs.declared.walk.Setting.{Setting}
use Rattle.noisy_shot.specs.Shots.{Shot}
use Rattle.job_lines.specs.Links.{station_code}
use Rattle.job_reader.specs.declared.refusals.Refusal.{Refusal}
use Rattle.job_reader.specs.declared.loops.Loop.{Loop}
use Rattle.job_reader.specs.declared.loops.LoopShot.{LoopShot}

-- what the lines of a text say
abbrev pub forms_of : List ℕ → List Form
forms_of text = map read_line (lines text)

-- the shots that lines say
unfoldable pub shots_in : List Form → List Shot
shots_in [] = []
shots_in (shot from to d b ∷ xs) = record { distance = d; step = b } ∷ shots_in xs
shots_in (seeds a0 a1 a2 b0 b1 b2 ∷ xs) = shots_in xs
shots_in (sigma d b ∷ xs) = shots_in xs
shots_in (no_form ∷ xs) = shots_in xs

-- the record and the sigmas that they leave: no pair is drawn
unfoldable pub setting_in : Setting → List Form → Setting
setting_in s [] = s
setting_in s (x ∷ xs) = setting_in (setting_on x s) xs

-- where a line leads: a shot to its second station, another line to none
unfoldable pub station_after : Form → List ℕ
station_after (seeds a0 a1 a2 b0 b1 b2) = []
station_after (sigma d b) = []
station_after (shot from to d b) = to
station_after no_form = []

-- 23 for a shot that does not start at the station, else 0
unfoldable pub link_code : List ℕ → Form → ℕ
link_code station (seeds a0 a1 a2 b0 b1 b2) = 0
link_code station (sigma d b) = 0
link_code station (shot from to d b) = station_code station from
link_code station no_form = 0

-- the line in the job of the first shot that does not start where the last one ended, from line k on; 0 where there is none
unfoldable pub unlinked_line : ℕ → List ℕ → List Form → ℕ
unlinked_line k station [] = 0
unlinked_line k station (x ∷ xs) = cond (eqb (link_code station x) 0) (unlinked_line (k + 1) (station_after x) xs) k

-- A job is refused with a code and a line, or gives a setting and shots
pub data Outcome : Type 0 where
  refused : ℕ → ℕ → Outcome
  accepted : Setting → List Shot → Outcome

-- the first bad line of a text, "job over 60,000 bytes" before any
unfoldable pub bad_line : List ℕ → Verdict
bad_line text = cond (ltb most_bytes (length text)) (record { code = 5; line = 0 }) (first_bad 1 (lines text))

-- refused as the job is; once every line is accepted, with 23 at the first shot that does not start where the last one ended
abbrev pub linked : List Form → Verdict → Outcome
linked xs bad =
    cond (eqb bad.code 0)
    (cond (eqb (unlinked_line 1 [] xs) 0) (accepted (setting_in start xs) (shots_in xs)) (refused 23 (unlinked_line 1 [] xs)))
    (refused bad.code bad.line)

unfoldable pub loop_of : List ℕ → Outcome
loop_of text = linked (forms_of text) (bad_line text)

-- The answer: a code and a line, 0 and 0 where it is accepted; the number of its shots, and its setting
pub record LoopAnswer : Type 0 where
  pub code : ℕ
  pub line : ℕ
  pub count : ℕ
  pub setting : Setting

-- refused, no shots and the setting before line 1
unfoldable pub answer_of : Outcome → LoopAnswer
answer_of (refused code line) = record { code = code; line = line; count = 0; setting = start }
answer_of (accepted s l) = record { code = 0; line = 0; count = length l; setting = s }

-- what is returned says
abbrev pub answer_in : Result Loop Refusal → LoopAnswer
answer_in (Ok l) = record { code = 0; line = 0; count = l.count; setting = l.setting }
answer_in (Err r) = record { code = code_of r; line = line_of r; count = 0; setting = start }

-- ---- The caller's memory

-- a shot in it: its distance and its bearing
abbrev pub kept_shot : Shot → LoopShot
kept_shot x = record { distance = x.distance; bearing = x.step }

-- line 3 says shot 0; a shot without room is not kept
unfoldable pub kept_on : ℕ → Form → List LoopShot → List LoopShot
kept_on k (seeds a0 a1 a2 b0 b1 b2) memory = memory
kept_on k (sigma d b) memory = memory
kept_on k (shot from to d b) memory = set memory (k - 3) (kept_shot (record { distance = d; step = b }))
kept_on k no_form memory = memory

-- the lines from line k on, as far as they are accepted
unfoldable pub kept_from : ℕ → List Form → List LoopShot → List LoopShot
kept_from k [] memory = memory
kept_from k (x ∷ xs) memory = cond (eqb (refusal k x) 0) (kept_from (k + 1) xs (kept_on k x memory)) memory

unfoldable pub memory_after : List ℕ → List LoopShot → List LoopShot
memory_after text memory = cond (ltb most_bytes (length text)) memory (kept_from 1 (forms_of text) memory)

-- What a line of a job leaves for those after it (document 01, "A job and its listing").
use Rattle.std.specs.Prelude.{ℕ, ◌+◌, ◌≡◌, ◌≤◌, List, Option, Some, Result, MatchResult}
use Rattle.streams.specs.Streams.{seed_of}
use Rattle.job_lines.specs.Forms.{Form, seeds, sigma, shot, no_form, read_line, line_says, said, line_in}
use Rattle.job_lines.specs.declared.Line.{Line}
use Rattle.job_reader.specs.Limits.{most_sigma}
use Rattle.job_reader.specs.Refusals.{refusal, number_of}
use Rattle.job_reader.specs.declared.walk.Setting.{Setting}
use Rattle.job_reader.specs.declared.walk.Progress.{Progress}
use Rattle.job_reader.specs.declared.walk.Step.{Step}
use Rattle.job_reader.specs.declared.walk.Refused.{Refused}
use Rattle.job_reader.specs.declared.refusals.BadLine.{BadLine}

-- before line 1 there is no record and no sigma; no accepted job prints with these
unfoldable pub start : Setting
start = record { generator = (seed_of 0 0 0 0 0 0).next; distance = 0; bearing = 0 }

-- The seeds give the record, the sigmas are kept; of a shot, before its pair is drawn
unfoldable pub setting_on : Form → Setting → Setting
setting_on (seeds a0 a1 a2 b0 b1 b2) s =
    record { generator = (seed_of a0 a1 a2 b0 b1 b2).next; distance = s.distance; bearing = s.bearing }
setting_on (sigma d b) s = record { generator = s.generator; distance = d; bearing = b }
setting_on (shot from to d b) s = s
setting_on no_form s = s

-- Before line 1
unfoldable pub begun : Progress
begun = record { line = 1; setting = start }

-- after an accepted line that says x, before its pair is drawn
abbrev pub progress_on : Form → Progress → Progress
progress_on x p = record { line = p.line + 1; setting = setting_on x p.setting }

-- line k that says x is refused
pub record Refuses (k : ℕ) (x : Form) (bad : BadLine) : Type 0 where
  pub cause : refusal k x ≡ number_of bad.cause
  pub line : bad.line ≡ k

-- what a line says, or nothing where it is of no form
pub record Says (line : List ℕ) (says : Option Line) : Type 0 where
  pub form : said line says ≡ read_line line
  pub exact : says ≡ line_in line (read_line line)

-- a line is accepted: what it says, and the progress after it
pub record Accepts (line : List ℕ) (p : Progress) (step : Step) : Type 0 where
  pub accepted : refusal p.line (read_line line) ≡ 0
  pub says : line_says line step.says ≡ read_line line
  pub exact : Some step.says ≡ line_in line (read_line line)
  pub next : step.next ≡ progress_on (read_line line) p

-- one line more
abbrev pub ReadsOn : List ℕ → Progress → Result Step Refused → Type 0
ReadsOn line p r =
    MatchResult r (λ step. Accepts line p step) (λ refused. Refuses p.line (read_line line) refused.bad × Says line refused.says)

-- sigmas within their range
pub record Steady (distance bearing : ℕ) : Type 0 where
  pub sigma_distance : distance ≤ most_sigma
  pub sigma_bearing : bearing ≤ most_sigma

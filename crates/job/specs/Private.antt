-- For private functions; no public contract cites these.
use Rattle.std.specs.Prelude.{ℕ, ◌+◌, ◌*◌, ◌≤◌, ◌≡◌, List, [], length, Result, Err, MatchResult}
use Rattle.text.specs.Fields.{part_of}
use Rattle.text.specs.Buffer.{written}
use Rattle.job_reader.specs.Limits.{last_line}
use Rattle.job_reader.specs.Setting.{start, Steady, Refuses}
use Rattle.job_reader.specs.declared.refusals.BadLine.{BadLine}
use Rattle.job.specs.declared.refusal.Refusal.{Refusal}
use Rattle.job.specs.Limits.{listing_room}
use Rattle.job_lines.specs.Forms.{Form}
use Rattle.job_lines.specs.declared.Shot.{Shot as ShotFields}
use Rattle.job_reader.specs.Refusals.{refusal, number_of}
use Rattle.listing_rows.specs.Rows.{header, shot_row, row_room}
use Rattle.job.specs.Job.{Outcome, refused, listed, onto, outcome, answer_of, answer_in, printed, setting_after}
use Rattle.text.specs.declared.written.Written.{Written}
use Rattle.job_reader.specs.declared.walk.Setting.{Setting}
use Rattle.job.specs.declared.state.State.{State}

-- ---- What a line does to the state of a job

-- the row of a shot of a line, with these numbers
abbrev pub row_of : List ℕ → ShotFields → ℕ → ℕ → List ℕ
row_of line x mm step = shot_row (part_of line x.from) (part_of line x.to) mm step

-- after an accepted line k
abbrev pub next_state : ℕ → ℕ → Setting → State
next_state k used setting = record { read = record { line = k + 1; setting = setting }; used = used }

-- line k, accepted, that says x: the state after it, its listing as long as what was printed, and the buffer with what fits of that
unfoldable pub accepted_state : ℕ → ℕ → Setting → Form → State
accepted_state k used s x = next_state k (used + length (printed x s)) (setting_after x s)

unfoldable pub accepted_buffer : ℕ → Setting → Form → List ℕ → List ℕ
accepted_buffer used s x out = written out used (printed x s)

-- a line that says x, accepted or refused
abbrev pub Takes : Form → State → Result State BadLine → List ℕ → List ℕ → Type 0
Takes x s r out out' = MatchResult r
    (λ t. (refusal s.read.line x ≡ 0) × (t ≡ accepted_state s.read.line s.used s.read.setting x) × (out' ≡ accepted_buffer s.used s.read.setting x out))
    (λ bad. Refuses s.read.line x bad × (out' ≡ out))

-- what a line may rely on: the sigmas are within their range, and the listing so far is no longer than any
pub record Ready (s : State) : Type 0 where
  pub steady : Steady s.read.setting.distance s.read.setting.bearing
  pub short : s.used ≤ listing_room

-- a listing so far, and a row after it that has all its bytes
pub record Adds (used : ℕ) (row : Written row_room) : Type 0 where
  pub short : used ≤ listing_room
  pub whole : row.length ≤ length row.bytes
  pub room : row.length ≤ row_room

-- a listing so far, and the row of a shot after it
pub record AddsShot (used : ℕ) (row : List ℕ) : Type 0 where
  pub short : used ≤ listing_room
  pub room : length row ≤ row_room

-- line k, accepted, prints no more than a row
pub record Printing (k used : ℕ) (s : Setting) (x : Form) : Type 0 where
  pub accepted : refusal k x ≡ 0
  pub row : length (printed x s) ≤ row_room
  pub short : used ≤ listing_room

-- ---- A job half way and at its end

-- the header, and then line by line
abbrev pub listing_from : List (List ℕ) → Outcome
listing_from all = onto header (outcome 1 start all)

-- the lines before those that are left are accepted: what they left in the state and in the buffer, and what the lines left add to it. `out₀` is the
-- buffer with the header, and `bytes` the listing so far: where `before` was in the buffer, it now has as much of them as fits
pub record Going (all left : List (List ℕ)) (out₀ out : List ℕ) (s : State) : Type 0 where
  pub line : s.read.line ≤ last_line + 1
  pub steady : Steady s.read.setting.distance s.read.setting.bearing
  pub size : length out ≡ length out₀
  pub bytes : List ℕ
  pub used : s.used ≡ length bytes
  pub short : length bytes + 24 ≤ row_room * s.read.line
  pub wrote : (before : List ℕ) → out₀ ≡ written before 0 header → out ≡ written before 0 bytes
  pub so_far : listing_from all ≡ onto bytes (outcome s.read.line s.read.setting left)

-- all lines are accepted, or the first that is not gives code and line
abbrev pub Ended : List (List ℕ) → List ℕ → List ℕ → Result State BadLine → Type 0
Ended all out₀ out r = MatchResult r (λ s. Going all [] out₀ out s) (λ bad. listing_from all ≡ refused (number_of bad.cause) bad.line)

-- the listing's length, and as much of the listing in the buffer as fits; or the refusal
abbrev pub Wrote : Outcome → Result ℕ BadLine → List ℕ → List ℕ → Type 0
Wrote o r out out' = MatchResult r
    (λ n. (bytes : List ℕ) × (o ≡ listed bytes) × (n ≡ length bytes) × (out' ≡ written out 0 bytes))
    (λ bad. o ≡ refused (number_of bad.cause) bad.line)

-- the job is listed, and the listing fits a buffer of that length; or the refusal
abbrev pub Decided : Outcome → ℕ → Result (Unit {0}) Refusal → Type 0
Decided o room r = MatchResult r
    (λ _. (bytes : List ℕ) × (o ≡ listed bytes) × (length bytes ≤ room))
    (λ refusal. answer_of o room ≡ answer_in (Err refusal))

-- For private functions; no public contract cites these.
use Rattle.std.specs.Prelude.{ℕ, ◌+◌, ◌≤◌, ◌≡◌, cond, List, leb, length, drop, Option, Some, None, Result, Ok, MatchResult}
use Rattle.text.specs.Scan.{lines}
use Rattle.text.specs.Buffer.{written}
use Rattle.job_lines.specs.Forms.{shot, print_line}
use Rattle.job.specs.Job.{Outcome, refused, listed}
use Rattle.survex_reader.specs.Legs.{Said, leg, wrong, code_of}
use Rattle.survex.specs.Survex.{survex_of, legs_from, legs_answer}
use Rattle.survex.specs.declared.LegsAnswer.{LegsAnswer}
use Rattle.survex.specs.declared.refusal.BadLine.{BadLine}
use Rattle.survex.specs.declared.walk.Start.{Start}

-- ---- What is measured

-- so many bytes, where they fit the room
unfoldable pub measured_of : ℕ → ℕ → Option ℕ
measured_of room total = cond (leb total room) (Some total) None

unfoldable pub grown_of : ℕ → Option ℕ → ℕ → Option ℕ
grown_of room None n = None
grown_of room (Some used) n = measured_of room (used + n)

-- bytes after those that fit so far
abbrev pub put_of : List ℕ → Option ℕ → List ℕ → List ℕ
put_of out None bytes = out
put_of out (Some used) bytes = written out used bytes

-- what a leg leaves: what is measured after its line, and the buffer with it; or line k is refused
abbrev pub Takes : Said → ℕ → ℕ → Option ℕ → Result (Option ℕ) BadLine → List ℕ → List ℕ → Type 0
Takes (leg from to d b) k room m r out out' =
    (r ≡ Ok (grown_of room m (length (print_line (shot from to d b))))) × (out' ≡ put_of out m (print_line (shot from to d b)))
Takes (wrong code) k room m r out out' = MatchResult r (λ _. ⊥) (λ bad. (code_of bad.cause ≡ code) × (bad.line ≡ k))

-- ---- The whole text

-- a place of the text, and few enough lines before it
pub record Starts (text : List ℕ) (at line : ℕ) : Type 0 where
  pub place : at ≤ length text
  pub few : line ≤ at + 1

-- the data line, and the legs after it; or the refusal
abbrev pub DataFound : List ℕ → Result Start BadLine → Type 0
DataFound text r = MatchResult r
    (λ s. (survex_of text ≡ legs_from s.line (lines (drop s.at text))) × Starts text s.at s.line)
    (λ bad. survex_of text ≡ refused (code_of bad.cause) bad.line)

-- the answer, and the buffer where the bytes fit the room
pub record Converts (o : Outcome) (room : ℕ) (r : LegsAnswer) (out out' : List ℕ) : Type 0 where
  pub answer : r ≡ legs_answer o room
  pub wrote : (bytes : List ℕ) → o ≡ listed bytes → length bytes ≤ room → out' ≡ written out 0 bytes

-- For private functions; no public contract cites these.
use Rattle.std.specs.Prelude.{ℕ, ◌+◌, ◌-◌, ◌≤◌, ◌≡◌, cond, List, [], map, eqb, length, Option, Some, None, IfSome, Result, Ok, Err, MatchResult}
use Rattle.streams.specs.Streams.{seed_of}
use Rattle.streams.specs.declared.Stream.{Stream}
use Rattle.streams.specs.declared.Generator.{Generator}
use Rattle.job_lines.specs.Forms.{Form, seeds_in, read_line}
use Rattle.job_lines.specs.declared.Seeds.{Seeds as SeedsFields}
use Rattle.job_reader.specs.Limits.{last_line, most_seed}
use Rattle.job_reader.specs.Refusals.{refusal, number_of, first_bad}
use Rattle.job_reader.specs.Setting.{start, setting_on, progress_on, Refuses}
use Rattle.job_reader.specs.declared.refusals.Cause.{Cause}
use Rattle.job_reader.specs.declared.refusals.Cause.TheVariants.{OutOfRange}
use Rattle.job_reader.specs.declared.refusals.BadLine.{BadLine}
use Rattle.job_reader.specs.declared.walk.Setting.{Setting}
use Rattle.job_reader.specs.declared.walk.Progress.{Progress}
use Rattle.job_reader.specs.Loop as loop
use Rattle.job_reader.specs.declared.loops.Loop.{Loop}
use Rattle.job_reader.specs.declared.loops.LoopShot.{LoopShot}
use Rattle.job_reader.specs.declared.shot.State.{State}

-- ---- One line

abbrev pub Three : ℕ → ℕ → ℕ → Type 0
Three s0 s1 s2 = (s0 ≤ most_seed) × (s1 ≤ most_seed) × (s2 ≤ most_seed)

-- three seeds as registers, where all are within their range
abbrev pub ThreeWithin : ℕ → ℕ → ℕ → Result Stream Cause → Type 0
ThreeWithin s0 s1 s2 r = MatchResult r
    (λ u. (u ≡ record { s0 = s0; s1 = s1; s2 = s2 }) × Three s0 s1 s2)
    (λ e. (e ≡ OutOfRange) × (Three s0 s1 s2 → ⊥))

-- what seeds give on line 1
abbrev pub Gives : SeedsFields → Result Generator Cause → Type 0
Gives x r = MatchResult r
    (λ g. (refusal 1 (seeds_in x) ≡ 0) × (g ≡ (seed_of x.a.0 x.a.1 x.a.2 x.b.0 x.b.1 x.b.2).next))
    (λ e. refusal 1 (seeds_in x) ≡ number_of e)

-- line k that says x: the setting after it, or why it is refused
abbrev pub SetBy : Form → ℕ → Setting → Result Setting Cause → Type 0
SetBy x k s r = MatchResult r (λ t. (refusal k x ≡ 0) × (t ≡ setting_on x s)) (λ e. refusal k x ≡ number_of e)

-- ---- The walk

-- the lines before those that are left are accepted, and the first bad one is among these
pub record Reading (all left : List (List ℕ)) (p : Progress) : Type 0 where
  pub low : 1 ≤ p.line
  pub few : p.line ≤ last_line + 1
  pub ahead : first_bad 1 all ≡ first_bad p.line left

-- ---- One line of a loop

-- the line that was first unlinked, or this one where its link has a code
unfoldable pub first_unlinked : Option ℕ → ℕ → ℕ → Option ℕ
first_unlinked (Some k) line link = Some k
first_unlinked None line link = cond (eqb link 0) None (Some line)

-- an accepted line that says x: the state after it and the memory
pub record Keeps (x : Form) (s t : State) (old new : List LoopShot) : Type 0 where
  pub accepted : refusal s.read.line x ≡ 0
  pub read : t.read ≡ progress_on x s.read
  pub next : t.station.now ≡ loop.station_after x
  pub unlinked : t.unlinked ≡ first_unlinked s.unlinked s.read.line (loop.link_code s.station.now x)
  pub memory : new ≡ loop.kept_on s.read.line x old

-- any line
abbrev pub Takes : Form → State → Result State BadLine → List LoopShot → List LoopShot → Type 0
Takes x s r old new = MatchResult r (λ t. Keeps x s t old new) (λ bad. Refuses s.read.line x bad × (new ≡ old))

-- ---- A loop half way and at its end

-- the line that is known to be unlinked, or else that of the lines ahead
abbrev pub or_ahead : Option ℕ → ℕ → ℕ
or_ahead (Some k) ahead = k
or_ahead None ahead = ahead

-- beside the walk: what the lines left in the state and the memory, and what the lines ahead add
pub record Going (all left : List (List ℕ)) (old memory : List LoopShot) (s : State) : Type 0 where
  pub reading : Reading all left s.read
  pub setting : loop.setting_in start (map read_line all) ≡ loop.setting_in s.read.setting (map read_line left)
  pub unlinked : loop.unlinked_line 1 [] (map read_line all)
      ≡ or_ahead s.unlinked (loop.unlinked_line s.read.line s.station.now (map read_line left))
  pub positive : IfSome s.unlinked (λ k. 1 ≤ k)
  pub count : length (loop.shots_in (map read_line all)) ≡ s.read.line - 3 + length (loop.shots_in (map read_line left))
  pub size : length memory ≡ length old
  pub kept : loop.kept_from 1 (map read_line all) old ≡ loop.kept_from s.read.line (map read_line left) memory

-- the answer from the last progress and the first unlinked line
abbrev pub linked_of : Option ℕ → Progress → loop.LoopAnswer
linked_of (Some k) p = loop.answer_of (loop.refused 23 k)
linked_of None p = record { code = 0; line = 0; count = p.line - 3; setting = p.setting }

unfoldable pub ended_of : Progress → Option ℕ → loop.LoopAnswer
ended_of p unlinked =
    cond (eqb (first_bad p.line []).code 0)
    (linked_of unlinked p)
    (loop.answer_of (loop.refused (first_bad p.line []).code (first_bad p.line []).line))

-- what is returned says
abbrev pub ended_in : Result Loop BadLine → loop.LoopAnswer
ended_in (Ok l) = record { code = 0; line = 0; count = l.count; setting = l.setting }
ended_in (Err bad) = loop.answer_of (loop.refused (number_of bad.cause) bad.line)

-- the loop that all lines say, or why it is refused
pub record Ended (all : List (List ℕ)) (old new : List LoopShot) (r : Result Loop BadLine) : Type 0 where
  pub size : length new ≡ length old
  pub memory : new ≡ loop.kept_from 1 (map read_line all) old
  pub answer : ended_in r ≡ loop.answer_of (loop.linked (map read_line all) (first_bad 1 all))

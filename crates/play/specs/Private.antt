-- For private functions; no public contract cites these.
use Rattle.std.specs.Prelude.{ℕ, ◌+◌, ◌*◌, ◌^◌, ◌≤◌, ◌<◌, List, [], ◌∷◌, map, ℤ, pos, nat_abs, length, get_or, Result, Ok, Err}
use Rattle.streams.specs.declared.Generator.{Generator}
use Rattle.noisy_shot.specs.Rounding.{noisy_distance, noisy_bearing}
use Rattle.job_reader.specs.Limits as limits
use Rattle.job_reader.specs.declared.loops.LoopShot.{LoopShot}
use Rattle.job_reader.specs.declared.walk.Setting.{Setting}
use Rattle.noisy_shot.specs.Shots.{Shot}
use Rattle.sums.specs.Sums.{most_distance}
use Rattle.job_reader.specs.Refusals.{code_of, line_of}
use Rattle.play.specs.declared.sum.Sums.{Sums}
use Rattle.play.specs.declared.PlayAnswer.{PlayAnswer}
use Rattle.play.specs.declared.refusal.Refusal.{Refusal}
use Rattle.play.specs.declared.refusal.Refusal.TheVariants.{Job, NoRoom}

abbrev pub setting_of : Generator → ℕ → ℕ → Setting
setting_of g distance bearing = record { generator = g; distance = distance; bearing = bearing }

-- the shots of a block
abbrev pub chunk_shots : ℕ
chunk_shots = 32

-- a shot in memory
abbrev pub shot_of : LoopShot → Shot
shot_of z = record { distance = z.distance; step = z.bearing }

abbrev pub shots_of : List LoopShot → List Shot
shots_of zs = map shot_of zs

-- it with two samples
abbrev pub noisy_of : (distance bearing : ℕ) → LoopShot → ℤ → ℤ → Shot
noisy_of distance bearing z x y =
    record { distance = noisy_distance distance z.distance x; step = noisy_bearing bearing z.bearing y }

unfoldable pub noisy_shots : (distance bearing : ℕ) → List LoopShot → List ℤ → List Shot
noisy_shots d b [] ss = []
noisy_shots d b (z ∷ zs) [] = []
noisy_shots d b (z ∷ zs) (x ∷ []) = []
noisy_shots d b (z ∷ zs) (x ∷ y ∷ ss) = noisy_of d b z x y ∷ noisy_shots d b zs ss

-- samples of the size that a pair has at most
abbrev pub largest_sample : ℕ
largest_sample = 16879

unfoldable pub SmallSamples : List ℤ → Type 0
SmallSamples ss = (i : ℕ) → i < length ss → nat_abs (get_or ss i (pos 0)) ≤ largest_sample

-- the most that a shot adds to a sum, in size
abbrev pub most : ℕ
most = most_distance * 2 ^ 30

-- sums that leave room for n shots of 500
pub record Spare (s : Sums) (n : ℕ) : Type 0 where
  pub east : nat_abs s.east + n * most ≤ limits.most_shots * most
  pub north : nat_abs s.north + n * most ≤ limits.most_shots * most

-- sums with n shots more
pub record Grown (s t : Sums) (n : ℕ) : Type 0 where
  pub east : nat_abs t.east ≤ nat_abs s.east + n * most
  pub north : nat_abs t.north ≤ nat_abs s.north + n * most

-- what is returned says
abbrev pub answer_in : Result Unit Refusal → PlayAnswer
answer_in (Ok done) = record { code = 0; line = 0 }
answer_in (Err (Job refused)) = record { code = code_of refused; line = line_of refused }
answer_in (Err NoRoom) = record { code = 13; line = 0 }

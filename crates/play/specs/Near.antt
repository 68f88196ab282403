-- Shots whose distances are within a job's range.
use Rattle.std.specs.Prelude.{ℕ, ◌≤◌, ◌<◌, List, length, get_or}
use Rattle.std.specs.Coded.{Π_prop, le_prop}
use Rattle.job_reader.specs.Limits as limits
use Rattle.job_reader.specs.declared.loops.LoopShot.{LoopShot}

unfoldable pub Near : List LoopShot → Type 0
Near zs = (i : ℕ) (other : LoopShot) → i < length zs → (get_or zs i other).distance ≤ limits.most_distance

-- one proof of it is all that there is
pub Near-prop : (zs : List LoopShot) → IsProp (Near zs)
unfolding Near
Near-prop zs = Π_prop (λ i. Π_prop (λ other. Π_prop (λ more. le_prop)))

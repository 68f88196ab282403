-- A conjunction of tests: where it holds, each of them holds.
use mathlib.Core.Path.{◌≡◌}
use mathlib.Core.Bool.{Bool, true, ◌&&◌, and-eq-true_iff}

infixl 20 ◌and◌
-- tests as they are nested
pub data Tests : Type 0 where
  test : Bool → Tests
  ◌and◌ : Tests → Tests → Tests

abbrev pub holds : Tests → Bool
holds (test b) = b
holds (s and t) = holds s && holds t

abbrev pub Each : Tests → Type 0
Each (test b) = b ≡ true
Each (s and t) = Each s × Each t

pub each : (t : Tests) → holds t ≡ true → Each t
each (test b) h = h
each (s and t) h = let (p, q) = (and-eq-true_iff (holds s) (holds t)).0 h in (each s p, each t q)

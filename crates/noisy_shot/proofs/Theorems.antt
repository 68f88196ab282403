-- The theorems of specs/Theorems.antt.
use Prim.Native.Nat.{ℕ, suc, ◌+◌, ◌*◌, ◌%◌, ◌≤◌, ◌<◌}
use native.Mathlib.Omega.{arith}
use mathlib.Core.Path.{◌≡◌, refl}
use lib.IntN.{ℤ, pos, negsuc}
use Rattle.noisy_shot.specs.Rounding.{turn_steps, noise_size, noisy_distance, noisy_bearing}
use Rattle.noisy_shot.specs.Theorems.{Theorems}

nearest : (sigma size q : ℕ) → 2048 * q ≤ sigma * size + 1024 → sigma * size + 1024 < 2048 * q + 2048 → noise_size sigma size ≡ q
unfolding noise_size
nearest sigma size q h k = omega arith

rounded : (sigma size : ℕ) → (2048 * noise_size sigma size ≤ sigma * size + 1024) ×
    (sigma * size + 1024 < 2048 * noise_size sigma size + 2048)
unfolding noise_size
rounded sigma size = (omega arith, omega arith)

module _ (sigma x n : ℕ) where
  distance_up : noisy_distance sigma x (pos n) ≡ x + noise_size sigma n
  unfolding noisy_distance
  distance_up = refl

  distance_down : noise_size sigma (suc n) ≤ x → noisy_distance sigma x (negsuc n) + noise_size sigma (suc n) ≡ x
  unfolding noisy_distance
  distance_down h = omega arith

  distance_none : x ≤ noise_size sigma (suc n) → noisy_distance sigma x (negsuc n) ≡ 0
  unfolding noisy_distance
  distance_none h = omega arith

  bearing_up : noisy_bearing sigma x (pos n) ≡ (x + noise_size sigma n) % turn_steps
  unfolding noisy_bearing
  bearing_up = refl

  bearing_down : (noisy_bearing sigma x (negsuc n) + noise_size sigma (suc n)) % turn_steps ≡ x % turn_steps
  unfolding noisy_bearing
  bearing_down = omega arith

bearing_range : (sigma x : ℕ) (z : ℤ) → noisy_bearing sigma x z < turn_steps
unfolding noisy_bearing
bearing_range sigma x (pos n) = omega arith
bearing_range sigma x (negsuc n) = omega arith

pub theorems : Theorems
theorems = record {
  nearest = nearest;
  rounded = rounded;
  distance_up = distance_up;
  distance_down = distance_down;
  distance_none = distance_none;
  bearing_range = bearing_range;
  bearing_up = bearing_up;
  bearing_down = bearing_down;
}

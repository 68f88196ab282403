-- What the noise on a shot is, as theorems: the record below has a proof in proofs/Theorems.antt.
use Rattle.std.specs.Prelude.{ℕ, suc, ◌+◌, ◌*◌, ◌%◌, ◌≤◌, ◌<◌, ◌≡◌, ℤ, pos, negsuc}
use Rattle.noisy_shot.specs.Rounding.{turn_steps, noise_size, noisy_distance, noisy_bearing}

pub record Theorems : Type 0 where
  -- the noise is the whole number q nearest to sigma × size / 2048, and at a half the larger one
  pub nearest : (sigma size q : ℕ) → 2048 * q ≤ sigma * size + 1024 → sigma * size + 1024 < 2048 * q + 2048 → noise_size sigma
      size ≡ q
  pub rounded : (sigma size : ℕ) → (2048 * noise_size sigma size ≤ sigma * size + 1024) ×
      (sigma * size + 1024 < 2048 * noise_size sigma size + 2048)
  -- with the sample's sign: added to the distance, or taken from it down to 0
  pub distance_up : (sigma d n : ℕ) → noisy_distance sigma d (pos n) ≡ d + noise_size sigma n
  pub distance_down : (sigma d n : ℕ) → noise_size sigma (suc n) ≤ d → noisy_distance sigma d (negsuc n) + noise_size sigma
      (suc n) ≡ d
  pub distance_none : (sigma d n : ℕ) → d ≤ noise_size sigma (suc n) → noisy_distance sigma d (negsuc n) ≡ 0
  -- the bearing mod 65536
  pub bearing_range : (sigma b : ℕ) (z : ℤ) → noisy_bearing sigma b z < turn_steps
  pub bearing_up : (sigma b n : ℕ) → noisy_bearing sigma b (pos n) ≡ (b + noise_size sigma n) % turn_steps
  pub bearing_down : (sigma b n : ℕ) → (noisy_bearing sigma b (negsuc n) + noise_size sigma (suc n)) % turn_steps ≡ b % turn_steps

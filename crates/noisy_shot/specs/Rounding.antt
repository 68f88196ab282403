-- Noise on a shot (document 01, "A job and its listing").
use Rattle.std.specs.Prelude.{ℕ, suc, ◌+◌, ◌-◌, ◌*◌, ◌/◌, ◌%◌, ℤ, pos, negsuc}

-- "65536 steps a turn"
abbrev pub turn_steps : ℕ
turn_steps = 65536

-- "Noise is sigma × |sample| / 2048, rounded to nearest, halves away from zero, with the sample's sign": its size
unfoldable pub noise_size : ℕ → ℕ → ℕ
noise_size sigma size = (sigma * size + 1024) / 2048

-- "First sample to distance (below 0 becomes 0)": a difference of natural numbers stops at 0
unfoldable pub noisy_distance : ℕ → ℕ → ℤ → ℕ
noisy_distance sigma distance (pos n) = distance + noise_size sigma n
noisy_distance sigma distance (negsuc n) = distance - noise_size sigma (suc n)

-- "second to bearing (mod 65536)"
unfoldable pub noisy_bearing : ℕ → ℕ → ℤ → ℕ
noisy_bearing sigma bearing (pos n) = (bearing + noise_size sigma n) % turn_steps
noisy_bearing sigma bearing (negsuc n) = (bearing + (turn_steps - noise_size sigma (suc n) % turn_steps)) % turn_steps

-- Large radii, and large samples at one angle, are as many as Rayleigh's tail says: proofs/Theorems.antt proves it.
use Rattle.std.specs.Prelude.{ℕ, ◌+◌, ◌-◌, ◌*◌, ◌/◌, ◌^◌, ◌≤◌, ◌<◌, nat_abs}
use Rattle.exact.specs.Fraction.{dyadic}
use Rattle.exact.specs.Radius.{AtMostRadius, AtLeastRadius}
use Rattle.radius.specs.Steps.{inverse}
use Rattle.angle.specs.Steps.{signed_of}
use Rattle.tails.specs.Counts.{radius_beyond, first_beyond_at}

-- N of the 2^48 numbers k are Rayleigh's tail, 2^48 exp(-g²/2), to within half a k: at least that for g = high over 2^20, less a half, and at most
-- that for g = low over 2^20, and a half. (`inverse N` is 2^49 over 2 N + 1, so `not_less` says 2^49 ≤ (2 N + 1) exp(g²/2), and `not_more_lem` says
-- (2 N - 1) exp(g²/2) ≤ 2^49.)
pub record RayleighTail (N low high : ℕ) : Type 0 where
  pub not_less : AtLeastRadius (inverse N) (dyadic 20 high)
  pub not_more : 0 < N → AtMostRadius (inverse (N - 1)) (dyadic 20 low)

-- Samples are rounded, so size s takes half a unit less than s units: F times the size of the sine or cosine, at 2^50, is this or more.
abbrev pub threshold : (f s : ℕ) → ℕ
threshold f s = (2 * s - 1) * 2 ^ (49 - f)

-- the least F for size s at a sine or cosine of size g
abbrev pub least_radius : (f s g : ℕ) → ℕ
least_radius f s g = (threshold f s - 1) / g + 1

-- from this F on the tail is known to one unit
abbrev pub close_from : ℕ
close_from = 33

-- the size of the sine of v, at 2^30
abbrev pub sine_size : ℕ → ℕ
sine_size v = nat_abs (signed_of v).0

pub record Tails : Type 0 where
  -- For every t the number of k whose F is t or more is Rayleigh's tail between 7 units of 2^-20 before t and 6 after, to within half a k; from 33 on
  -- it is the tail between one unit before t and one after.
  pub radius : (t : ℕ) → RayleighTail (radius_beyond t) (t - 7) (t + 6)
  pub radius_closer : (t : ℕ) → close_from ≤ t → RayleighTail (radius_beyond t) (t - 1) (t + 1)
  -- The same for the number of k whose first sample has size s or more, at every v whose sine is not 0 and at every f up to 49.
  pub each_angle : (f s v : ℕ) → f ≤ 49 → 0 < s → v < 65536 → 0 < sine_size v
      → RayleighTail (first_beyond_at f s v) (least_radius f s (sine_size v) - 7) (least_radius f s (sine_size v) + 6)
  pub each_angle_closer : (f s v : ℕ) → f ≤ 49 → 0 < s → v < 65536 → 0 < sine_size v → close_from ≤ least_radius f s (sine_size v)
      → RayleighTail (first_beyond_at f s v) (least_radius f s (sine_size v) - 1) (least_radius f s (sine_size v) + 1)

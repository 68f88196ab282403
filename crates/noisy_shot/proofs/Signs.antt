-- The sign of the noise.
use Prim.Native.Nat.{ℕ, ◌+◌, ◌-◌, ◌%◌}
use mathlib.Core.Path.{◌≡◌, refl, sym, ◌∙◌}
use mathlib.Core.Bool.{true, false, false≢true, true≢false}
use lib.IntN.{ℤ, pos, negsuc, nat_abs}
use lib.Dec.{leb-zero}
use lib.Signed.{le_z}
use mir.Syntax.{w16}
use mir.Val.{SFits, to_z, of_z}
use mir.Facts.{to_z-of_z}
use Rattle.noisy_shot.specs.Rounding.{turn_steps, noise_size, noisy_distance, noisy_bearing}

-- the noise of a sample that is at least 0, and of one below 0
unfoldable pub Plus : ℕ → ℕ → ℤ → Type 0
Plus sigma x z = (noisy_distance sigma x z ≡ x + noise_size sigma (nat_abs z)) ×
    (noisy_bearing sigma x z ≡ (x + noise_size sigma (nat_abs z)) % turn_steps)

unfoldable pub Minus : ℕ → ℕ → ℤ → Type 0
Minus sigma x z =
    (noisy_distance sigma x z ≡ x - noise_size sigma (nat_abs z))
    × (noisy_bearing sigma x z ≡ (x + (turn_steps - noise_size sigma (nat_abs z) % turn_steps)) % turn_steps)

-- the sign of a sample picks the case
module _ (sigma x : ℕ) (z : ℤ) (f : SFits w16 z) where
  pub plus : le_z (pos 0) (to_z w16 (of_z w16 z)) ≡ true → Plus sigma x z
  unfolding Plus noisy_distance noisy_bearing
  plus t = split z (rw (to_z-of_z f) at t)
    where
      split : (y : ℤ) → le_z (pos 0) y ≡ true → Plus sigma x y
      split (pos n) u = (refl, refl)
      split (negsuc n) u = absurd (false≢true u)

  pub minus : le_z (pos 0) (to_z w16 (of_z w16 z)) ≡ false → Minus sigma x z
  unfolding Minus noisy_distance noisy_bearing
  minus t = split z (rw (to_z-of_z f) at t)
    where
      split : (y : ℤ) → le_z (pos 0) y ≡ false → Minus sigma x y
      split (pos n) u = absurd (true≢false (sym (leb-zero n) ∙ u))
      split (negsuc n) u = (refl, refl)

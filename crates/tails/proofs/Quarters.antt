-- Sums over all v by quarters: the first sample takes the sine in the first and the third quarter, and the cosine in the others.
use mathlib.Core.Path.{◌≡◌, refl, ap, ◌∙◌}
use Prim.Native.Nat.{ℕ, ◌+◌, ◌*◌, ◌/◌, ◌%◌}
use native.Mathlib.Omega.{arith}
use lib.IntN.{pos}
use Rattle.angle.specs.Steps.{sine_at, cosine_at, signed_of}
use Rattle.signs.proofs.Sizes.{nat_abs_neg}
use Rattle.tails.specs.Counts.{sum_below}
use Rattle.tails.specs.Tails.{sine_size}
use Rattle.tails.proofs.SumLaws.{sum_cong, sum_rows_lem, sum_four}

-- the size of the sine of v, in each quarter
module _ (v w : ℕ) (rest : v % 16384 ≡ w) where
  quarter_0 : v / 16384 ≡ 0 → sine_size v ≡ sine_at w
  unfolding signed_of
  quarter_0 q = rw (q, rest) refl

  quarter_1 : v / 16384 ≡ 1 → sine_size v ≡ cosine_at w
  unfolding signed_of
  quarter_1 q = rw (q, rest) refl

  quarter_2 : v / 16384 ≡ 2 → sine_size v ≡ sine_at w
  unfolding signed_of
  quarter_2 q = rw (q, rest) (nat_abs_neg (pos (sine_at w)))

  quarter_3 : v / 16384 ≡ 3 → sine_size v ≡ cosine_at w
  unfolding signed_of
  quarter_3 q = rw (q, rest) (nat_abs_neg (pos (cosine_at w)))

-- a sum over all v of what the size of the sine decides
pub sum_quarters : (n : ℕ → ℕ) → sum_below 65536 (λ v. n (sine_size v))
    ≡ 2 * (sum_below 16384 (λ w. n (cosine_at w)) + sum_below 16384 (λ w. n (sine_at w)))
sum_quarters n =
    sum_rows_lem 4 16384 at ∙ sum_four (λ q. sum_below 16384 (λ w. at (q * 16384 + w)))
    ∙ together
    (sum_cong 16384 _ _ λ w h. ap n (quarter_0 (0 * 16384 + w) w (omega arith) (omega arith)))
    (sum_cong 16384 _ _ λ w h. ap n (quarter_1 (1 * 16384 + w) w (omega arith) (omega arith)))
    (sum_cong 16384 _ _ λ w h. ap n (quarter_2 (2 * 16384 + w) w (omega arith) (omega arith)))
    (sum_cong 16384 _ _ λ w h. ap n (quarter_3 (3 * 16384 + w) w (omega arith) (omega arith)))
  where
    at : ℕ → ℕ
    at v = n (sine_size v)

    together : {a b c d x y : ℕ} → a ≡ y → b ≡ x → c ≡ y → d ≡ x → a + b + c + d ≡ 2 * (x + y)
    together e f g h = omega arith

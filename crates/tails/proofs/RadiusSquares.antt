-- The mean square of the radius is 2 σ², to within the margins of F.
use mathlib.Core.Path.{◌≡◌, refl}
use Prim.Native.Nat.{ℕ, zero, suc, ◌+◌, ◌-◌, ◌*◌, ◌/◌, ◌^◌, ◌≤◌, ◌<◌}
use native.Mathlib.Nat.{le_refl, mul-le-mul, mul-le-mul_left, le_of_mul-le-mul_left, pow-zero, pow-suc}
use native.Mathlib.Decide.{dec_le}
use native.Mathlib.Omega.{arith}
use Rattle.exact.specs.Fraction.{Fraction, whole, dyadic, halved, square, ◌+ᶠ◌, ◌*ᶠ◌}
use Rattle.exact.specs.Series.{AtMostLn, AtLeastLn}
use Rattle.exact.specs.Radius.{AtMostRadius, AtLeastRadius}
use Rattle.exact.proofs.FractionLaws.{≤ᶠ-refl}
use Rattle.exact.proofs.LogarithmLaws.{logarithm_cuts_meet, ln_at_most_mono, ln_at_least_mono, ln_sum_at_most, ln_sum_at_least, ln_one_at_most, ln_one_at_least}
use Rattle.radius.specs.Steps.{number_bits, inverse, radius_of}
use Rattle.radius.proofs.RadiusMargin.{radius_margin}
use Rattle.tails.specs.Counts.{sum_below}
use Rattle.tails.proofs.OddProduct.{odds, over_odds, low, high, product_at_most, product_at_least}

-- ---- sums of cuts of the logarithms of M over the odd numbers

abbrev cell : ℕ → ℕ → Fraction
cell M k = record { top = M; bottom = 2 * k + 1; positive = omega arith }

module _ (M : ℕ) (a : ℕ → ℕ) where
  sum_at_most : (m : ℕ) → ((k : ℕ) → k < m → AtMostLn (dyadic 41 (a k)) (cell M k)) → AtMostLn (dyadic 41 (sum_below m a)) (over_odds M m)
  unfolding sum_below odds
  sum_at_most zero cuts =
      ln_at_most_mono (dyadic 41 0) (dyadic 41 0) (whole 1) (over_odds M 0) (le_refl _) (rw (pow-zero M) (omega arith)) (ln_one_at_most (dyadic 41 0) refl)
  sum_at_most (suc m) cuts =
      ln_at_most_mono (dyadic 41 (sum_below m a) +ᶠ dyadic 41 (a m)) (dyadic 41 (sum_below m a + a m)) (over_odds M m *ᶠ cell M m) (over_odds M (suc m)) (omega arith)
      (rw (pow-suc M m) (le_refl _))
      (ln_sum_at_most (dyadic 41 (sum_below m a)) (dyadic 41 (a m)) (over_odds M m) (cell M m) (sum_at_most m (λ k h. cuts k (omega arith))) (cuts m (omega arith)))

  sum_at_least : (m : ℕ) → ((k : ℕ) → k < m → AtLeastLn (dyadic 41 (a k)) (cell M k)) → AtLeastLn (dyadic 41 (sum_below m a)) (over_odds M m)
  unfolding sum_below odds
  sum_at_least zero cuts =
      ln_at_least_mono (dyadic 41 0) (dyadic 41 0) (whole 1) (over_odds M 0) (le_refl _) (rw (pow-zero M) (omega arith)) (ln_one_at_least (dyadic 41 0))
  sum_at_least (suc m) cuts =
      ln_at_least_mono (dyadic 41 (sum_below m a) +ᶠ dyadic 41 (a m)) (dyadic 41 (sum_below m a + a m)) (over_odds M m *ᶠ cell M m) (over_odds M (suc m)) (omega arith)
      (rw (pow-suc M m) (le_refl _))
      (ln_sum_at_least (dyadic 41 (sum_below m a)) (dyadic 41 (a m)) (over_odds M m) (cell M m) (sum_at_least m (λ k h. cuts k (omega arith))) (cuts m (omega arith)))

-- n lower cuts add up to n at most, and n upper cuts to n - 1 at least, for n = m + 1
module _ (m : ℕ) (a : ℕ → ℕ) where
  mean_most : ((k : ℕ) → k < suc m → AtMostLn (dyadic 41 (a k)) (cell (2 * suc m) k)) → sum_below (suc m) a ≤ 2 ^ 41 * suc m
  mean_most cuts =
      from (sum_below (suc m) a) (2 ^ 41)
      (logarithm_cuts_meet (dyadic 41 (sum_below (suc m) a)) (high m) (over_odds (2 * suc m) (suc m)) (sum_at_most (2 * suc m) a (suc m) cuts) (product_at_least m))
    where
      from : (T P : ℕ) → T * (4 * m + 4) ≤ (4 * (m * m) + 8 * m + 3) * P → T ≤ P * suc m
      from T P h = le_of_mul-le-mul_left {k = 4 * m + 4} (omega (arith, h)) (omega arith)

  mean_least : ((k : ℕ) → k < suc m → AtLeastLn (dyadic 41 (a k)) (cell (2 * suc m) k)) → 2 ^ 41 * m ≤ sum_below (suc m) a
  mean_least cuts =
      from (sum_below (suc m) a) (2 ^ 41)
      (logarithm_cuts_meet (low m) (dyadic 41 (sum_below (suc m) a)) (over_odds (2 * suc m) (suc m)) (product_at_most m) (sum_at_least (2 * suc m) a (suc m) cuts))
    where
      from : (T P : ℕ) → (8 * (m * m) + 8 * m + 1) * P ≤ T * (8 * m + 8) → P * m ≤ T
      from T P h = le_of_mul-le-mul_left {k = 8 * m + 8} (omega (arith, h)) (omega arith)

-- ---- the margins of F as cuts

low_cut : (k : ℕ) → k < 2 ^ number_bits → AtMostLn (dyadic 41 ((radius_of k - 7) * (radius_of k - 7))) (inverse k)
unfolding AtMostRadius
low_cut k h =
    ln_at_most_mono (halved (square (dyadic 20 (radius_of k - 7)))) (dyadic 41 ((radius_of k - 7) * (radius_of k - 7))) (inverse k) (inverse k)
    (omega arith) (≤ᶠ-refl (inverse k)) (radius_margin k h).0

high_cut : (k : ℕ) → k < 2 ^ number_bits → AtLeastLn (dyadic 41 ((radius_of k + 7) * (radius_of k + 7))) (inverse k)
unfolding AtLeastRadius
high_cut k h =
    ln_at_least_mono (halved (square (dyadic 20 (radius_of k + 7)))) (dyadic 41 ((radius_of k + 7) * (radius_of k + 7))) (inverse k) (inverse k)
    (omega arith) (≤ᶠ-refl (inverse k)) (radius_margin k h).1

pub radius_most : sum_below (2 ^ number_bits) (λ k. (radius_of k - 7) * (radius_of k - 7)) ≤ 2 ^ 41 * 2 ^ number_bits
radius_most = mean_most (2 ^ number_bits - 1) (λ k. (radius_of k - 7) * (radius_of k - 7)) low_cut

pub radius_least : 2 ^ 41 * (2 ^ number_bits - 1) ≤ sum_below (2 ^ number_bits) (λ k. (radius_of k + 7) * (radius_of k + 7))
radius_least = mean_least (2 ^ number_bits - 1) (λ k. (radius_of k + 7) * (radius_of k + 7)) high_cut

-- ---- so the sums of F² and of F, by 2 m F ≤ F² + m² with m near the root of the mean square

means : (m x : ℕ) → 2 * m * x ≤ x * x + m * m
means m x = elim (dec_le m x) [
  | yes l ↦ from_above (x - m) (omega arith)
  | no l ↦ from_below (m - x) (omega arith)
]
  where
    from_above : (d : ℕ) → d + m ≡ x → 2 * m * x ≤ x * x + m * m
    from_above d e = rw (← e) (omega arith)

    from_below : (d : ℕ) → d + x ≡ m → 2 * m * x ≤ x * x + m * m
    from_below d e = rw (← e) (omega arith)

module _ (m : ℕ) (F : ℕ → ℕ) where
  -- f ≤ x + 7
  one_most : (f x : ℕ) → f ≤ x + 7 → m * (f * f) ≤ (m + 7) * (x * x) + (7 * (m * m) + 49 * m)
  one_most f x h = omega (arith, mul-le-mul_left m (mul-le-mul h h), means m x)

  one_least : (f : ℕ) → m * ((f + 7) * (f + 7)) ≤ (m + 7) * (f * f) + (7 * (m * m) + 49 * m)
  one_least f = omega (arith, means m f)

  squares_most : (n : ℕ) → m * sum_below n (λ k. F k * F k) ≤ (m + 7) * sum_below n (λ k. (F k - 7) * (F k - 7)) + n * (7 * (m * m) + 49 * m)
  unfolding sum_below
  squares_most zero = omega arith
  squares_most (suc n) = omega (arith, squares_most n, one_most (F n) (F n - 7) (omega arith))

  squares_least : (n : ℕ) → m * sum_below n (λ k. (F k + 7) * (F k + 7)) ≤ (m + 7) * sum_below n (λ k. F k * F k) + n * (7 * (m * m) + 49 * m)
  unfolding sum_below
  squares_least zero = omega arith
  squares_least (suc n) = omega (arith, squares_least n, one_least (F n))

  sum_most : (n : ℕ) → 2 * m * sum_below n F ≤ sum_below n (λ k. F k * F k) + n * (m * m)
  unfolding sum_below
  sum_most zero = omega arith
  sum_most (suc n) = omega (arith, sum_most n, means m (F n))

-- 2^20 times the root of 2
abbrev middle : ℕ
middle = 1_482_910

abbrev allowance : ℕ
allowance = 2 ^ number_bits * (7 * (middle * middle) + 49 * middle)

abbrev pub squares_high : ℕ
squares_high = ((middle + 7) * (2 ^ 41 * 2 ^ number_bits) + allowance) / middle

abbrev pub squares_low : ℕ
squares_low = (middle * (2 ^ 41 * (2 ^ number_bits - 1)) - allowance) / (middle + 7)

abbrev pub sum_high : ℕ
sum_high = (squares_high + 2 ^ number_bits * (middle * middle)) / (2 * middle)

pub squares_high_lem : sum_below (2 ^ number_bits) (λ k. radius_of k * radius_of k) ≤ squares_high
squares_high_lem = omega (arith, radius_most, squares_most middle radius_of (2 ^ number_bits))

pub squares_low_lem : squares_low ≤ sum_below (2 ^ number_bits) (λ k. radius_of k * radius_of k)
squares_low_lem = omega (arith, radius_least, squares_least middle radius_of (2 ^ number_bits))

pub sum_high_lem : sum_below (2 ^ number_bits) radius_of ≤ sum_high
sum_high_lem = omega (arith, squares_high_lem, sum_most middle radius_of (2 ^ number_bits))

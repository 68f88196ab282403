-- Bounds of the area, of π/2 and of e^(x²) by n terms, and so of P(|X| < x).
use mathlib.Core.Path.{◌≡◌}
use Prim.Native.Nat.{ℕ, zero, suc, ◌+◌, ◌*◌, ◌^◌, ◌≤◌}
use native.Mathlib.Nat.{le_refl, pow-zero, pow-suc, add-zero, add-suc, mul-le-mul_left, mul-le-mul_right}
use native.Mathlib.Omega.{arith}
use Rattle.exact.specs.Fraction.{Fraction, square, ◌*ᶠ◌, ◌≤ᶠ◌}
use Rattle.exact.specs.Series.{factorial, AtMostLn, AtLeastLn}
use Rattle.exact.proofs.SeriesLaws.{scaled_top, scaled_bottom, scaled_bottom_pos}
use Rattle.exact.proofs.LogarithmLaws.{ln_at_least_scaled, tail}
use Rattle.normal.specs.Probability.{double_factorial, half_pi_term, area_term, AtLeastSum, AtMostSum, AtLeastInside, AtMostInside}
use Rattle.normal.proofs.Sums.{top_to, last_sum, beyond_sum, at_most_sum, at_least_sum, narrow, beyond_falls}

-- ---- π/2

abbrev pub half_pi_step : ℕ → ℕ
half_pi_step n = 2 * n + 3

pub half_pi_next : (n : ℕ) → (half_pi_term (suc n)).bottom ≡ half_pi_step n * (half_pi_term n).bottom
unfolding half_pi_term double_factorial
half_pi_next n = omega arith

abbrev pub half_pi_low : ℕ → Fraction
half_pi_low n = last_sum half_pi_term half_pi_step half_pi_next n

abbrev pub half_pi_high : ℕ → Fraction
half_pi_high n = beyond_sum half_pi_term half_pi_step half_pi_next n

pub half_pi_low_lem : (n : ℕ) → AtMostSum half_pi_term (half_pi_low n)
half_pi_low_lem n = at_most_sum half_pi_term half_pi_step half_pi_next n

half_pi_small : (m : ℕ) → 2 * (half_pi_term (suc m)).top ≤ half_pi_step m * (half_pi_term m).top
unfolding half_pi_term factorial
half_pi_small m = omega arith

pub half_pi_high_lem : (n : ℕ) → AtLeastSum half_pi_term (half_pi_high n)
half_pi_high_lem n = at_least_sum half_pi_term half_pi_step half_pi_next n (λ m _. half_pi_small m)

pub half_pi_falls : (n m : ℕ) → n ≤ m → half_pi_high m ≤ᶠ half_pi_high n
half_pi_falls n m h = beyond_falls half_pi_term half_pi_step half_pi_next half_pi_small n m h

pub half_pi_narrow : (n j : ℕ) → suc j * (half_pi_term (n + j)).top ≤ top_to half_pi_term half_pi_step (n + j)
half_pi_narrow n j = narrow half_pi_term half_pi_step half_pi_next n (λ m _. half_pi_small m) j

-- ---- the area

pub two_more : (q n : ℕ) → q ^ (2 * suc n + 1) ≡ q * q * q ^ (2 * n + 1)
two_more q n =
    let e : 2 * suc n + 1 ≡ suc (suc (2 * n + 1)) = omega arith in
    rw (e, pow-suc q (suc (2 * n + 1)), pow-suc q (2 * n + 1)) (omega arith)

abbrev pub area_step : Fraction → ℕ → ℕ
area_step x n = (2 * n + 3) * (x.bottom * x.bottom)

pub area_next : (x : Fraction) (n : ℕ) → (area_term x (suc n)).bottom ≡ area_step x n * (area_term x n).bottom
unfolding area_term double_factorial
area_next x n = rw (two_more x.bottom n) (omega arith)

abbrev pub area_low : Fraction → ℕ → Fraction
area_low x n = last_sum (area_term x) (area_step x) (area_next x) n

abbrev pub area_high : Fraction → ℕ → Fraction
area_high x n = beyond_sum (area_term x) (area_step x) (area_next x) n

pub area_low_lem : (x : Fraction) (n : ℕ) → AtMostSum (area_term x) (area_low x n)
area_low_lem x n = at_most_sum (area_term x) (area_step x) (area_next x) n

area_small : (x : Fraction) (n m : ℕ) → n ≤ m → 2 * (x.top * x.top) ≤ (2 * n + 3) * (x.bottom * x.bottom)
    → 2 * (area_term x (suc m)).top ≤ area_step x m * (area_term x m).top
unfolding area_term
area_small x n m le small =
    rw (two_more x.top m)
    (halved (x.top * x.top) (x.bottom * x.bottom) (x.top ^ (2 * m + 1)) (omega (arith, small, mul-le-mul_right (x.bottom * x.bottom) le)))
  where
    halved : (P Q y : ℕ) → 2 * P ≤ (2 * m + 3) * Q → 2 * (P * y) ≤ (2 * m + 3) * Q * y
    halved P Q y h = omega (arith, mul-le-mul_right y h)

pub area_high_lem : (x : Fraction) (n : ℕ) → 2 * (x.top * x.top) ≤ (2 * n + 3) * (x.bottom * x.bottom) → AtLeastSum (area_term x) (area_high x n)
area_high_lem x n small = at_least_sum (area_term x) (area_step x) (area_next x) n (λ m le. area_small x n m le small)

pub area_narrow : (x : Fraction) (n : ℕ) → 2 * (x.top * x.top) ≤ (2 * n + 3) * (x.bottom * x.bottom) → (j : ℕ)
    → suc j * (area_term x (n + j)).top ≤ top_to (area_term x) (area_step x) (n + j)
area_narrow x n small j = narrow (area_term x) (area_step x) (area_next x) n (λ m le. area_small x n m le small) j

-- ---- e^(x²)

abbrev pub exponential_low : Fraction → ℕ → Fraction
exponential_low y n = record { top = scaled_top y.top y.bottom n; bottom = scaled_bottom y.bottom n; positive = scaled_bottom_pos y.bottom n y.positive }

abbrev pub exponential_high : Fraction → ℕ → Fraction
exponential_high y n = record { top = scaled_top y.top y.bottom n + y.top ^ n; bottom = scaled_bottom y.bottom n; positive = scaled_bottom_pos y.bottom n y.positive }

pub exponential_low_lem : (y : Fraction) (n : ℕ) → AtLeastLn y (exponential_low y n)
exponential_low_lem y n = ln_at_least_scaled y (exponential_low y n) n (le_refl _)

pub exponential_high_lem : (y : Fraction) (n : ℕ) → 2 * y.top ≤ suc n * y.bottom → AtMostLn y (exponential_high y n)
exponential_high_lem y n small = tail y (exponential_high y n) n small (le_refl _)

pub exponential_narrow : (p q n : ℕ) → 2 * p ≤ suc n * q → (j : ℕ) → suc j * p ^ (n + j) ≤ scaled_top p q (n + j)
unfolding scaled_top
exponential_narrow p q n small zero = rw add-zero (at_first n)
  where
    at_first : (n : ℕ) → suc zero * p ^ n ≤ scaled_top p q n
    at_first zero = rw (pow-zero p) (omega arith)
    at_first (suc n) = omega arith
exponential_narrow p q n small (suc j) =
    rw (add-suc, pow-suc p (n + j))
    (again (suc j) (p ^ (n + j)) (scaled_top p q (n + j)) (suc (n + j)) (omega (arith, small, mul-le-mul_right q (le_add n j))) (exponential_narrow p q n small j))
  where
    le_add : (n j : ℕ) → suc n ≤ suc (n + j)
    le_add n j = omega arith

    again : (j u S k : ℕ) → 2 * p ≤ k * q → j * u ≤ S → suc j * (u * p) ≤ k * q * S + u * p
    again j u S k h before = omega (arith, mul-le-mul_left (j * u) h, mul-le-mul_left (k * q) before)

-- ---- the probability

-- From term n on all terms at least halve.
abbrev pub Enough : Fraction → ℕ → Type 0
Enough x n = 2 * (x.top * x.top) ≤ suc n * (x.bottom * x.bottom)

pub more : (n P Q : ℕ) → 2 * P ≤ suc n * Q → 2 * P ≤ (2 * n + 3) * Q
more n P Q h = omega arith

pub at_most_inside : (x c : Fraction) (n : ℕ) → Enough x n
    → square c *ᶠ (half_pi_high n *ᶠ exponential_high (square x) n) ≤ᶠ square (area_low x n) → AtMostInside x c
at_most_inside x c n enough order = record {
  area = area_low x n;
  half_pi = half_pi_high n;
  exponential = exponential_high (square x) n;
  area_fits = area_low_lem x n;
  half_pi_fits = half_pi_high_lem n;
  exponential_fits = exponential_high_lem (square x) n enough;
  order = order;
}

pub at_least_inside : (x c : Fraction) (n : ℕ) → Enough x n
    → square (area_high x n) ≤ᶠ square c *ᶠ (half_pi_low n *ᶠ exponential_low (square x) n) → AtLeastInside x c
at_least_inside x c n enough order = record {
  area = area_high x n;
  half_pi = half_pi_low n;
  exponential = exponential_low (square x) n;
  area_fits = area_high_lem x n (more n (x.top * x.top) (x.bottom * x.bottom) enough);
  half_pi_fits = half_pi_low_lem n;
  exponential_fits = exponential_low_lem (square x) n;
  order = order;
}

-- The probability that a standard normal number X is large in size, as cuts in fractions in the manner of `exact`. By three series of positive terms,
--     P(|X| < x)² (π/2) e^(x²) = (x + x³/3 + x⁵/(3·5) + x⁷/(3·5·7) + ..)²    and    π/2 = 1 + 1/3 + 1·2/(3·5) + 1·2·3/(3·5·7) + ..
-- The series need not be taken on trust: specs/Meaning.antt says what the cuts are.
use Rattle.std.specs.Prelude.{ℕ, zero, suc, ◌+◌, ◌*◌, ◌^◌, ◌<◌}
use Rattle.std.proofs.Common.{mul-pos, arith}
use Rattle.std.proofs.Math.Nat.{one-le-pow}
use Rattle.exact.specs.Fraction.{Fraction, whole, square, ◌+ᶠ◌, ◌*ᶠ◌, ◌≤ᶠ◌}
use Rattle.exact.specs.Series.{factorial, AtMostLn, AtLeastLn}

-- ---- sums of series

-- t 0 + t 1 + .. + t n
unfoldable pub sum_to : (ℕ → Fraction) → ℕ → Fraction
sum_to t zero = t zero
sum_to t (suc n) = sum_to t n +ᶠ t (suc n)

-- A fraction is at least the sum of all terms if it is at least every partial sum, and at most the sum if it is at most some partial sum.
unfoldable pub AtLeastSum : (ℕ → Fraction) → Fraction → Type 0
AtLeastSum t a = (n : ℕ) → sum_to t n ≤ᶠ a

unfoldable pub AtMostSum : (ℕ → Fraction) → Fraction → Type 0
AtMostSum t a = (n : ℕ) × (a ≤ᶠ sum_to t n)

-- ---- the terms

-- (2 n + 1)!! = 1 · 3 · 5 · .. · (2 n + 1)
unfoldable pub double_factorial : ℕ → ℕ
double_factorial zero = 1
double_factorial (suc n) = (2 * n + 3) * double_factorial n

pub double_factorial_pos : (n : ℕ) → zero < double_factorial n
unfolding double_factorial
double_factorial_pos zero = omega arith
double_factorial_pos (suc n) = mul-pos (omega arith) (double_factorial_pos n)

-- n! / (2 n + 1)!!; the sum is π/2
unfoldable pub half_pi_term : ℕ → Fraction
half_pi_term n = record { top = factorial n; bottom = double_factorial n; positive = double_factorial_pos n }

-- x^(2 n + 1) / (2 n + 1)!!; the sum is e^(x²/2) times the area under e^(-t²/2) from 0 to x
unfoldable pub area_term : Fraction → ℕ → Fraction
area_term x n = record {
  top = x.top ^ (2 * n + 1);
  bottom = x.bottom ^ (2 * n + 1) * double_factorial n;
  positive = mul-pos (one-le-pow (2 * n + 1) x.bottom x.positive) (double_factorial_pos n);
}

-- ---- the probabilities

-- The fraction c is at least P(|X| < x): area² ≤ c² (π/2) e^(x²), with the area from above, and π/2 and e^(x²) from below.
pub record AtLeastInside (x c : Fraction) : Type 0 where
  pub area : Fraction
  pub half_pi : Fraction
  pub exponential : Fraction
  pub area_fits : AtLeastSum (area_term x) area
  pub half_pi_fits : AtMostSum half_pi_term half_pi
  pub exponential_fits : AtLeastLn (square x) exponential
  pub order : square area ≤ᶠ square c *ᶠ (half_pi *ᶠ exponential)

-- The fraction c is at most P(|X| < x): c² (π/2) e^(x²) ≤ area², with the area from below, and π/2 and e^(x²) from above.
pub record AtMostInside (x c : Fraction) : Type 0 where
  pub area : Fraction
  pub half_pi : Fraction
  pub exponential : Fraction
  pub area_fits : AtMostSum (area_term x) area
  pub half_pi_fits : AtLeastSum half_pi_term half_pi
  pub exponential_fits : AtMostLn (square x) exponential
  pub order : square c *ᶠ (half_pi *ᶠ exponential) ≤ᶠ square area

-- The fraction t is at most P(|X| ≥ x), which is 1 less P(|X| < x); and at least.
abbrev pub AtMostTail : Fraction → Fraction → Type 0
AtMostTail x t = (c : Fraction) × AtLeastInside x c × (t +ᶠ c ≤ᶠ whole 1)

abbrev pub AtLeastTail : Fraction → Fraction → Type 0
AtLeastTail x t = (c : Fraction) × AtMostInside x c × (whole 1 ≤ᶠ t +ᶠ c)

-- The exponential series, and the logarithm as a cut. Document 01, 'What "exact" means'.
use Rattle.std.specs.Prelude.{ℕ, zero, suc, ◌*◌, ◌^◌, ◌<◌}
use Rattle.std.proofs.Common.{mul-pos, zero-lt-suc, arith}
use Rattle.std.proofs.Math.Nat.{one-le-pow}
use Rattle.exact.specs.Fraction.{Fraction, whole, ◌+ᶠ◌, ◌≤ᶠ◌}

-- n!
unfoldable pub factorial : ℕ → ℕ
factorial zero = 1
factorial (suc n) = suc n * factorial n

pub factorial_pos : (n : ℕ) → zero < factorial n
unfolding factorial
factorial_pos zero = omega arith
factorial_pos (suc n) = mul-pos (zero-lt-suc n) (factorial_pos n)

-- y ^ n / n!
unfoldable pub term : Fraction → ℕ → Fraction
term y n = record {
  top = y.top ^ n;
  bottom = y.bottom ^ n * factorial n;
  positive = mul-pos (one-le-pow n y.bottom y.positive) (factorial_pos n);
}

-- "every partial sum of 1 + y + y^2/2! + ...": the sum of the terms 0 to n
unfoldable pub partial_sum : Fraction → ℕ → Fraction
partial_sum y zero = whole 1
partial_sum y (suc n) = partial_sum y n +ᶠ term y (suc n)

-- "A fraction y >= 0 is at most ln z, z at least 1, if every partial sum [..] is at most z"
unfoldable pub AtMostLn : Fraction → Fraction → Type 0
AtMostLn y z = (n : ℕ) → partial_sum y n ≤ᶠ z

-- "it is at least ln z if some partial sum is at least z"
unfoldable pub AtLeastLn : Fraction → Fraction → Type 0
AtLeastLn y z = (n : ℕ) × (z ≤ᶠ partial_sum y n)

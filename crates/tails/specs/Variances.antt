-- The mean squares of the radius and of the samples over all inputs: proofs/Variance.antt proves it.
use Rattle.std.specs.Prelude.{◌≡◌, ℕ, ◌+◌, ◌-◌, ◌*◌, ◌^◌, ◌≤◌, nat_abs}
use Rattle.radius.specs.Steps.{number_bits, radius_of}
use Rattle.box_muller.specs.Steps.{fraction_bits, fraction_bits18}
use Rattle.box_muller.specs.declared.Samples.{Samples}
use Rattle.tails.specs.Counts.{sum_below, sum_inputs}

-- the squares of an answer's samples
abbrev pub first_square : Samples → ℕ
first_square r = nat_abs r.first * nat_abs r.first

abbrev pub second_square : Samples → ℕ
second_square r = nat_abs r.second * nat_abs r.second

-- The variance is between low and high in 100000 of σ², and σ² is 2^(2 f) squares of a unit of 2^-f; there are 2^64 inputs, and the mean is 0.
abbrev pub VarianceWithin : ℕ × ℕ → ℕ → Type 0
VarianceWithin (low, high) f =
    (low * (2 ^ (2 * f) * 2 ^ 64) ≤ 100_000 * sum_inputs f first_square) × (100_000 * sum_inputs f first_square ≤ high * (2 ^ (2 * f) * 2 ^ 64))

-- 1 σ² to within 50 in 100000 in samples of 16 bits, and to within 12 in those of 18
abbrev pub bounds : ℕ × ℕ
bounds = (99_950, 100_050)

abbrev pub bounds18 : ℕ × ℕ
bounds18 = (99_988, 100_012)

pub record Variances : Type 0 where
  -- Rayleigh's mean square, 2 σ²: the mean of (F - 7)² over all k is at most that, and the mean of (F + 7)² at least that less a 2^48th of it.
  pub radius_most : sum_below (2 ^ number_bits) (λ k. (radius_of k - 7) * (radius_of k - 7)) ≤ 2 ^ 41 * 2 ^ number_bits
  pub radius_least : 2 ^ 41 * (2 ^ number_bits - 1) ≤ sum_below (2 ^ number_bits) (λ k. (radius_of k + 7) * (radius_of k + 7))
  -- the variance of the first samples
  pub variance : VarianceWithin bounds fraction_bits
  pub variance18 : VarianceWithin bounds18 fraction_bits18
  -- second samples have the same sum of squares
  pub second : (f : ℕ) → f ≤ 49 → sum_inputs f second_square ≡ sum_inputs f first_square

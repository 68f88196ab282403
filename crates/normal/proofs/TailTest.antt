-- A test, which antt computes, whether a fraction n / d is at least P(|X| ≥ x), or at most.
use mathlib.Core.Bool.{Bool}
use Prim.Native.Nat.{ℕ, suc, ◌+◌, ◌-◌, ◌*◌, ◌≤◌, ◌<◌}
use native.Mathlib.Nat.{mul-le-mul_right}
use native.Mathlib.Omega.{arith}
use lib.Dec.{T, leb, leb→le}
use Rattle.exact.specs.Fraction.{Fraction, square}
use Rattle.normal.specs.Probability.{AtMostTail, AtLeastTail}
use Rattle.normal.proofs.Sums.{over}
use Rattle.normal.proofs.Enclosures.{half_pi_low, half_pi_high, area_low, area_high, exponential_low, exponential_high, at_most_inside, at_least_inside}

-- ---- n / d and the rest of 1

whole_least : (n d : ℕ) → 1 * (d * d) ≤ (n * d + (d - n) * d) * 1
whole_least n d = omega (arith, mul-le-mul_right d (sum n d))
  where
    sum : (n d : ℕ) → d ≤ n + (d - n)
    sum n d = omega arith

whole_most : (n d : ℕ) → n ≤ d → (n * d + (d - n) * d) * 1 ≤ 1 * (d * d)
whole_most n d h = omega (arith, mul-le-mul_right d (sum n d h))
  where
    sum : (n d : ℕ) → n ≤ d → n + (d - n) ≤ d
    sum n d h = omega arith

-- ---- by `terms` terms of each series

abbrev pub terms : ℕ
terms = 260

unfoldable pub enough : Fraction → Bool
enough x = leb (2 * (x.top * x.top)) (suc terms * (x.bottom * x.bottom))

-- the rest (d - n) / d is at most P(|X| < x), and at least
unfoldable pub most_inside : Fraction → ℕ → ℕ → Bool
most_inside x n d =
    leb ((d - n) * (d - n) * ((half_pi_high terms).top * (exponential_high (square x) terms).top) * ((area_low x terms).bottom * (area_low x terms).bottom))
    ((area_low x terms).top * (area_low x terms).top * (d * d * ((half_pi_high terms).bottom * (exponential_high (square x) terms).bottom)))

unfoldable pub least_inside : Fraction → ℕ → ℕ → Bool
least_inside x n d =
    leb ((area_high x terms).top * (area_high x terms).top * (d * d * ((half_pi_low terms).bottom * (exponential_low (square x) terms).bottom)))
    ((d - n) * (d - n) * ((half_pi_low terms).top * (exponential_low (square x) terms).top) * ((area_high x terms).bottom * (area_high x terms).bottom))

pub at_least_tail : (x : Fraction) (n d : ℕ) (some : 0 < d) → T (enough x) → T (most_inside x n d) → AtLeastTail x (over n d some)
unfolding enough most_inside
at_least_tail x n d some e t = (over (d - n) d some, at_most_inside x (over (d - n) d some) terms (leb→le _ _ e) (leb→le _ _ t), whole_least n d)

pub at_most_tail : (x : Fraction) (n d : ℕ) (some : 0 < d) → T (enough x) → n ≤ d → T (least_inside x n d) → AtMostTail x (over n d some)
unfolding enough least_inside
at_most_tail x n d some e h t = (over (d - n) d some, at_least_inside x (over (d - n) d some) terms (leb→le _ _ e) (leb→le _ _ t), whole_most n d h)

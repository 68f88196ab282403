-- P(|X| < x) is never above 1: B² ≤ (π/2) e^(x²), term by term.
use mathlib.Core.Path.{◌≡◌, sym}
use Prim.Native.Nat.{ℕ, zero, suc, ◌+◌, ◌*◌, ◌≤◌}
use native.Mathlib.Nat.{le_refl, le_of_eq, mul-pos, mul-le-mul_left, suc-add}
use native.Mathlib.Omega.{arith}
use Rattle.exact.specs.Fraction.{Fraction, whole, square, ◌+ᶠ◌, ◌*ᶠ◌, ◌≤ᶠ◌}
use Rattle.exact.specs.Series.{term, partial_sum, AtMostLn}
use Rattle.exact.proofs.FractionLaws.{≤ᶠ-refl, *ᶠ-mono, *ᶠ-cancel, +ᶠ-mono, square_mono, ◌≤ᶠ⟨◌⟩◌, ◌∎ᶠ, chained}
use Rattle.tails.specs.Counts.{sum_below}
use Rattle.normal.specs.Probability.{half_pi_term, area_term, sum_to, AtLeastSum, AtMostSum, AtMostInside}
use Rattle.normal.proofs.Sums.{sums_meet}
use Rattle.normal.proofs.Enclosures.{half_pi_low, half_pi_low_lem}
use Rattle.normal.proofs.Meet.{half_pi_some, exponential_some, square_cancel}
use Rattle.normal.proofs.Diagonals.{inside}
use Rattle.normal.proofs.AreaSquare.{distributes, w, square_terms, square_term, product, part, part_add, part_is, area_sum, area_is}

module _ (x P : Fraction) (above : AtLeastSum half_pi_term P) (N : ℕ) where
  one : (m : ℕ) → m ≤ N → part x N (square_terms x N m) ≤ᶠ P *ᶠ term (square x) (suc m)
  one m h =
      chained
      (part x N (square_terms x N m) ≤ᶠ⟨ le_of_eq (sym (part_is x N m h)) ⟩
      half_pi_low m *ᶠ term (square x) (suc m) ≤ᶠ⟨ *ᶠ-mono (half_pi_low m) P (term (square x) (suc m)) (term (square x) (suc m))
      (sums_meet half_pi_term (half_pi_low m) P (half_pi_low_lem m) above) (≤ᶠ-refl (term (square x) (suc m))) ⟩
      P *ᶠ term (square x) (suc m) ∎ᶠ)

  many : (m : ℕ) → m ≤ suc N → part x N (sum_below m (square_terms x N)) ≤ᶠ P *ᶠ partial_sum (square x) m
  unfolding sum_below partial_sum
  many zero h = omega arith
  many (suc m) h =
      chained
      (part x N (sum_below m (square_terms x N) + square_terms x N m) ≤ᶠ⟨ le_of_eq (part_add x N (sum_below m (square_terms x N)) (square_terms x N m)) ⟩
      part x N (sum_below m (square_terms x N)) +ᶠ part x N (square_terms x N m) ≤ᶠ⟨ +ᶠ-mono (part x N (sum_below m (square_terms x N)))
      (P *ᶠ partial_sum (square x) m) (part x N (square_terms x N m)) (P *ᶠ term (square x) (suc m)) (many m (omega (arith, h))) (one m (omega (arith, h))) ⟩
      P *ᶠ partial_sum (square x) m +ᶠ P *ᶠ term (square x) (suc m) ≤ᶠ⟨ le_of_eq (sym (distributes P (partial_sum (square x) m) (term (square x) (suc m)))) ⟩
      P *ᶠ (partial_sum (square x) m +ᶠ term (square x) (suc m)) ∎ᶠ)

  squared : (n : ℕ) → suc n + suc n ≡ suc N → square (area_sum x N n) ≤ᶠ part x N (sum_below (suc N) (square_terms x N))
  unfolding square_term product
  squared n e = crossed x.top x.bottom (sum_below (suc n) (w x N)) (w x N 0) (sum_below (suc N) (square_terms x N)) (rw e at (inside (w x N) (w x N) (suc n) (suc n)))
    where
      crossed : (p q s u₀ t : ℕ) → s * s ≤ t → p * s * (p * s) * (q * q * (u₀ * u₀)) ≤ p * p * t * (q * u₀ * (q * u₀))
      crossed p q s u₀ t h = omega (arith, mul-le-mul_left (p * p * q * q * u₀ * u₀) h)

  pub area_square : (n : ℕ) → suc n + suc n ≡ suc N → square (sum_to (area_term x) n) ≤ᶠ P *ᶠ partial_sum (square x) (suc N)
  area_square n e =
      chained
      (square (sum_to (area_term x) n) ≤ᶠ⟨ square_mono (sum_to (area_term x) n) (area_sum x N n) (le_of_eq (area_is x N n (omega (arith, e)))) ⟩
      square (area_sum x N n) ≤ᶠ⟨ squared n e ⟩
      part x N (sum_below (suc N) (square_terms x N)) ≤ᶠ⟨ many (suc N) (le_refl _) ⟩
      P *ᶠ partial_sum (square x) (suc N) ∎ᶠ)

pub at_most_one : (x c : Fraction) → AtMostInside x c → c ≤ᶠ whole 1
unfolding AtMostSum AtMostLn
at_most_one x c l =
    let (n, reached) = l.area_fits in
    let N : ℕ = n + suc n in
    square_cancel c (whole 1)
    (*ᶠ-cancel (square c) (square (whole 1)) (l.half_pi *ᶠ l.exponential)
    (mul-pos (half_pi_some l.half_pi l.half_pi_fits) (exponential_some (square x) l.exponential l.exponential_fits))
    (chained
    (square c *ᶠ (l.half_pi *ᶠ l.exponential) ≤ᶠ⟨ l.order ⟩
    square l.area ≤ᶠ⟨ square_mono l.area (sum_to (area_term x) n) reached ⟩
    square (sum_to (area_term x) n) ≤ᶠ⟨ area_square x l.half_pi l.half_pi_fits N n (suc-add n (suc n)) ⟩
    l.half_pi *ᶠ partial_sum (square x) (suc N) ≤ᶠ⟨ *ᶠ-mono l.half_pi l.half_pi (partial_sum (square x) (suc N)) l.exponential (≤ᶠ-refl l.half_pi) (l.exponential_fits (suc N)) ⟩
    l.half_pi *ᶠ l.exponential ≤ᶠ⟨ once (l.half_pi *ᶠ l.exponential) ⟩
    square (whole 1) *ᶠ (l.half_pi *ᶠ l.exponential) ∎ᶠ)))
  where
    once : (z : Fraction) → z ≤ᶠ square (whole 1) *ᶠ z
    once z = omega arith

-- Sums of positive terms, each of whose denominators divides the next: over one denominator, and what may be beyond a partial sum.
use mathlib.Core.Path.{◌≡◌, refl, sym, ap}
use Prim.Native.Nat.{ℕ, zero, suc, ◌+◌, ◌*◌, ◌≤◌, ◌<◌}
use native.Mathlib.Nat.{le_refl, le_of_eq, lt_of_not-le, mul-le-mul_left, add-zero, add-suc}
use native.Mathlib.Decide.{dec_le, le_ind}
use native.Mathlib.Omega.{arith}
use Rattle.exact.specs.Fraction.{Fraction, ◌≤ᶠ◌}
use Rattle.exact.proofs.FractionLaws.{≤ᶠ-trans}
use Rattle.normal.specs.Probability.{sum_to, AtLeastSum, AtMostSum}

-- n over d
abbrev pub over : (n d : ℕ) → 0 < d → Fraction
over n d some = record { top = n; bottom = d; positive = some }

-- the sum of the terms 0 to n over the denominator of the n-th: each denominator is k n times the one before
unfoldable pub top_to : (ℕ → Fraction) → (ℕ → ℕ) → ℕ → ℕ
top_to t k zero = (t zero).top
top_to t k (suc n) = k n * top_to t k n + (t (suc n)).top

added : (a b c d e f k : ℕ) → a * d ≡ c * b → f ≡ k * d → (a * f + e * b) * f ≡ (k * c + e) * (b * f)
added a b c d e f k h g = omega (arith, ap (λ z. k * f * z) h, ap (λ z. a * f * z) g)

module _ (t : ℕ → Fraction) (k : ℕ → ℕ) (next : (n : ℕ) → (t (suc n)).bottom ≡ k n * (t n).bottom) where
  abbrev pub last_sum : ℕ → Fraction
  last_sum n = over (top_to t k n) (t n).bottom (t n).positive

  same : (n : ℕ) → (sum_to t n).top * (t n).bottom ≡ top_to t k n * (sum_to t n).bottom
  unfolding sum_to top_to
  same zero = refl
  same (suc n) = added (sum_to t n).top (sum_to t n).bottom (top_to t k n) (t n).bottom (t (suc n)).top (t (suc n)).bottom (k n) (same n) (next n)

  grows : {n m : ℕ} → n ≤ m → top_to t k n * (t m).bottom ≤ top_to t k m * (t n).bottom
  unfolding top_to
  grows {n} {m} h =
      le_ind (λ m. top_to t k n * (t m).bottom ≤ top_to t k m * (t n).bottom) (le_refl _)
      (λ m _ before. omega (arith, mul-le-mul_left (k m) before, ap (λ z. top_to t k n * z) (next m))) m h

  -- Once the terms at least halve, a partial sum and its last term once more do not grow.
  halves : (a e e' b b' c w z : ℕ) → b' ≡ c * b → 2 * e' ≤ c * e → (a + e) * w ≤ z * b → (c * a + e' + e') * w ≤ z * b'
  halves a e e' b b' c w z is small h = omega (arith, mul-le-mul_left c h, mul-le-mul_left w small, ap (λ y. z * y) is)

  later : (w z : ℕ) {n m : ℕ} → n ≤ m → ((m : ℕ) → n ≤ m → 2 * (t (suc m)).top ≤ k m * (t m).top) → (top_to t k n + (t n).top) * w ≤ z * (t n).bottom
      → (top_to t k m + (t m).top) * w ≤ z * (t m).bottom
  unfolding top_to
  later w z {n} {m} le small h =
      le_ind (λ m. (top_to t k m + (t m).top) * w ≤ z * (t m).bottom) h
      (λ m g before. halves (top_to t k m) (t m).top (t (suc m)).top (t m).bottom (t (suc m)).bottom (k m) w z (next m) (small m g) before) m le

  -- the n-th partial sum, and its last term once more for what may be beyond it
  abbrev pub beyond_sum : ℕ → Fraction
  beyond_sum n = over (top_to t k n + (t n).top) (t n).bottom (t n).positive

  pub beyond_falls : ((m : ℕ) → 2 * (t (suc m)).top ≤ k m * (t m).top) → (n m : ℕ) → n ≤ m → beyond_sum m ≤ᶠ beyond_sum n
  beyond_falls small n m h = later (t n).bottom (top_to t k n + (t n).top) h (λ m _. small m) (le_refl _)

  pub sum_at_most_last : (n : ℕ) → sum_to t n ≤ᶠ last_sum n
  sum_at_most_last n = le_of_eq (same n)

  pub last_at_most_sum : (n : ℕ) → last_sum n ≤ᶠ sum_to t n
  last_at_most_sum n = le_of_eq (sym (same n))

  pub at_most_sum : (n : ℕ) → AtMostSum t (last_sum n)
  unfolding AtMostSum
  at_most_sum n = (n, le_of_eq (sym (same n)))

  pub at_least_sum : (n : ℕ) → ((m : ℕ) → n ≤ m → 2 * (t (suc m)).top ≤ k m * (t m).top) → AtLeastSum t (beyond_sum n)
  unfolding AtLeastSum
  at_least_sum n small m = ≤ᶠ-trans (sum_to t m) (last_sum m) (beyond_sum n) (le_of_eq (same m)) (decided (dec_le n m))
    where
      decided : Dec (n ≤ m) → top_to t k m * (t n).bottom ≤ (top_to t k n + (t n).top) * (t m).bottom
      decided (yes le) = omega (arith, later (t n).bottom (top_to t k n + (t n).top) le small (le_refl _))
      decided (no gt) = omega (arith, grows {n = m} {m = n} (omega (arith, lt_of_not-le gt)))

  -- After j terms more the last term is at most one part in j + 1 of the sum.
  pub narrow : (n : ℕ) → ((m : ℕ) → n ≤ m → 2 * (t (suc m)).top ≤ k m * (t m).top) → (j : ℕ) → suc j * (t (n + j)).top ≤ top_to t k (n + j)
  unfolding top_to
  narrow n small zero = rw add-zero (at_first n)
    where
      at_first : (n : ℕ) → suc zero * (t n).top ≤ top_to t k n
      at_first zero = omega arith
      at_first (suc n) = omega arith
  narrow n small (suc j) =
      rw add-suc (again (suc j) (t (n + j)).top (t (suc (n + j))).top (top_to t k (n + j)) (k (n + j)) (omega arith) (small (n + j) (omega arith)) (narrow n small j))
    where
      again : (j u u' S k : ℕ) → 0 < j → 2 * u' ≤ k * u → j * u ≤ S → suc j * u' ≤ k * S + u'
      again j u u' S k some h before = omega (arith, mul-le-mul_left j h, mul-le-mul_left k before)

-- What is at most a sum is at most what is at least it.
pub sums_meet : (t : ℕ → Fraction) (a b : Fraction) → AtMostSum t a → AtLeastSum t b → a ≤ᶠ b
unfolding AtMostSum AtLeastSum
sums_meet t a b (n, low) high = ≤ᶠ-trans a (sum_to t n) b low (high n)

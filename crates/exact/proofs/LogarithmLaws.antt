-- Laws of the logarithm as a cut: the cuts meet, sums and quotients, the bounds of ln(1 + x), and cuts by one comparison.
use mathlib.Core.Path.{◌≡◌}
use mathlib.Core.Logic.{◌⊎◌, inl, inr}
use Prim.Native.Nat.{ℕ, zero, suc, ◌+◌, ◌*◌, ◌^◌, ◌≤◌, ◌<◌}
use native.Mathlib.Nat.{le_refl, le-suc, lt_irrefl, lt_of_not-le, lt_of_lt_of_le, zero-lt-suc, pow-zero, pow-suc}
use native.Mathlib.Nat.{mul-pos, mul-le-mul_left, mul-le-mul_right}
use native.Mathlib.Decide.{dec_le, le_ind}
use native.Mathlib.Omega.{arith}
use Rattle.exact.specs.Fraction.{Fraction, whole, ◌+ᶠ◌, ◌*ᶠ◌, ◌≤ᶠ◌, ◌<ᶠ◌}
use Rattle.exact.proofs.FractionLaws.{cross_trans, ≤ᶠ-refl, ≤ᶠ-<ᶠ-trans, <ᶠ-≤ᶠ-trans, ≤ᶠ-or-<ᶠ}
use Rattle.exact.proofs.FractionLaws.{*ᶠ-mono, *ᶠ-cancel, ◌≤ᶠ⟨◌⟩◌, ◌∎ᶠ, chained}
use Rattle.exact.specs.Series.{partial_sum, AtMostLn, AtLeastLn}
use Rattle.exact.proofs.SeriesLaws.{scaled_top, scaled_bottom, scaled_sum, scaled_bottom_pos, scaled_grows}
use Rattle.exact.proofs.SeriesLaws.{partial_sum_at_most_scaled, scaled_at_most_partial_sum}
use Rattle.exact.proofs.SeriesLaws.{partial_sum_grows, partial_sum_mono, partial_sum_strict}
use Rattle.exact.proofs.SeriesSums.{partial_sum_sum_at_most, partial_sum_sum_at_least}

-- A lower cut of a logarithm is at most every upper cut.
pub logarithm_cuts_meet : (y y' z : Fraction) → AtMostLn y z → AtLeastLn y' z → y ≤ᶠ y'
unfolding AtMostLn AtLeastLn
logarithm_cuts_meet y y' z most (n, reached) = decided (≤ᶠ-or-<ᶠ y y')
  where
    reached_later : z ≤ᶠ partial_sum y' (suc n)
    reached_later =
        chained (z ≤ᶠ⟨ reached ⟩ partial_sum y' n ≤ᶠ⟨ partial_sum_grows y' (le-suc n) ⟩ partial_sum y' (suc n) ∎ᶠ)

    decided : (y ≤ᶠ y') ⊎ (y' <ᶠ y) → y ≤ᶠ y'
    decided (inl h) = h
    decided (inr h) =
        absurd
        (lt_irrefl _
        (≤ᶠ-<ᶠ-trans z (partial_sum y' (suc n)) z reached_later
        (<ᶠ-≤ᶠ-trans (partial_sum y' (suc n)) (partial_sum y (suc n)) z (partial_sum_strict y' y n h) (most (suc n)))))

-- What is below a lower cut is one too, also for a greater number; so a fraction may be put for an equal one.
pub ln_at_most_mono : (y y' z z' : Fraction) → y' ≤ᶠ y → z ≤ᶠ z' → AtMostLn y z → AtMostLn y' z'
unfolding AtMostLn
ln_at_most_mono y y' z z' h k cut n =
    chained (partial_sum y' n ≤ᶠ⟨ partial_sum_mono y' y n h ⟩ partial_sum y n ≤ᶠ⟨ cut n ⟩ z ≤ᶠ⟨ k ⟩ z' ∎ᶠ)

pub ln_at_least_mono : (y y' z z' : Fraction) → y ≤ᶠ y' → z' ≤ᶠ z → AtLeastLn y z → AtLeastLn y' z'
unfolding AtLeastLn
ln_at_least_mono y y' z z' h k (n, reached) =
    (n, chained (z' ≤ᶠ⟨ k ⟩ z ≤ᶠ⟨ reached ⟩ partial_sum y n ≤ᶠ⟨ partial_sum_mono y y' n h ⟩ partial_sum y' n ∎ᶠ))

-- Sums: the logarithm of a product.
pub ln_sum_at_most : (y y' z z' : Fraction) → AtMostLn y z → AtMostLn y' z' → AtMostLn (y +ᶠ y') (z *ᶠ z')
unfolding AtMostLn
ln_sum_at_most y y' z z' h h' n =
    chained
    (partial_sum (y +ᶠ y') n ≤ᶠ⟨ partial_sum_sum_at_most y y' n ⟩
    partial_sum y n *ᶠ partial_sum y' n ≤ᶠ⟨ *ᶠ-mono (partial_sum y n) z (partial_sum y' n) z' (h n) (h' n) ⟩
    z *ᶠ z' ∎ᶠ)

pub ln_sum_at_least : (y y' z z' : Fraction) → AtLeastLn y z → AtLeastLn y' z' → AtLeastLn (y +ᶠ y') (z *ᶠ z')
unfolding AtLeastLn
ln_sum_at_least y y' z z' (n, h) (m, h') = (
  m + n,
  chained
      (z *ᶠ z' ≤ᶠ⟨ *ᶠ-mono z (partial_sum y n) z' (partial_sum y' m) h h' ⟩
      partial_sum y n *ᶠ partial_sum y' m ≤ᶠ⟨ partial_sum_sum_at_least y y' n m ⟩
      partial_sum (y +ᶠ y') (m + n) ∎ᶠ),
)

-- A number with a lower cut is at least 1.
pub one_at_most : (y z : Fraction) → AtMostLn y z → z.bottom ≤ z.top
unfolding AtMostLn partial_sum
one_at_most y z h = omega (arith, h 0)

factor_pos : (a b c : ℕ) → zero < c → c ≤ a * b → zero < b
factor_pos a zero c pos h = omega arith
factor_pos a (suc b) c pos h = zero-lt-suc b

-- Quotients: from the logarithm of a product that of one factor.
pub ln_quotient_at_most : (y y' z z' : Fraction) → AtMostLn (y +ᶠ y') (z *ᶠ z') → AtLeastLn y' z' → AtMostLn y z
unfolding AtMostLn AtLeastLn
ln_quotient_at_most y y' z z' h (m, h') n =
    *ᶠ-cancel (partial_sum y n) z z' above
    (chained
    (partial_sum y n *ᶠ z' ≤ᶠ⟨ *ᶠ-mono (partial_sum y n) (partial_sum y n) z' (partial_sum y' m) (≤ᶠ-refl (partial_sum y n)) h' ⟩
    partial_sum y n *ᶠ partial_sum y' m ≤ᶠ⟨ partial_sum_sum_at_least y y' n m ⟩
    partial_sum (y +ᶠ y') (m + n) ≤ᶠ⟨ h (m + n) ⟩
    z *ᶠ z' ∎ᶠ))
  where
    above : zero < z'.top
    above =
        factor_pos z.top z'.top (z.bottom * z'.bottom) (mul-pos z.positive z'.positive)
        (one_at_most (y +ᶠ y') (z *ᶠ z') h)

pub ln_quotient_at_least : (y y' z z' : Fraction) → AtLeastLn (y +ᶠ y') (z *ᶠ z') → AtMostLn y' z' → AtLeastLn y z
unfolding AtMostLn AtLeastLn
ln_quotient_at_least y y' z z' (n, h) h' = (
  n,
  *ᶠ-cancel z (partial_sum y n) z' (lt_of_lt_of_le z'.positive (one_at_most y' z' h'))
      (chained
      (z *ᶠ z' ≤ᶠ⟨ h ⟩
      partial_sum (y +ᶠ y') n ≤ᶠ⟨ partial_sum_sum_at_most y y' n ⟩
      partial_sum y n *ᶠ partial_sum y' n ≤ᶠ⟨ grown ⟩
      partial_sum y n *ᶠ z' ∎ᶠ)),
)
  where
    grown : partial_sum y n *ᶠ partial_sum y' n ≤ᶠ partial_sum y n *ᶠ z'
    grown = *ᶠ-mono (partial_sum y n) (partial_sum y n) (partial_sum y' n) z' (≤ᶠ-refl (partial_sum y n)) (h' n)

-- The cuts by the scaled sums: every one of them for a lower cut, any one for an upper cut.
pub ln_at_most_scaled :
    (y z : Fraction) →
    ((n : ℕ) → scaled_top y.top y.bottom n * z.bottom ≤ z.top * scaled_bottom y.bottom n) → AtMostLn y z
unfolding AtMostLn scaled_sum
ln_at_most_scaled y z h n = chained (partial_sum y n ≤ᶠ⟨ partial_sum_at_most_scaled y n ⟩ scaled_sum y n ≤ᶠ⟨ h n ⟩ z ∎ᶠ)

pub ln_at_least_scaled :
    (y z : Fraction) (n : ℕ) →
    z.top * scaled_bottom y.bottom n ≤ scaled_top y.top y.bottom n * z.bottom → AtLeastLn y z
unfolding AtLeastLn scaled_sum
ln_at_least_scaled y z n h = (n, chained (z ≤ᶠ⟨ h ⟩ scaled_sum y n ≤ᶠ⟨ scaled_at_most_partial_sum y n ⟩ partial_sum y n ∎ᶠ))

-- The tail: once 2 y ≤ n + 1 the terms after the n-th at least halve, so that every partial sum is at most the n-th and its
-- last term once more. One comparison of whole numbers thus shows a lower cut.
halves :
    (p q w t n a e b : ℕ) → 2 * p ≤ suc n * q → (a + e) * w ≤ t * b → (suc n * q * a + e * p + e * p) * w ≤ t * (suc n * q * b)
halves p q w t n a e b small h = omega (arith, mul-le-mul_left (suc n * q) h, mul-le-mul_left (e * w) small)

later :
    (p q w t : ℕ) {n m : ℕ} → n ≤ m → 2 * p ≤ suc n * q → (scaled_top p q n + p ^ n) * w ≤ t * scaled_bottom q n →
    (scaled_top p q m + p ^ m) * w ≤ t * scaled_bottom q m
unfolding scaled_top scaled_bottom
later p q w t {n} {m} le small h =
    le_ind (λ m. (scaled_top p q m + p ^ m) * w ≤ t * scaled_bottom q m) h
    (λ m g before.
    rw (pow-suc p m)
    (halves p q w t m (scaled_top p q m) (p ^ m) (scaled_bottom q m) (omega (arith, mul-le-mul_right q g)) before))
    m le

pub tail :
    (y z : Fraction) (n : ℕ) → 2 * y.top ≤ suc n * y.bottom →
    (scaled_top y.top y.bottom n + y.top ^ n) * z.bottom ≤ z.top * scaled_bottom y.bottom n → AtMostLn y z
tail y z n small h = ln_at_most_scaled y z (λ m. decided m (dec_le n m))
  where
    p : ℕ
    p = y.top

    q : ℕ
    q = y.bottom

    decided : (m : ℕ) → Dec (n ≤ m) → scaled_top p q m * z.bottom ≤ z.top * scaled_bottom q m
    decided m (yes le) = omega (arith, later p q z.bottom z.top le small h)
    decided m (no gt) =
        cross_trans (scaled_top p q m) (scaled_bottom q m) (scaled_top p q n) (scaled_bottom q n) z.top z.bottom
        (scaled_bottom_pos q n y.positive) (scaled_grows p q {n = m} {m = n} (omega (arith, lt_of_not-le gt))) (omega arith)

-- 2 x / (2 + x), the lower bound of ln(1 + x)
abbrev pub lower_ln : Fraction → Fraction
lower_ln x = record { top = 2 * x.top; bottom = 2 * x.bottom + x.top; positive = omega (arith, x.positive) }

-- 1 / k! ≤ 2 / 2 ^ k: the partial sums of 2 x / (2 + x) stay below those of a geometric series, whose sum is 1 + x.
geometric_step :
    (p q k t e b : ℕ) → 2 ≤ k → 2 * q * t + p * e ≤ 2 * (q + p) * b →
    2 * q * (k * (2 * q + p) * t + e * (2 * p)) + p * (e * (2 * p)) ≤ 2 * (q + p) * (k * (2 * q + p) * b)
geometric_step p q k t e b two h = omega (arith, mul-le-mul_left (k * (2 * q + p)) h, mul-le-mul_right (p * e * (2 * q + p)) two)

geometric :
    (p q n : ℕ) →
    2 * q * scaled_top (2 * p) (2 * q + p) (suc n) + p * (2 * p) ^ suc n ≤ 2 * (q + p) * scaled_bottom (2 * q + p) (suc n)
unfolding scaled_top scaled_bottom
geometric p q zero = rw (pow-suc (2 * p) 0, pow-zero) (omega arith)
geometric p q (suc n) =
    rw (pow-suc (2 * p) (suc n))
    (geometric_step p q (suc (suc n)) (scaled_top (2 * p) (2 * q + p) (suc n)) ((2 * p) ^ suc n) (scaled_bottom (2 * q + p) (suc n))
    (omega arith) (geometric p q n))

-- ln(1 + x) is at least 2 x / (2 + x) and at most x.
pub ln_one_plus_at_most : (x : Fraction) → AtMostLn (lower_ln x) (whole 1 +ᶠ x)
unfolding scaled_top scaled_bottom
ln_one_plus_at_most x = ln_at_most_scaled (lower_ln x) (whole 1 +ᶠ x) below
  where
    below :
        (n : ℕ) →
        scaled_top (2 * x.top) (2 * x.bottom + x.top) n * (1 * x.bottom) ≤
        (1 * x.bottom + x.top * 1) * scaled_bottom (2 * x.bottom + x.top) n
    below zero = omega arith
    below (suc n) = omega (arith, geometric x.top x.bottom n)

pub ln_one_plus_at_least : (x : Fraction) → AtLeastLn x (whole 1 +ᶠ x)
unfolding scaled_top scaled_bottom
ln_one_plus_at_least x = ln_at_least_scaled x (whole 1 +ᶠ x) 1 (rw (pow-suc x.top 0, pow-zero) (omega arith))

-- Multiples: n times y for z to the n.
unfoldable pub power : Fraction → ℕ → Fraction
power z zero = whole 1
power z (suc n) = z *ᶠ power z n

-- 0 is at most, and at least, ln 1
pub ln_one_at_most : (y : Fraction) → y.top ≡ 0 → AtMostLn y (whole 1)
unfolding scaled_top scaled_bottom
ln_one_at_most y none = tail y (whole 1) 1 (omega arith) (rw none (omega arith))

pub ln_one_at_least : (y : Fraction) → AtLeastLn y (whole 1)
unfolding AtLeastLn partial_sum
ln_one_at_least y = (0, le_refl _)

pub ln_multiple_at_most : (y z : Fraction) (n : ℕ) → AtMostLn y z → AtMostLn (whole n *ᶠ y) (power z n)
unfolding power
ln_multiple_at_most y z zero h = ln_one_at_most (whole 0 *ᶠ y) (omega arith)
ln_multiple_at_most y z (suc n) h =
    ln_at_most_mono (y +ᶠ whole n *ᶠ y) (whole (suc n) *ᶠ y) (z *ᶠ power z n) (z *ᶠ power z n) (omega arith) (le_refl _)
    (ln_sum_at_most y (whole n *ᶠ y) z (power z n) h (ln_multiple_at_most y z n h))

pub ln_multiple_at_least : (y z : Fraction) (n : ℕ) → AtLeastLn y z → AtLeastLn (whole n *ᶠ y) (power z n)
unfolding power
ln_multiple_at_least y z zero h = ln_one_at_least (whole 0 *ᶠ y)
ln_multiple_at_least y z (suc n) h =
    ln_at_least_mono (y +ᶠ whole n *ᶠ y) (whole (suc n) *ᶠ y) (z *ᶠ power z n) (z *ᶠ power z n) (omega arith) (le_refl _)
    (ln_sum_at_least y (whole n *ᶠ y) z (power z n) h (ln_multiple_at_least y z n h))

-- Laws of the exponential series: the partial sums over one denominator, their growth, and the tail.
use mathlib.Core.Path.{◌≡◌, refl, sym, ap}
use Prim.Native.Nat.{ℕ, zero, suc, ◌+◌, ◌*◌, ◌^◌, ◌≤◌, ◌<◌}
use native.Mathlib.Nat.{le_refl, le_of_eq, le_of_lt, zero-lt-suc, pow-zero, pow-suc, mul-pos}
use native.Mathlib.Nat.{mul-le-mul, mul-le-mul_left, mul-lt-mul_of_pos_left}
use native.Mathlib.Decide.{le_ind}
use native.Mathlib.Omega.{arith}
use Rattle.exact.specs.Fraction.{Fraction, ◌≤ᶠ◌, ◌<ᶠ◌}
use Rattle.exact.proofs.FractionLaws.{≤ᶠ-<ᶠ-trans, <ᶠ-≤ᶠ-trans, ◌≤ᶠ⟨◌⟩◌, ◌∎ᶠ, chained}
use Rattle.exact.specs.Series.{factorial, term, partial_sum}

-- The partial sum of p / q as scaled_top p q n over scaled_bottom q n = q ^ n n!
unfoldable pub scaled_top : ℕ → ℕ → ℕ → ℕ
scaled_top p q zero = 1
scaled_top p q (suc n) = suc n * q * scaled_top p q n + p ^ suc n

unfoldable pub scaled_bottom : ℕ → ℕ → ℕ
scaled_bottom q zero = 1
scaled_bottom q (suc n) = suc n * q * scaled_bottom q n

pub scaled_bottom_pos : (q n : ℕ) → zero < q → zero < scaled_bottom q n
unfolding scaled_bottom
scaled_bottom_pos q zero pos = omega arith
scaled_bottom_pos q (suc n) pos = mul-pos (mul-pos (zero-lt-suc n) pos) (scaled_bottom_pos q n pos)

scaled_bottom_is : (q n : ℕ) → scaled_bottom q n ≡ q ^ n * factorial n
unfolding scaled_bottom factorial
scaled_bottom_is q zero = rw pow-zero
scaled_bottom_is q (suc n) = rw pow-suc (omega (arith, ap (λ t. suc n * q * t) (scaled_bottom_is q n)))

unfoldable pub scaled_sum : Fraction → ℕ → Fraction
scaled_sum y n = record {
  top = scaled_top y.top y.bottom n;
  bottom = scaled_bottom y.bottom n;
  positive = scaled_bottom_pos y.bottom n y.positive;
}

added : (a b c d e f k : ℕ) → a * d ≡ c * b → f ≡ k * d → (a * f + e * b) * (k * d) ≡ (k * c + e) * (b * f)
added a b c d e f k h g = rw g (omega (arith, ap (λ t. k * k * d * t) h))

-- The partial sum is the scaled one, by cross multiplication.
pub partial_sum_is_scaled :
    (y : Fraction) (n : ℕ) →
    (partial_sum y n).top * scaled_bottom y.bottom n ≡ scaled_top y.top y.bottom n * (partial_sum y n).bottom
unfolding partial_sum scaled_top scaled_bottom term
partial_sum_is_scaled y zero = refl
partial_sum_is_scaled y (suc n) =
    added (partial_sum y n).top (partial_sum y n).bottom (scaled_top y.top y.bottom n) (scaled_bottom y.bottom n)
    (y.top ^ suc n) (term y (suc n)).bottom (suc n * y.bottom) (partial_sum_is_scaled y n)
    (sym (scaled_bottom_is y.bottom (suc n)))

pub partial_sum_at_most_scaled : (y : Fraction) (n : ℕ) → partial_sum y n ≤ᶠ scaled_sum y n
unfolding scaled_sum
partial_sum_at_most_scaled y n = le_of_eq (partial_sum_is_scaled y n)

pub scaled_at_most_partial_sum : (y : Fraction) (n : ℕ) → scaled_sum y n ≤ᶠ partial_sum y n
unfolding scaled_sum
scaled_at_most_partial_sum y n = le_of_eq (sym (partial_sum_is_scaled y n))

-- Growth with n.
pub scaled_grows : (p q : ℕ) {n m : ℕ} → n ≤ m → scaled_top p q n * scaled_bottom q m ≤ scaled_top p q m * scaled_bottom q n
unfolding scaled_top scaled_bottom
scaled_grows p q {n} {m} h =
    le_ind (λ m. scaled_top p q n * scaled_bottom q m ≤ scaled_top p q m * scaled_bottom q n) (le_refl _)
    (λ m _ before. omega (arith, mul-le-mul_left (suc m * q) before)) m h

-- Growth with y = p / q, at first of a term.
power_grows : (p q p' q' n : ℕ) → p * q' ≤ p' * q → p ^ n * scaled_bottom q' n ≤ p' ^ n * scaled_bottom q n
unfolding scaled_bottom
power_grows p q p' q' zero h = rw (pow-zero p, pow-zero p') (omega arith)
power_grows p q p' q' (suc n) h =
    rw (pow-suc p n, pow-suc p' n) (omega (arith, mul-le-mul_left (suc n) (mul-le-mul (power_grows p q p' q' n h) h)))

pub scaled_mono : (p q p' q' n : ℕ) → p * q' ≤ p' * q → scaled_top p q n * scaled_bottom q' n ≤ scaled_top p' q' n * scaled_bottom q n
unfolding scaled_top scaled_bottom
scaled_mono p q p' q' zero h = omega arith
scaled_mono p q p' q' (suc n) h =
    omega (arith, mul-le-mul_left (suc n * q * (suc n * q')) (scaled_mono p q p' q' n h), power_grows p q p' q' (suc n) h)

-- The same, strictly, from n = 1 on.
added_strictly :
    (k l t b t' b' e e' : ℕ) → zero < k → zero < l → t * b' < t' * b → e * (l * b') ≤ e' * (k * b) →
    (k * t + e) * (l * b') < (l * t' + e') * (k * b)
added_strictly k l t b t' b' e e' pos pos' h g = omega (arith, mul-lt-mul_of_pos_left h (mul-pos pos pos'))

pub scaled_strict :
    (p q p' q' n : ℕ) → zero < q → zero < q' → p * q' < p' * q →
    scaled_top p q (suc n) * scaled_bottom q' (suc n) < scaled_top p' q' (suc n) * scaled_bottom q (suc n)
unfolding scaled_top scaled_bottom
scaled_strict p q p' q' zero pos pos' h = rw (pow-suc p 0, pow-zero p, pow-suc p' 0, pow-zero p') (omega arith)
scaled_strict p q p' q' (suc n) pos pos' h =
    let k : ℕ = suc (suc n) in
    added_strictly (k * q) (k * q') (scaled_top p q (suc n)) (scaled_bottom q (suc n)) (scaled_top p' q' (suc n))
    (scaled_bottom q' (suc n)) (p ^ k) (p' ^ k) (mul-pos (zero-lt-suc (suc n)) pos) (mul-pos (zero-lt-suc (suc n)) pos')
    (scaled_strict p q p' q' n pos pos' h) (power_grows p q p' q' k (le_of_lt h))

-- The partial sums grow with n, and with y, strictly from n = 1 on.
pub partial_sum_grows : (y : Fraction) {n m : ℕ} → n ≤ m → partial_sum y n ≤ᶠ partial_sum y m
unfolding scaled_sum
partial_sum_grows y {n} {m} h =
    chained
    (partial_sum y n ≤ᶠ⟨ partial_sum_at_most_scaled y n ⟩
    scaled_sum y n ≤ᶠ⟨ scaled_grows y.top y.bottom h ⟩
    scaled_sum y m ≤ᶠ⟨ scaled_at_most_partial_sum y m ⟩
    partial_sum y m ∎ᶠ)

pub partial_sum_mono : (y y' : Fraction) (n : ℕ) → y ≤ᶠ y' → partial_sum y n ≤ᶠ partial_sum y' n
unfolding scaled_sum
partial_sum_mono y y' n h =
    chained
    (partial_sum y n ≤ᶠ⟨ partial_sum_at_most_scaled y n ⟩
    scaled_sum y n ≤ᶠ⟨ scaled_mono y.top y.bottom y'.top y'.bottom n h ⟩
    scaled_sum y' n ≤ᶠ⟨ scaled_at_most_partial_sum y' n ⟩
    partial_sum y' n ∎ᶠ)

pub partial_sum_strict : (y y' : Fraction) (n : ℕ) → y <ᶠ y' → partial_sum y (suc n) <ᶠ partial_sum y' (suc n)
unfolding scaled_sum
partial_sum_strict y y' n h =
    ≤ᶠ-<ᶠ-trans (partial_sum y (suc n)) (scaled_sum y (suc n)) (partial_sum y' (suc n)) (partial_sum_at_most_scaled y (suc n))
    (<ᶠ-≤ᶠ-trans (scaled_sum y (suc n)) (scaled_sum y' (suc n)) (partial_sum y' (suc n))
    (scaled_strict y.top y.bottom y'.top y'.bottom n y.positive y'.positive h)
    (scaled_at_most_partial_sum y' (suc n)))

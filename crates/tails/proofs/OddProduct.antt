-- The logarithm of 2 n to the n over the product of the first n odd numbers is between n - 1 and n: by induction on n, in fractions.
use mathlib.Core.Path.{◌≡◌, refl, ap, sym, ◌∙◌}
use Prim.Native.Nat.{ℕ, zero, suc, ◌+◌, ◌*◌, ◌^◌, ◌≤◌, ◌<◌}
use native.Mathlib.Nat.{le_of_eq, mul-pos, mul-le-mul_left, add-mul, mul-add, mul_assoc, mul_comm, mul_left_comm, pow-zero, pow-suc, pow-succ'}
use native.Mathlib.Omega.{arith}
use lib.Dec.{lit≤}
use Rattle.exact.specs.Fraction.{Fraction, whole, ◌+ᶠ◌, ◌*ᶠ◌, ◌≤ᶠ◌}
use Rattle.exact.specs.Series.{AtMostLn, AtLeastLn}
use Rattle.exact.proofs.FractionLaws.{≤ᶠ-refl}
use Rattle.exact.proofs.SeriesLaws.{scaled_top, scaled_bottom}
use Rattle.exact.proofs.LogarithmLaws.{
  ln_at_most_mono,
  ln_at_least_mono,
  ln_at_least_scaled,
  ln_sum_at_most,
  ln_sum_at_least,
  ln_one_plus_at_most,
  ln_one_plus_at_least,
  ln_multiple_at_most,
  ln_multiple_at_least,
  lower_ln,
  power,
}

-- 1 × 3 × .. × (2 n - 1)
unfoldable pub odds : ℕ → ℕ
odds zero = 1
odds (suc n) = odds n * (2 * n + 1)

pub odds_pos : (n : ℕ) → 0 < odds n
unfolding odds
odds_pos zero = omega arith
odds_pos (suc n) = mul-pos (odds_pos n) (omega arith)

-- M to the n over them
abbrev pub over_odds : ℕ → ℕ → Fraction
over_odds M n = record { top = M ^ n; bottom = odds n; positive = odds_pos n }

-- ---- from n = m + 1 to n + 1: the factors are 1 + 1/n to the n, and 1 + 1/(2 n + 1)

abbrev step : ℕ → Fraction
step m = record { top = suc (suc m); bottom = suc m; positive = omega arith }

abbrev half_step : ℕ → Fraction
half_step m = record { top = 2 * suc m + 2; bottom = 2 * suc m + 1; positive = omega arith }

power_parts : (z : Fraction) (n : ℕ) → ((power z n).top ≡ z.top ^ n) × ((power z n).bottom ≡ z.bottom ^ n)
unfolding power
power_parts z zero = (sym (pow-zero z.top), sym (pow-zero z.bottom))
power_parts z (suc n) =
    let (e, f) = power_parts z n in
    (ap (λ (x : ℕ). z.top * x) e ∙ sym (pow-succ' z.top n), ap (λ (x : ℕ). z.bottom * x) f ∙ sym (pow-succ' z.bottom n))

product_step : (a b x y : ℕ) → x * y * (a * b) ≡ x * a * (y * b)
product_step a b x y = omega arith

pub mul_pow : (a b n : ℕ) → (a * b) ^ n ≡ a ^ n * b ^ n
mul_pow a b zero = rw (pow-zero (a * b), pow-zero a, pow-zero b) refl
mul_pow a b (suc n) = rw (pow-suc (a * b) n, pow-suc a n, pow-suc b n, mul_pow a b n) (product_step a b (a ^ n) (b ^ n))

-- 2 n + 2 to the n is 2 n to the n, times 1 + 1/n to the n
powers : (n : ℕ) → (2 * suc n) ^ n * n ^ n ≡ (2 * n) ^ n * suc n ^ n
powers n = rw (mul_pow 2 (suc n) n, mul_pow 2 n n) (omega arith)

next_is : (A B C D O p r : ℕ) → A * B ≡ C * D → A * p * (O * B * r) ≡ C * D * p * (O * r)
next_is A B C D O p r e = omega (arith, ap (λ (x : ℕ). p * O * r * x) e)

module _ (m : ℕ) where
  abbrev n : ℕ
  n = suc m

  abbrev product : Fraction
  product = over_odds (2 * n) n *ᶠ power (step m) n *ᶠ half_step m

  product_is_next : (over_odds (2 * suc n) (suc n)).top * product.bottom ≡ product.top * (over_odds (2 * suc n) (suc n)).bottom
  unfolding odds
  product_is_next =
      let (e, f) = power_parts (step m) n in
      let p : 2 * suc n ≡ 2 * suc m + 2 = omega arith in
      rw (e, f, pow-suc (2 * suc n) n)
      (next_is ((2 * suc n) ^ n) (n ^ n) ((2 * n) ^ n) (suc n ^ n) (odds n) (2 * suc n) (2 * n + 1) (powers n)
      ∙ ap (λ (x : ℕ). (2 * n) ^ n * suc n ^ n * x * (odds n * (2 * n + 1))) p)

-- ---- bounds of the factors' logarithms

-- ln(1 + 1/n) is at most (2 n + 1) / (2 n (n + 1)), by three terms of the series; with p = 2 n + 1 and q = 2 n (n + 1)
abbrev upper_ln : ℕ → Fraction
upper_ln m = record { top = 2 * m + 3; bottom = 2 * suc m * suc (suc m); positive = omega arith }

series : (n p q : ℕ) → q ≡ n * p + n → 2 * q ≤ p * p → suc n * (2 * q * (1 * q * 1)) ≤ (2 * q * (1 * q * 1 + 1 * p) + 1 * p * p) * n
series n p q e h = omega (arith, ap (λ (x : ℕ). 2 * q * x) e, mul-le-mul_left n h)

step_at_least : (m : ℕ) → AtLeastLn (upper_ln m) (step m)
unfolding scaled_top scaled_bottom
step_at_least m =
    ln_at_least_scaled (upper_ln m) (step m) 2
    (rw (pow-suc (2 * m + 3) 1, pow-suc (2 * m + 3) 0, pow-zero (2 * m + 3))
    (series (suc m) (2 * m + 3) (2 * suc m * suc (suc m)) (omega arith) (omega arith)))

-- so n of them are at most (2 n + 1) / (2 n + 2)
abbrev steps_high : ℕ → Fraction
steps_high m = record { top = 2 * m + 3; bottom = 2 * m + 4; positive = omega arith }

steps_at_least : (m : ℕ) → AtLeastLn (steps_high m) (power (step m) (suc m))
steps_at_least m =
    ln_at_least_mono (whole (suc m) *ᶠ upper_ln m) (steps_high m) (power (step m) (suc m)) (power (step m) (suc m))
    (omega arith) (≤ᶠ-refl (power (step m) (suc m))) (ln_multiple_at_least (upper_ln m) (step m) (suc m) (step_at_least m))

-- and at least 2 n / (2 n + 1)
abbrev steps_low : ℕ → Fraction
steps_low m = record { top = 2 * m + 2; bottom = 2 * m + 3; positive = omega arith }

steps_at_most : (m : ℕ) → AtMostLn (steps_low m) (power (step m) (suc m))
steps_at_most m =
    let x : Fraction = record { top = 1; bottom = suc m; positive = omega arith } in
    let one-step : AtMostLn (lower_ln x) (step m) =
    ln_at_most_mono (lower_ln x) (lower_ln x) (whole 1 +ᶠ x) (step m) (≤ᶠ-refl (lower_ln x)) (omega arith) (ln_one_plus_at_most x) in
    ln_at_most_mono (whole (suc m) *ᶠ lower_ln x) (steps_low m) (power (step m) (suc m)) (power (step m) (suc m))
    (omega arith) (≤ᶠ-refl (power (step m) (suc m))) (ln_multiple_at_most (lower_ln x) (step m) (suc m) one-step)

abbrev half_high : ℕ → Fraction
half_high m = record { top = 1; bottom = 2 * m + 3; positive = omega arith }

half_at_least : (m : ℕ) → AtLeastLn (half_high m) (half_step m)
half_at_least m =
    ln_at_least_mono (half_high m) (half_high m) (whole 1 +ᶠ half_high m) (half_step m) (≤ᶠ-refl (half_high m)) (omega arith) (ln_one_plus_at_least (half_high m))

abbrev half_low : ℕ → Fraction
half_low m = record { top = 2; bottom = 4 * m + 7; positive = omega arith }

half_at_most : (m : ℕ) → AtMostLn (half_low m) (half_step m)
half_at_most m =
    ln_at_most_mono (lower_ln (half_high m)) (half_low m) (whole 1 +ᶠ half_high m) (half_step m) (omega arith) (omega arith)
    (ln_one_plus_at_most (half_high m))

-- ---- the induction: at most n - 1/(4 n) and at least n - 1 + 1/(8 n), for n = m + 1

abbrev pub high : ℕ → Fraction
high m = record { top = 4 * (m * m) + 8 * m + 3; bottom = 4 * m + 4; positive = omega arith }

abbrev pub low : ℕ → Fraction
low m = record { top = 8 * (m * m) + 8 * m + 1; bottom = 8 * m + 8; positive = omega arith }

ruleset expand = (add-mul, mul-add, mul_assoc, mul_comm, mul_left_comm)

polynomial_high : (m : ℕ) → (((4 * (m * m) + 8 * m + 3) * (2 * m + 4) + (2 * m + 3) * (4 * m + 4)) * (2 * m + 3) + 1 * ((4 * m + 4) * (2 * m + 4))) * (4 * m + 8)
    ≤ (4 * (m * m) + 16 * m + 15) * ((4 * m + 4) * (2 * m + 4) * (2 * m + 3))
polynomial_high m = simp expand (omega arith)

polynomial_low : (m : ℕ) → (8 * (m * m) + 24 * m + 17) * ((8 * m + 8) * (2 * m + 3) * (4 * m + 7))
    ≤ (((8 * (m * m) + 8 * m + 1) * (2 * m + 3) + (2 * m + 2) * (8 * m + 8)) * (4 * m + 7) + 2 * ((8 * m + 8) * (2 * m + 3))) * (8 * m + 16)
polynomial_low m = simp expand (omega arith)

sum_high_lem : (m : ℕ) → high m +ᶠ steps_high m +ᶠ half_high m ≤ᶠ high (suc m)
sum_high_lem m =
    let e : 4 * (suc m * suc m) + 8 * suc m + 3 ≡ 4 * (m * m) + 16 * m + 15 = omega arith in
    let d : 4 * suc m + 4 ≡ 4 * m + 8 = omega arith in
    rw (e, d) (polynomial_high m)

sum_low : (m : ℕ) → low (suc m) ≤ᶠ low m +ᶠ steps_low m +ᶠ half_low m
sum_low m =
    let e : 8 * (suc m * suc m) + 8 * suc m + 1 ≡ 8 * (m * m) + 24 * m + 17 = omega arith in
    let d : 8 * suc m + 8 ≡ 8 * m + 16 = omega arith in
    rw (e, d) (polynomial_low m)

-- n = 1
begin_high : (over_odds 2 1).top * scaled_bottom 4 2 ≤ scaled_top 3 4 2 * (over_odds 2 1).bottom
unfolding odds scaled_top scaled_bottom
begin_high = lit≤ tt

begin_low : (whole 1 +ᶠ whole 1) ≤ᶠ over_odds 2 1
unfolding odds
begin_low = lit≤ tt

pub product_at_least : (m : ℕ) → AtLeastLn (high m) (over_odds (2 * suc m) (suc m))
product_at_least zero = ln_at_least_scaled (high 0) (over_odds 2 1) 2 begin_high
product_at_least (suc m) =
    ln_at_least_mono (high m +ᶠ steps_high m +ᶠ half_high m) (high (suc m)) (product m) (over_odds (2 * suc (suc m)) (suc (suc m)))
    (sum_high_lem m) (le_of_eq (product_is_next m))
    (ln_sum_at_least (high m +ᶠ steps_high m) (half_high m) (over_odds (2 * suc m) (suc m) *ᶠ power (step m) (suc m)) (half_step m)
    (ln_sum_at_least (high m) (steps_high m) (over_odds (2 * suc m) (suc m)) (power (step m) (suc m)) (product_at_least m) (steps_at_least m)) (half_at_least m))

pub product_at_most : (m : ℕ) → AtMostLn (low m) (over_odds (2 * suc m) (suc m))
product_at_most zero = ln_at_most_mono (lower_ln (whole 1)) (low 0) (whole 1 +ᶠ whole 1) (over_odds 2 1) (lit≤ tt) begin_low (ln_one_plus_at_most (whole 1))
product_at_most (suc m) =
    ln_at_most_mono (low m +ᶠ steps_low m +ᶠ half_low m) (low (suc m)) (product m) (over_odds (2 * suc (suc m)) (suc (suc m)))
    (sum_low m) (le_of_eq (sym (product_is_next m)))
    (ln_sum_at_most (low m +ᶠ steps_low m) (half_low m) (over_odds (2 * suc m) (suc m) *ᶠ power (step m) (suc m)) (half_step m)
    (ln_sum_at_most (low m) (steps_low m) (over_odds (2 * suc m) (suc m)) (power (step m) (suc m)) (product_at_most m) (steps_at_most m)) (half_at_most m))

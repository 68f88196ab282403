-- The exact period of a sequence that follows a recurrence, by the computed test.
use mathlib.Core.Path.{◌≡◌, sym, ap, ◌∙◌}
use mathlib.Core.List.{List, [], ◌∷◌}
use mathlib.Core.Logic.{◌⊎◌, inl, inr}
use Prim.Native.Nat.{ℕ, zero, suc, ◌+◌, ◌*◌, ◌/◌, ◌%◌}
use native.Mathlib.Nat.{suc-mul, zero-mul, add-zero, add-mul, mul_comm, one-mul, mod-one, div-add-mod'}
use native.Mathlib.Omega.{arith}
use lib.Dec.{T, eqb, ltb, eqb→eq, ltb→lt}
use mir.Facts.{and_yes}
use Rattle.period.proofs.Polynomials.{power, digits, value, is_one, no_divisor, Row, row_test, rows_test, period_test}
use Rattle.period.proofs.Action.{Bits, Period, power_one, power_apart}
use Rattle.period.proofs.Divisors.{common_divisor, IsPrime, is_prime, both_divide}

-- ---- Periods

pub period_minus : (u : ℕ → ℕ) (a b : ℕ) → Period u a → Period u (a + b) → Period u b
period_minus u a b ha hb m = sym (ha (m + b)) ∙ ap u (omega arith) ∙ hb m

pub period_multiple : (u : ℕ → ℕ) (a c : ℕ) → Period u a → Period u (c * a)
period_multiple u a zero h m = ap u (rw (zero-mul a) (add-zero m))
period_multiple u a (suc c) h m = ap u (rw (suc-mul c a) (omega arith)) ∙ h (m + c * a) ∙ period_multiple u a c h m

-- A prime p divides every period, where p M is a period and M is none: the c for which c M is a period are closed under differences.
prime_divides : (u : ℕ → ℕ) (p M : ℕ) → IsPrime p → Period u (p * M) → (Period u M → ⊥) → (n : ℕ) → Period u n → n % p ≡ 0
prime_divides u p M prime whole part n h =
    by_common (common_divisor (λ c. Period u (c * M)) minus p p n (omega arith) whole (rw (mul_comm n M) (period_multiple u n M h)))
  where
    minus : (a b : ℕ) → Period u (a * M) → Period u ((a + b) * M) → Period u (b * M)
    minus a b ha hb = period_minus u (a * M) (b * M) ha (rw (add-mul a b M) at hb)

    by_common : (g : ℕ) × Period u (g * M) × (p % g ≡ 0) × (n % g ≡ 0) → n % p ≡ 0
    by_common (g, hg, dp, dn) = by_case (prime g dp)
      where
        by_case : (g ≡ 1) ⊎ (g ≡ p) → n % p ≡ 0
        by_case (inl e) = absurd (part (rw (e, one-mul M) at hg))
        by_case (inr e) = rw e at dn

-- ---- What the test says

-- N is a period, and every period is a multiple of it.
pub record Exact (u : ℕ → ℕ) (N : ℕ) : Type 0 where
  pub period : Period u N
  pub only : (n : ℕ) → Period u n → n % N ≡ 0

module _ {k q : ℕ} (u : ℕ → ℕ) (h : Bits k q u) (some : ((m : ℕ) → u m ≡ 0) → ⊥) (N : ℕ) (whole : Period u N) (n : ℕ) (period : Period u n) where
  -- The prime of a row divides the period n, and so does its product with those before it.
  row_divides : (before : ℕ) (r : Row) → T (row_test k q N before r) → n % before ≡ 0 → n % (before * r.prime) ≡ 0
  unfolding row_test
  row_divides before r t h₀ =
      let p : ℕ = r.prime in
      let M : ℕ = N / p in
      let bound : ℕ = suc (suc r.reach) * suc (suc r.reach) in
      let product : ℕ = r.unit * before in
      let (undivided, t₁) = and_yes (no_divisor p r.reach) _ t in
      let (reached, t₂) = and_yes (ltb p bound) _ t₁ in
      let (positive, t₃) = and_yes (ltb 0 p) _ t₂ in
      let (quotient, t₄) = and_yes (eqb (p * M) N) _ t₃ in
      let (remainder, t₅) = and_yes (eqb (product % p) 1) _ t₄ in
      let (number, inverse) = and_yes (eqb (value (digits k M)) M) _ t₅ in
      let prime : IsPrime p = is_prime p r.reach undivided (ltb→lt 0 p positive) (ltb→lt p bound reached) in
      let unit : product ≡ product / p * p + 1 = omega (arith, div-add-mod' product p, eqb→eq (product % p) 1 remainder) in
      let part : Period u M → ⊥
      = λ part. some (power_apart u h (digits k M) (digits k r.inverse) inverse (rw (eqb→eq (value (digits k M)) M number) part)) in
      both_divide before p n (r.unit, product / p, unit) h₀ (prime_divides u p M prime (rw (eqb→eq (p * M) N quotient) whole) part n period)

  rows_divide : (before : ℕ) (l : List Row) → T (rows_test k q N before l) → n % before ≡ 0 → n % N ≡ 0
  unfolding rows_test
  rows_divide before [] t h₀ = rw (eqb→eq before N t) at h₀
  rows_divide before (r ∷ l) t h₀ =
      let (first, rest) = and_yes (row_test k q N before r) _ t in
      rows_divide (before * r.prime) l rest (row_divides before r first h₀)

-- A sequence of bits that follows the recurrence and is not all zeros has the period N exactly.
pub exact : {k q : ℕ} (u : ℕ → ℕ) → Bits k q u → (((m : ℕ) → u m ≡ 0) → ⊥) → (N : ℕ) (l : List Row) → T (period_test k q N l) → Exact u N
unfolding period_test
exact {k} {q} u h some N l t =
    let (number, t₁) = and_yes (eqb (value (digits k N)) N) _ t in
    let (one, rows) = and_yes (is_one (power k q (digits k N))) _ t₁ in
    let whole : Period u N = rw (eqb→eq (value (digits k N)) N number) at (power_one u h (digits k N) one) in
    record { period = whole; only = λ n period. rows_divide u h some N whole n period 1 l rows (mod-one n) }

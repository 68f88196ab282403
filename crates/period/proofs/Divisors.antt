-- Euclid's algorithm in a set of numbers that is closed under differences; primes by their divisors; numbers without a common divisor.
use mathlib.Core.Path.{◌≡◌, refl, sym, ap, ◌∙◌}
use mathlib.Core.Bool.{Bool, true, false, cond}
use mathlib.Core.Logic.{◌⊎◌, inl, inr}
use Prim.Native.Nat.{ℕ, zero, suc, ◌+◌, ◌*◌, ◌/◌, ◌%◌, ◌≤◌, ◌<◌}
use native.Mathlib.Nat.{suc-mul, zero-mul, zero-add, add_comm, mod-lt, mod-zero, div-add-mod', mod_self, zero-mod, dvd-mod_iff}
use native.Mathlib.Nat.{dvd_of_mod-eq-zero, mod-eq-zero_of_dvd, mul-mod_left, mul-mod_right, mul-le-mul, one-mul, mul_assoc, mul_comm}
use native.Mathlib.Nat.{mul_right_comm, add-mul, add-mul-mod_self_right}
use native.Mathlib.Decide.{dec_le}
use native.Mathlib.Omega.{arith}
use lib.Dec.{T, eqb}
use Rattle.period.proofs.Polynomials.{no_divisor}

module _ (I : ℕ → Type 0) (minus : (a b : ℕ) → I a → I (a + b) → I b) where
  minus_multiple : (a r c : ℕ) → I a → I (c * a + r) → I r
  minus_multiple a r zero ia h = rw (zero-mul a, zero-add r) at h
  minus_multiple a r (suc c) ia h =
      let e : suc c * a + r ≡ a + (c * a + r) = rw (suc-mul c a) (omega arith) in
      minus_multiple a r c ia (minus a (c * a + r) ia (rw e at h))

  -- A common divisor of a and b is in the set where both are.
  pub common_divisor : (fuel a b : ℕ) → a ≤ fuel → I a → I b → (g : ℕ) × I g × (a % g ≡ 0) × (b % g ≡ 0)
  common_divisor zero zero b h ia ib = (b, ib, zero-mod b, mod_self b)
  common_divisor zero (suc a) b h ia ib = absurd (omega arith)
  common_divisor (suc fuel) zero b h ia ib = (b, ib, zero-mod b, mod_self b)
  common_divisor (suc fuel) (suc a) b h ia ib =
      let ir : I (b % suc a) = minus_multiple (suc a) (b % suc a) (b / suc a) ia (rw (div-add-mod' b (suc a)) ib) in
      let (g, ig, low, high)
      = common_divisor fuel (b % suc a) (suc a) (omega (arith, mod-lt b {m = suc a} (omega arith))) ir ia in
      (g, ig, high, mod-eq-zero_of_dvd g ((dvd-mod_iff g (dvd_of_mod-eq-zero g high)).0 (dvd_of_mod-eq-zero g low)))

-- ---- Primes

abbrev pub IsPrime : ℕ → Type 0
IsPrime p = (d : ℕ) → p % d ≡ 0 → (d ≡ 1) ⊎ (d ≡ p)

cond_right : (t x : Bool) → T (cond t false x) → T x
cond_right true x h = absurd h
cond_right false x h = h

none_divides : (p f d : ℕ) → T (no_divisor p f) → d < f → p % suc (suc d) ≡ 0 → ⊥
unfolding no_divisor
none_divides p zero d t h e = omega arith
none_divides p (suc f) d t h e =
    elim (dec_le f d) [
      | yes l ↦
          let last : d ≡ f = omega arith in
          let e' : p % suc (suc f) ≡ 0 = rw last at e in
          let never : T (cond (eqb 0 0) false (no_divisor p f)) = rw e' at t in never
      | no n ↦ none_divides p f d (cond_right (eqb (p % suc (suc f)) 0) (no_divisor p f) t) (omega arith) e
    ]

-- A number that no number from 2 to its root divides is prime.
pub is_prime : (p f : ℕ) → T (no_divisor p f) → 0 < p → p < suc (suc f) * suc (suc f) → IsPrime p
is_prime p f t positive bound d e = by_size (dec_le (suc (suc f)) d)
  where
    h : ℕ
    h = p / d

    product : h * d ≡ p
    product = omega (arith, div-add-mod' p d)

    small : (d : ℕ) → d < suc (suc f) → p % d ≡ 0 → d ≡ 1
    small zero l e = omega (arith, mod-zero p)
    small (suc zero) l e = refl
    small (suc (suc d)) l e = absurd (none_divides p f d t (omega arith) e)

    by_size : Dec (suc (suc f) ≤ d) → (d ≡ 1) ⊎ (d ≡ p)
    by_size (no n) = inl (small d (omega arith) e)
    by_size (yes l) = by_other (dec_le (suc (suc f)) h)
      where
        by_other : Dec (suc (suc f) ≤ h) → (d ≡ 1) ⊎ (d ≡ p)
        by_other (yes l') = absurd (omega (arith, mul-le-mul l' l, product))
        by_other (no n') =
            let one : h ≡ 1 = small h (omega arith) (rw product at (mul-mod_right h d)) in
            inr (rw (one, one-mul d) at product)

-- ---- Numbers a and b without a common divisor: x a = y b + 1

abbrev pub Coprime : ℕ → ℕ → Type 0
Coprime a b = (x : ℕ) × (y : ℕ) × (x * a ≡ y * b + 1)

-- b divides c where it divides a c,
pub cancel : (a b c : ℕ) → Coprime a b → (a * c) % b ≡ 0 → c % b ≡ 0
cancel a b c (x, y, e) h =
    let whole : a * c ≡ a * c / b * b = omega (arith, div-add-mod' (a * c) b) in
    let spread : c + y * c * b ≡ x * (a * c / b) * b
    = rw (mul_assoc x (a * c / b) b, ← whole, ← mul_assoc x a c, e, add-mul (y * b) 1 c, one-mul c, mul_right_comm y b c)
    (add_comm c (y * c * b)) in
    sym (add-mul-mod_self_right c (y * c) b) ∙ rw spread (mul-mod_left (x * (a * c / b)) b)

-- and a b divides what both divide.
pub both_divide : (a b n : ℕ) → Coprime a b → n % a ≡ 0 → n % b ≡ 0 → n % (a * b) ≡ 0
both_divide a b n coprime ha hb =
    let parts : n ≡ a * (n / a) = rw (mul_comm a (n / a)) (omega (arith, div-add-mod' n a)) in
    let rest : (n / a) % b ≡ 0 = cancel a b (n / a) coprime (rw (← parts) hb) in
    let more : n / a ≡ b * (n / a / b) = rw (mul_comm b (n / a / b)) (omega (arith, div-add-mod' (n / a) b)) in
    let all : n ≡ a * b * (n / a / b) = parts ∙ ap (λ (z : ℕ). a * z) more ∙ sym (mul_assoc a b (n / a / b)) in
    ap (λ (z : ℕ). z % (a * b)) all ∙ mul-mod_right (a * b) (n / a / b)

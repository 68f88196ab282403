-- Polynomials over two elements, as their digits with the lowest first, modulo x^k = x^q + 1; and the computed test of a period.
use mathlib.Core.Bool.{Bool, true, false, cond, xor, ◌&&◌}
use mathlib.Core.List.{List, [], ◌∷◌}
use Prim.Native.Nat.{ℕ, zero, suc, ◌+◌, ◌*◌, ◌/◌, ◌%◌}
use lib.Dec.{eqb, ltb}
use lib.ListN.{take, drop}

unfoldable pub add : List Bool → List Bool → List Bool
add [] r = r
add (b ∷ p) [] = b ∷ p
add (b ∷ p) (c ∷ r) = xor b c ∷ add p r

unfoldable pub mul : List Bool → List Bool → List Bool
mul [] r = []
mul (b ∷ p) r = add (cond b r []) (false ∷ mul p r)

-- times x^n
unfoldable pub raise : ℕ → List Bool → List Bool
raise zero p = p
raise (suc n) p = false ∷ raise n p

-- x^k (what stands from there on) is replaced by x^q + 1, once
unfoldable pub reduce : ℕ → ℕ → List Bool → List Bool
reduce k q p = let high : List Bool = drop k p in add (take k p) (add high (raise q high))

unfoldable pub times : ℕ → ℕ → List Bool → List Bool → List Bool
times k q p r = reduce k q (reduce k q (mul p r))

-- the lowest w binary digits of n, and the number of such digits
unfoldable pub digits : ℕ → ℕ → List Bool
digits zero n = []
digits (suc w) n = eqb (n % 2) 1 ∷ digits w (n / 2)

unfoldable pub value : List Bool → ℕ
value [] = 0
value (c ∷ e) = value e + value e + cond c 1 0

-- x to the exponent of these digits
unfoldable pub power : ℕ → ℕ → List Bool → List Bool
power k q [] = true ∷ []
power k q (c ∷ e) =
    let half : List Bool = power k q e in
    let square : List Bool = times k q half half in
    cond c (reduce k q (false ∷ square)) square

unfoldable pub is_zero : List Bool → Bool
is_zero [] = true
is_zero (b ∷ p) = cond b false (is_zero p)

unfoldable pub is_one : List Bool → Bool
is_one [] = false
is_one (b ∷ p) = cond b (is_zero p) false

-- no number from 2 to f + 1 divides p
unfoldable pub no_divisor : ℕ → ℕ → Bool
no_divisor p zero = true
no_divisor p (suc f) = cond (eqb (p % suc (suc f)) 0) false (no_divisor p f)

-- ---- The test that the recurrence of z^k - z^q - 1 has the period N

-- One row for each prime of N, in order: the prime, how far its divisors are looked for, an inverse of x^(N / prime) + 1 by its digits
-- as a number, and an inverse modulo the prime of the product of the primes before it.
pub record Row : Type 0 where
  pub prime : ℕ
  pub reach : ℕ
  pub inverse : ℕ
  pub unit : ℕ

unfoldable pub row_test : ℕ → ℕ → ℕ → ℕ → Row → Bool
row_test k q N before r =
    no_divisor r.prime r.reach
    && (ltb r.prime (suc (suc r.reach) * suc (suc r.reach))
    && (ltb 0 r.prime
    && (eqb (r.prime * (N / r.prime)) N
    && (eqb (r.unit * before % r.prime) 1
    && (eqb (value (digits k (N / r.prime))) (N / r.prime)
    && is_one (times k q (digits k r.inverse) (add (power k q (digits k (N / r.prime))) (true ∷ []))))))))

-- each row, the primes before it having the product `before`; all of them have the product N
unfoldable pub rows_test : ℕ → ℕ → ℕ → ℕ → List Row → Bool
rows_test k q N before [] = eqb before N
rows_test k q N before (r ∷ l) = row_test k q N before r && rows_test k q N (before * r.prime) l

unfoldable pub period_test : ℕ → ℕ → ℕ → List Row → Bool
period_test k q N l = eqb (value (digits k N)) N && (is_one (power k q (digits k N)) && rows_test k q N 1 l)

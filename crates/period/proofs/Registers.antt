-- The exact period of a register, once over (k, q, s); the computed tests of the three.
use mathlib.Core.Path.{◌≡◌, refl, sym, ap, ◌∙◌}
use mathlib.Core.Bool.{xor}
use mathlib.Core.List.{List, [], ◌∷◌}
use Prim.Native.Nat.{ℕ, zero, suc, ◌+◌, ◌-◌, ◌*◌, ◌/◌, ◌%◌, ◌^◌, ◌≤◌, ◌<◌}
use native.Mathlib.Nat.{suc-add, mul_comm, mul_assoc, add-mul, add_comm, add_right_comm, zero-div, div-add-mod'}
use native.Mathlib.Nat.{div-lt_iff_lt-mul, not-le_of_lt, le_dest}
use native.Mathlib.Decide.{dec_le}
use native.Mathlib.Numerals.{add-one}
use native.Mathlib.Omega.{arith}
use lib.Dec.{T}
use lib.Pow.{pow_pos}
use Rattle.bit_matrix.specs.Matrices.{repeat}
use Rattle.bit_matrix.proofs.Theorems.{repeat_add}
use Rattle.streams.specs.Streams.{step}
use Rattle.streams.specs.Recurrence.{top, sequence, Params}
use Rattle.streams.proofs.Register.{step_lt, history, minimum_kept, one_to_one, reads_top, top_zero, sequence_starts, sequence_follows, sequence_unique}
use Rattle.period.specs.Cycle.{OfThree, Back}
use Rattle.period.proofs.Polynomials.{add, mul, raise, reduce, times, digits, value, power, is_zero, is_one, no_divisor}
use Rattle.period.proofs.Polynomials.{Row, row_test, rows_test, period_test}
use Rattle.period.proofs.Action.{Bits, Period, later}
use Rattle.period.proofs.Divisors.{Coprime, cancel}
use Rattle.period.proofs.Recurrences.{period_multiple, Exact, exact}

-- What is computed of the register (k, q, s): its recurrence has the period N, and its step has no divisor in common with N.
pub record Tested (k q s N : ℕ) : Type 0 where
  pub params : Params k q s
  pub rows : List Row
  pub test : T (period_test k q N rows)
  pub positive : 0 < N
  pub coprime : Coprime s N

-- m + 1 steps are one after m
pub last_step : (f : ℕ → ℕ) (m x : ℕ) → repeat f (suc m) x ≡ f (repeat f m x)
unfolding repeat
last_step f m x = rw (add-one m) at (sym (repeat_add f m 1 x))

module _ {k q s N : ℕ} (R : Tested k q s N) (x : ℕ) (hx : x < 2 ^ 32) (least : 2 ^ (32 - k) ≤ x) where
  -- ---- Its sequence

  pub sequence_bits : Bits k q (sequence k q x)
  unfolding top
  sequence_bits = record { digit = digit_lt; follows = sequence_follows R.params x }
    where
      digit_lt : (m : ℕ) → sequence k q x m < 2
      digit_lt m =
          elim (dec_le k m) [
            | yes l ↦
                let (j, e) = le_dest l in
                let place : j + k ≡ m = omega (arith, e) in
                omega (arith, rw place at (sequence_follows R.params x j))
            | no n ↦ omega (arith, sequence_starts R.params x m (omega arith))
          ]

  sequence_some : ((m : ℕ) → sequence k q x m ≡ 0) → ⊥
  sequence_some zeros =
      let none : x / 2 ^ (32 - k) ≡ 0 / 2 ^ (32 - k)
      = one_to_one R.params x 0 hx (pow_pos 32)
      (reads_top R.params x 0 hx (pow_pos 32) (λ m l. sequence_starts R.params x m l ∙ zeros m ∙ sym (top_zero m))) in
      let small : x / 2 ^ (32 - k) < 1 = rw (none, zero-div (2 ^ (32 - k))) (omega arith) in
      not-le_of_lt ((div-lt_iff_lt-mul (pow_pos (32 - k))).0 small) (omega arith)

  pub sequence_exact : Exact (sequence k q x) N
  sequence_exact = exact (sequence k q x) sequence_bits sequence_some N R.rows R.test

  -- ---- The register

  pub kept : (t : ℕ) → (repeat (step k q s) t x < 2 ^ 32) × (2 ^ (32 - k) ≤ repeat (step k q s) t x)
  unfolding repeat
  kept t = after t x hx least
    where
      after : (t y : ℕ) → y < 2 ^ 32 → 2 ^ (32 - k) ≤ y
          → (repeat (step k q s) t y < 2 ^ 32) × (2 ^ (32 - k) ≤ repeat (step k q s) t y)
      after zero y h l = (h, l)
      after (suc t) y h l = after t (step k q s y) (step_lt k q s y h) (minimum_kept R.params y h l)

  -- its top k bits after t draws are the sequence's from place t s on
  tops : (t i : ℕ) → i < k → top (repeat (step k q s) t x) i ≡ sequence k q x (t * s + i)
  unfolding repeat
  tops zero i h = sequence_starts R.params x i h ∙ ap (sequence k q x) (omega arith)
  tops (suc t) i h =
      history R.params (sequence k q x) (sequence_follows R.params x) t x hx (sequence_starts R.params x) i (omega arith)

  -- It is where it was only after a multiple of N draws,
  pub only_after : (n : ℕ) → repeat (step k q s) n x ≡ x → n % N ≡ 0
  only_after n same =
      let u : ℕ → ℕ = sequence k q x in
      let period : Period u (n * s)
      = λ m.
      sym (sequence_unique R.params x (λ j. u (j + n * s)) (later u (n * s) sequence_bits).follows
      (λ i l. sym (ap (λ (y : ℕ). top y i) same) ∙ tops n i l ∙ ap u (add_comm (n * s) i)) m) in
      cancel s N n R.coprime (rw (mul_comm s n) (sequence_exact.only (n * s) period))

  -- and, once it has drawn, after each of them.
  pub after_each : (t n : ℕ) → n % N ≡ 0 → repeat (step k q s) (suc t + n) x ≡ repeat (step k q s) (suc t) x
  unfolding repeat
  after_each t n e =
      let u : ℕ → ℕ = sequence k q x in
      let whole : n ≡ n / N * N = omega (arith, div-add-mod' n N) in
      let period : Period u (n * s)
      = rw (mul_comm n s, whole, ← mul_assoc s (n / N) N) (period_multiple u N (s * (n / N)) sequence_exact.period) in
      let place : (i : ℕ) → (t + n) * s + i ≡ t * s + i + n * s = λ i. rw (add-mul t n s) (add_right_comm (t * s) (n * s) i) in
      rw (suc-add t n, last_step (step k q s) (t + n) x, last_step (step k q s) t x)
      (reads_top R.params _ _ (kept (t + n)).0 (kept t).0
      (λ i l. tops (t + n) i l ∙ ap u (place i) ∙ period (t * s + i) ∙ sym (tops t i l)))

-- So N is its period, from the first draw on.
pub register_back : {k q s N : ℕ} → Tested k q s N → (x : ℕ) → x < 2 ^ 32 → 2 ^ (32 - k) ≤ x → Back N (step k q s) x
register_back {k} {q} {s} R x hx least t n = (
  λ same.
      let (range, minimum) = kept R x hx least (suc t) in
      only_after R (repeat (step k q s) (suc t) x) range minimum n (repeat_add (step k q s) (suc t) n x ∙ same),
  after_each R x hx least t n,
)

-- ---- The three registers

abbrev row : ℕ → ℕ → ℕ → ℕ → Row
row p f v x = record { prime = p; reach = f; inverse = v; unit = x }

-- 2^31 - 1 is prime
unfoldable rows31 : List Row
rows31 = row 2147483647 46340 2147475456 1 ∷ []

unfoldable rows29 : List Row
rows29 = row 233 15 166316410 1 ∷ row 1103 33 185447446 516 ∷ row 2089 45 317348523 924 ∷ []

unfoldable rows28 : List Row
rows28 =
    row 3 1 201413087 1 ∷ row 5 1 135300520 2 ∷ row 29 5 99118671 2 ∷ row 43 6 220580552 26 ∷ row 113 10 4290707 81
    ∷ row 127 11 152044070 32 ∷ []

pub tested : OfThree (λ k q s. Tested k q s (2 ^ k - 1))
unfolding period_test rows_test row_test is_one is_zero power times reduce raise mul add digits value no_divisor rows31 rows29 rows28 xor
tested = (
  record { params = omega arith; rows = rows31; test = tt; positive = omega arith; coprime = (894784853, 5, refl) },
  record { params = omega arith; rows = rows29; test = tt; positive = omega arith; coprime = (134217728, 1, refl) },
  record { params = omega arith; rows = rows28; test = tt; positive = omega arith; coprime = (142112888, 9, refl) },
)

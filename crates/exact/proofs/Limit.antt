-- Inequalities in the limit: what holds of whole numbers in units of 2 ^ -n up to an error that falls below every 2 ^ -e.
use Prim.Native.Nat.{ℕ, zero, suc, ◌+◌, ◌-◌, ◌*◌, ◌^◌, ◌≤◌, ◌<◌, max}
use native.Mathlib.Nat.{pow-succ', mul-sub, mul-le-mul_left, mul-le-mul_right, le_of_mul-le-mul_right}
use native.Mathlib.Omega.{arith}
use lib.Pow.{pow_pos, pow_mono, pow-add}
use Rattle.exact.proofs.RootLaws.{lt_of_square_lt}

-- 1 as a product of d numbers in units of 2 ^ -n
abbrev pub one : ℕ → ℕ → ℕ
one zero n = 1
one (suc d) n = one d n * 2 ^ n

-- f is at most g in the limit, as products of d numbers: for every e the excess is at most 2 ^ -e from some n on
pub record Below (d : ℕ) (f g : ℕ → ℕ) : Type 0 where
  pub start : ℕ → ℕ
  pub close : (e n : ℕ) → start e ≤ n → 2 ^ e * f n ≤ 2 ^ e * g n + one d n

pub below_sum : {d : ℕ} {f g f' g' : ℕ → ℕ} → Below d f g → Below d f' g' → Below d (λ n. f n + f' n) (λ n. g n + g' n)
below_sum h k = record {
  start = λ e. max (h.start (suc e)) (k.start (suc e));
  close = λ e n l.
      let x = rw (pow-succ' 2 e) at (h.close (suc e) n (omega arith)) in
      let y = rw (pow-succ' 2 e) at (k.close (suc e) n (omega arith)) in
      omega (arith, x, y);
}

-- what exceeds no more than f exceeds g
pub below_by : {d : ℕ} {f g f' g' : ℕ → ℕ} → Below d f g → ((n : ℕ) → f' n + g n ≤ g' n + f n) → Below d f' g'
below_by h by = record { start = h.start; close = λ e n l. omega (arith, h.close e n l, mul-le-mul_left (2 ^ e) (by n)) }

pub below_exact : {d : ℕ} {f g : ℕ → ℕ} → ((n : ℕ) → f n ≤ g n) → Below d f g
below_exact h = record { start = λ e. 0; close = λ e n l. omega (arith, mul-le-mul_left (2 ^ e) (h n)) }

-- an excess of at most eight units
pub below_slack : {f g : ℕ → ℕ} → ((n : ℕ) → f n ≤ g n + 8 * 2 ^ n) → Below 2 f g
below_slack h = record {
  start = λ e. e + 3;
  close = λ e n l.
      let big : 8 * 2 ^ e ≤ 2 ^ n = omega (arith, pow_mono l, pow-add 2 e 3) in
      omega (arith, mul-le-mul_left (2 ^ e) (h n), mul-le-mul_right (2 ^ n) big);
}

-- a factor of at most 1
pub below_times : {d : ℕ} {f g : ℕ → ℕ} (h : ℕ → ℕ) → ((n : ℕ) → h n ≤ 2 ^ n) → Below d f g →
    Below (suc d) (λ n. f n * h n) (λ n. g n * h n)
below_times {d} h most k = record {
  start = k.start;
  close = λ e n l. omega (arith, mul-le-mul_right (h n) (k.close e n l), mul-le-mul_left (one d n) (most n));
}

-- a factor of at least 1/2 taken away
pub below_cancel : {d : ℕ} {f g : ℕ → ℕ} (h : ℕ → ℕ) → ((n : ℕ) → 2 ^ n ≤ 2 * h n) →
    Below (suc d) (λ n. f n * h n) (λ n. g n * h n) → Below d f g
below_cancel {d} h least k = record {
  start = λ e. k.start (suc e);
  close = λ e n l.
      let x = rw (pow-succ' 2 e) at (k.close (suc e) n l) in
      let positive : zero < h n = omega (arith, least n, pow_pos n) in
      le_of_mul-le-mul_right (omega (arith, x, mul-le-mul_left (one d n) (least n))) positive;
}

pub below_halve : {d : ℕ} {f g : ℕ → ℕ} → Below d (λ n. 2 * f n) (λ n. 2 * g n) → Below d f g
below_halve h = record { start = h.start; close = λ e n l. omega (arith, h.close e n l) }

pub below_excess : {d : ℕ} {f g : ℕ → ℕ} → Below d f g → Below d (λ n. f n - g n) (λ n. 0)
below_excess h = record { start = h.start; close = λ e n l. rw mul-sub (omega (arith, h.close e n l)) }

-- the square root of an inequality
pub below_root : {f g : ℕ → ℕ} → Below 4 (λ n. f n * f n) (λ n. g n * g n) → Below 2 f g
below_root {f} {g} h = record {
  start = λ e. h.start (e + e);
  close = λ e n l.
      let N : ℕ = 2 ^ n * 2 ^ n in
      let x = rw (pow-add 2 e e) at (h.close (e + e) n l) in
      let m = lt_of_square_lt (2 ^ e * f n) (2 ^ e * g n + N + 1) (omega (arith, x)) in
      omega (arith, m);
}

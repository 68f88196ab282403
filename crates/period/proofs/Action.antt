-- A polynomial acts on a sequence of bits: x is the shift. Where the sequence follows the recurrence, x^k acts as x^q + 1.
use mathlib.Core.Path.{◌≡◌, refl, sym, ap, ◌∙◌}
use mathlib.Core.Bool.{Bool, true, false, cond, xor}
use mathlib.Core.List.{List, [], ◌∷◌}
use Prim.Native.Nat.{ℕ, zero, suc, ◌+◌, ◌%◌, ◌<◌}
use native.Mathlib.Nat.{mod-add-mod, add-mod-mod, suc-add, add-suc, add-zero, add_right_comm}
use native.Mathlib.Omega.{arith}
use lib.Dec.{T}
use lib.ListN.{take, drop}
use Rattle.streams.specs.Recurrence.{Follows}
use Rattle.period.proofs.Polynomials.{add, mul, raise, reduce, times, power, value, is_zero, is_one}

-- the sum of the bits, from place m on, at which p has the digit 1
unfoldable act : (ℕ → ℕ) → ℕ → List Bool → ℕ
act u m [] = 0
act u m (b ∷ p) = (cond b (u m) 0 + act u (suc m) p) % 2

act_lt : (u : ℕ → ℕ) (m : ℕ) (p : List Bool) → act u m p < 2
unfolding act
act_lt u m [] = omega arith
act_lt u m (b ∷ p) = omega arith

act_same : (u v : ℕ → ℕ) → ((j : ℕ) → u j ≡ v j) → (m : ℕ) (p : List Bool) → act u m p ≡ act v m p
unfolding act
act_same u v h m [] = refl
act_same u v h m (b ∷ p) = rw (h m, act_same u v h (suc m) p)

act_zeros : (m : ℕ) (p : List Bool) → act (λ j. 0) m p ≡ 0
unfolding act
act_zeros m [] = refl
act_zeros m (true ∷ p) = omega (arith, act_zeros (suc m) p)
act_zeros m (false ∷ p) = omega (arith, act_zeros (suc m) p)

-- ---- A sum, a product, a power of x

add_digit : (b c : Bool) (x : ℕ) → cond (xor b c) x 0 % 2 ≡ (cond b x 0 + cond c x 0) % 2
unfolding xor
add_digit true true x = omega arith
add_digit true false x = omega arith
add_digit false true x = omega arith
add_digit false false x = omega arith

regroup : (d a b x y : ℕ) → d % 2 ≡ (a + b) % 2 → (d + (x + y) % 2) % 2 ≡ ((a + x) % 2 + (b + y) % 2) % 2
regroup d a b x y e = simp (mod-add-mod, add-mod-mod) (omega arith)

act_add : (u : ℕ → ℕ) (m : ℕ) (p r : List Bool) → act u m (add p r) ≡ (act u m p + act u m r) % 2
unfolding act add
act_add u m [] r = omega (arith, act_lt u m r)
act_add u m (b ∷ p) [] = omega arith
act_add u m (b ∷ p) (c ∷ r) =
    rw (act_add u (suc m) p r)
    (regroup (cond (xor b c) (u m) 0) (cond b (u m) 0) (cond c (u m) 0) (act u (suc m) p) (act u (suc m) r) (add_digit b c (u m)))

act_cond : (u : ℕ → ℕ) (m : ℕ) (b : Bool) (r : List Bool) → act u m (cond b r []) ≡ cond b (act u m r) 0
unfolding act
act_cond u m true r = refl
act_cond u m false r = refl

act_mul : (u : ℕ → ℕ) (m : ℕ) (p r : List Bool) → act u m (mul p r) ≡ act (λ j. act u j r) m p
unfolding act mul
act_mul u m [] r = refl
act_mul u m (b ∷ p) r =
    act_add u m (cond b r []) (false ∷ mul p r) ∙ rw (act_cond u m b r, act_mul u (suc m) p r) (omega arith)

act_raise : (u : ℕ → ℕ) (m n : ℕ) (p : List Bool) → act u m (raise n p) ≡ act u (m + n) p
unfolding act raise
act_raise u m zero p = rw (add-zero m)
act_raise u m (suc n) p =
    rw (act_raise u (suc m) n p, add-suc m n, suc-add m n) (omega (arith, act_lt u (suc (m + n)) p))

act_split : (u : ℕ → ℕ) (m k : ℕ) (p : List Bool) → act u m p ≡ (act u m (take k p) + act u (m + k) (drop k p)) % 2
unfolding act
act_split u m zero p = rw (add-zero m) (omega (arith, act_lt u m p))
act_split u m (suc k) [] = refl
act_split u m (suc k) (b ∷ p) =
    rw (act_split u (suc m) k p, add-suc m k, suc-add m k) (omega arith)

-- ---- Where the sequence follows the recurrence

follows_digit : (b : Bool) (x y z x' y' z' : ℕ) → x ≡ (y + z) % 2 → x' ≡ (y' + z') % 2
    → (cond b x 0 + x') % 2 ≡ ((cond b y 0 + y') % 2 + (cond b z 0 + z') % 2) % 2
follows_digit true x y z x' y' z' e f = rw (e, f) (simp (mod-add-mod, add-mod-mod) (omega arith))
follows_digit false x y z x' y' z' e f = rw f (simp (mod-add-mod, add-mod-mod) (omega arith))

module _ (k q : ℕ) (u : ℕ → ℕ) (follows : Follows k q u) where
  act_follows : (m : ℕ) (p : List Bool) → act u (m + k) p ≡ (act u (m + q) p + act u m p) % 2
  unfolding act
  act_follows m [] = refl
  act_follows m (b ∷ p) =
      follows_digit b (u (m + k)) (u (m + q)) (u m) (act u (suc (m + k)) p) (act u (suc (m + q)) p) (act u (suc m) p) (follows m)
      (rw (suc-add m k, suc-add m q) at (act_follows (suc m) p))

  act_reduce : (m : ℕ) (p : List Bool) → act u m (reduce k q p) ≡ act u m p
  unfolding reduce
  act_reduce m p =
      let high : List Bool = drop k p in
      act_add u m (take k p) (add high (raise q high))
      ∙ rw (act_add u m high (raise q high), act_raise u m q high, act_split u m k p, act_follows m high) (omega arith)

-- ---- p stands for x^n: it reads the bit n places on, in every sequence of bits that follows the recurrence

pub record Bits (k q : ℕ) (u : ℕ → ℕ) : Type 0 where
  pub digit : (m : ℕ) → u m < 2
  pub follows : Follows k q u

record Reads (k q n : ℕ) (p : List Bool) : Type 0 where
  pub reads : (u : ℕ → ℕ) → Bits k q u → (m : ℕ) → act u m p ≡ u (m + n)

-- the same sequence from place n on
pub later : {k q : ℕ} (u : ℕ → ℕ) (n : ℕ) → Bits k q u → Bits k q (λ j. u (j + n))
later {k} {q} u n h = record {
  digit = λ m. h.digit (m + n);
  follows = λ m. ap u (add_right_comm m k n) ∙ h.follows (m + n) ∙ rw (add_right_comm m n q);
}

module _ {k q : ℕ} where
  reads_mul : {n n' : ℕ} {p r : List Bool} → Reads k q n p → Reads k q n' r → Reads k q (n + n') (mul p r)
  reads_mul {n} {n'} {p} {r} hp hr = record {
    reads = λ u h m.
        act_mul u m p r ∙ act_same (λ j. act u j r) (λ j. u (j + n')) (hr.reads u h) m p
        ∙ hp.reads (λ j. u (j + n')) (later u n' h) m ∙ ap u (omega arith);
  }

  reads_reduce : {n : ℕ} {p : List Bool} → Reads k q n p → Reads k q n (reduce k q p)
  reads_reduce {p = p} hp = record { reads = λ u h m. act_reduce k q u h.follows m p ∙ hp.reads u h m }

  reads_shift : {n : ℕ} {p : List Bool} → Reads k q n p → Reads k q (n + 1) (false ∷ p)
  unfolding act
  reads_shift {n} hp = record {
    reads = λ u h m.
        let bit : u (suc m + n) < 2 = h.digit (suc m + n) in
        let place : u (suc m + n) ≡ u (m + (n + 1)) = ap u (omega arith) in
        rw (hp.reads u h (suc m)) (omega arith);
  }

  reads_times : {n n' : ℕ} {p r : List Bool} → Reads k q n p → Reads k q n' r → Reads k q (n + n') (times k q p r)
  unfolding times
  reads_times hp hr = reads_reduce (reads_reduce (reads_mul hp hr))

  reads_power : (e : List Bool) → Reads k q (value e) (power k q e)
  unfolding power value act
  reads_power [] = record { reads = λ u h m. rw (add-zero m) (omega (arith, h.digit m)) }
  reads_power (true ∷ e) = reads_reduce (reads_shift (reads_times (reads_power e) (reads_power e)))
  reads_power (false ∷ e) = rw (add-zero (value e + value e)) (reads_times (reads_power e) (reads_power e))

-- ---- What the two computed tests of a polynomial say

act_zero : (u : ℕ → ℕ) (m : ℕ) (p : List Bool) → T (is_zero p) → act u m p ≡ 0
unfolding act is_zero
act_zero u m [] t = refl
act_zero u m (true ∷ p) t = absurd t
act_zero u m (false ∷ p) t = rw (act_zero u (suc m) p t)

act_one : (u : ℕ → ℕ) (m : ℕ) (p : List Bool) → T (is_one p) → act u m p ≡ u m % 2
unfolding act is_one
act_one u m [] t = absurd t
act_one u m (true ∷ p) t = rw (act_zero u (suc m) p t) (omega arith)
act_one u m (false ∷ p) t = absurd t

abbrev pub Period : (ℕ → ℕ) → ℕ → Type 0
Period u n = (m : ℕ) → u (m + n) ≡ u m

module _ {k q : ℕ} (u : ℕ → ℕ) (h : Bits k q u) where
  -- where x^n is 1, n is a period of the sequence;
  pub power_one : (e : List Bool) → T (is_one (power k q e)) → Period u (value e)
  power_one e t m = sym ((reads_power e).reads u h m) ∙ act_one u m (power k q e) t ∙ omega (arith, h.digit m)

  -- where x^n + 1 has an inverse v, it is a period only of zeros.
  pub power_apart : (e v : List Bool) → T (is_one (times k q v (add (power k q e) (true ∷ [])))) → Period u (value e) → (m : ℕ) → u m ≡ 0
  unfolding times act
  power_apart e v t period m =
      let w : List Bool = add (power k q e) (true ∷ []) in
      let zeros : (j : ℕ) → act u j w ≡ 0
      = λ j. act_add u j (power k q e) (true ∷ []) ∙ rw ((reads_power e).reads u h j, period j) (omega arith) in
      let product : act u m (times k q v w) ≡ 0
      = act_reduce k q u h.follows m (reduce k q (mul v w)) ∙ act_reduce k q u h.follows m (mul v w)
      ∙ act_mul u m v w ∙ act_same (λ j. act u j w) (λ j. 0) zeros m v ∙ act_zeros m v in
      omega (arith, act_one u m (times k q v w) t, h.digit m)

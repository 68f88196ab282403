-- The family of registers over (k, q, s): one step in masks, shifts and exclusive-or is the recurrence, s places on.
-- Every law is proved once, for any parameters that meet `Params`.
use mathlib.Core.Path.{◌≡◌, refl, sym, ap, ◌∙◌}
use Prim.Native.Nat.{ℕ, zero, suc, ◌+◌, ◌-◌, ◌*◌, ◌/◌, ◌%◌, ◌^◌, ◌≤◌, ◌<◌}
use native.Mathlib.Nat.{mod-lt, add_assoc, zero-add, suc-add, le_dest, lt_of_le_of_lt, zero-div, div-lt_iff_lt-mul}
use native.Mathlib.Nat.{not-le_of_lt}
use native.Mathlib.Decide.{dec_le}
use native.Mathlib.Omega.{arith}
use lib.Pow.{pow_pos, shr_le, shr_lt}
use lib.Bits.{bit_and, bit_xor, xor_lt}
use borrow.Author.Tests.{lt-ltb, le-ltb}
use Rattle.bit_matrix.specs.Matrices.{repeat}
use Rattle.streams.specs.Streams.{step}
use Rattle.streams.specs.Recurrence.{top, Follows, Params, shifted, sequence_from, sequence}
use Rattle.streams.proofs.Bits.{bit, bit_lt, bit_above, bit_shr, bit_shl, bit_shl_low, bit_mod, bit_xor_lem, bit_high}
use Rattle.streams.proofs.Bits.{bit_cleared, bit_ext}

-- ---- The two halves of a step

-- the register with its c lowest bits cleared, shifted left s
masked : ℕ → ℕ → ℕ → ℕ
masked c s x = bit_and x (2 ^ 32 - 2 ^ c) * 2 ^ s % 2 ^ 32

masked_high : (k c s m x : ℕ) → k + c ≡ 32 → m < k → s + (c + m) < 32 → bit (masked c s x) (s + (c + m)) ≡ bit x (c + m)
unfolding masked
masked_high k c s m x e hm h =
    bit_mod (bit_and x (2 ^ 32 - 2 ^ c) * 2 ^ s) 32 (s + (c + m)) h ∙ bit_shl (bit_and x (2 ^ 32 - 2 ^ c)) s (c + m)
    ∙ rw e at (bit_high x k c m hm)

masked_low : (k c s j x : ℕ) → k + c ≡ 32 → j < 32 → j < s + c → bit (masked c s x) j ≡ 0
unfolding masked
masked_low k c s j x e hj h =
    bit_mod (bit_and x (2 ^ 32 - 2 ^ c) * 2 ^ s) 32 j hj
    ∙ elim (dec_le s j) [
      | yes l ↦
          let (m, d) = le_dest l in
          rw d at (bit_shl (bit_and x (2 ^ 32 - 2 ^ c)) s m ∙ rw e at (bit_cleared x k c m (omega (arith, d))))
      | no n ↦ bit_shl_low (bit_and x (2 ^ 32 - 2 ^ c)) s j (omega arith)
    ]

-- ((the register left q) xor itself), shifted right p
folded : ℕ → ℕ → ℕ → ℕ
folded q p x = bit_xor (x * 2 ^ q % 2 ^ 32) x / 2 ^ p

folded_bit : (q p j x : ℕ) → bit (folded q p x) j ≡ (bit (x * 2 ^ q % 2 ^ 32) (p + j) + bit x (p + j)) % 2
unfolding folded
folded_bit q p j x = bit_shr (bit_xor (x * 2 ^ q % 2 ^ 32) x) p j ∙ bit_xor_lem (x * 2 ^ q % 2 ^ 32) x (p + j)

folded_high : (q p j x : ℕ) → x < 2 ^ 32 → 32 ≤ p + j → bit (folded q p x) j ≡ 0
folded_high q p j x hx h =
    folded_bit q p j x
    ∙ rw (bit_above 32 (p + j) hx h, bit_above 32 (p + j) (mod-lt (x * 2 ^ q) (pow_pos 32)) h)

folded_low : (q p j m x : ℕ) → q + m ≡ p + j → q + m < 32 → bit (folded q p x) j ≡ (bit x m + bit x (q + m)) % 2
folded_low q p j m x e h =
    folded_bit q p j x
    ∙ rw (← e, bit_mod (x * 2 ^ q) 32 (q + m) h, bit_shl x q m)

-- ---- One step, bit by bit

-- a step is their exclusive-or
step_is : (k q s x : ℕ) → step k q s x ≡ bit_xor (masked (32 - k) s x) (folded q (k - s) x)
unfolding step masked folded
step_is k q s x = refl

masked_lt : (c s x : ℕ) → masked c s x < 2 ^ 32
unfolding masked
masked_lt c s x = mod-lt (bit_and x (2 ^ 32 - 2 ^ c) * 2 ^ s) (pow_pos 32)

folded_lt : (q p x : ℕ) → x < 2 ^ 32 → folded q p x < 2 ^ 32
unfolding folded
folded_lt q p x hx =
    lt_of_le_of_lt (shr_le (bit_xor (x * 2 ^ q % 2 ^ 32) x) p)
    (xor_lt 32 (x * 2 ^ q % 2 ^ 32) x (mod-lt (x * 2 ^ q) (pow_pos 32)) hx)

pub step_lt : (k q s x : ℕ) → x < 2 ^ 32 → step k q s x < 2 ^ 32
step_lt k q s x hx =
    rw (step_is k q s x)
    (xor_lt 32 (masked (32 - k) s x) (folded q (k - s) x) (masked_lt (32 - k) s x) (folded_lt q (k - s) x hx))

step_bit : (k q s x j : ℕ) → bit (step k q s x) j ≡ (bit (masked (32 - k) s x) j + bit (folded q (k - s) x) j) % 2
step_bit k q s x j =
    ap (λ (y : ℕ). bit y j) (step_is k q s x) ∙ bit_xor_lem (masked (32 - k) s x) (folded q (k - s) x) j

module _ {k q s : ℕ} (P : Params k q s) (x : ℕ) (hx : x < 2 ^ 32) where
  -- the top k - s bits are those from place s on
  pub step_moves : (i : ℕ) → i + s < k → top (step k q s x) i ≡ top x (i + s)
  unfolding top bit
  step_moves i h =
      let (m, e) = le_dest h in
      let place : s + ((32 - k) + m) ≡ 31 - i = omega arith in
      let from : (32 - k) + m ≡ 31 - (i + s) = omega arith in
      let high : bit (masked (32 - k) s x) (31 - i) ≡ bit x (31 - (i + s))
      = rw (place, from) at (masked_high k (32 - k) s m x (omega arith) (omega arith) (omega arith)) in
      step_bit k q s x (31 - i)
      ∙ rw (high, folded_high q (k - s) (31 - i) x hx (omega arith)) (omega (arith, bit_lt x (31 - (i + s))))

  -- the rest are the recurrence's next bits
  pub step_adds : (i m : ℕ) → i < 32 → i + s ≡ m + k → top (step k q s x) i ≡ (top x (m + q) + top x m) % 2
  unfolding top bit
  step_adds i m hi e =
      let low : bit (masked (32 - k) s x) (31 - i) ≡ 0
      = masked_low k (32 - k) s (31 - i) x (omega arith) (omega arith) (omega arith) in
      let place : q + (31 - (m + q)) ≡ 31 - m = omega arith in
      let fold : bit (folded q (k - s) x) (31 - i) ≡ (bit x (31 - (m + q)) + bit x (31 - m)) % 2
      = rw place at (folded_low q (k - s) (31 - i) (31 - (m + q)) x (omega arith) (omega arith)) in
      step_bit k q s x (31 - i) ∙ rw (low, fold) (omega arith)

  -- The step in masks, shifts and exclusive-or is the sequence, s places on.
  pub step_follows : (u : ℕ → ℕ) → Follows k q u → ((i : ℕ) → i < k → top x i ≡ u i) → (i : ℕ) → i < 32
      → top (step k q s x) i ≡ u (s + i)
  step_follows u follows starts i hi =
      elim (dec_le k (i + s)) [
        | yes l ↦
            let (m, e) = le_dest l in
            let place : m + k ≡ s + i = omega (arith, e) in
            step_adds i m hi (omega (arith, e))
            ∙ rw (starts (m + q) (omega (arith, e)), starts m (omega (arith, e)), ← follows m, place)
        | no n ↦ step_moves i (omega arith) ∙ starts (i + s) (omega arith) ∙ ap u (omega arith)
      ]

-- ---- The whole history of a register

-- After t + 1 steps all 32 bits are the sequence's, from place (t + 1) s on. (At the start only the top k need be.)
pub history : {k q s : ℕ} → Params k q s → (u : ℕ → ℕ) → Follows k q u → (t x : ℕ) → x < 2 ^ 32
    → ((i : ℕ) → i < k → top x i ≡ u i) → (i : ℕ) → i < 32 → top (repeat (step k q s) (suc t) x) i ≡ u (suc t * s + i)
unfolding repeat
history P u follows zero x hx starts i hi = step_follows P x hx u follows starts i hi ∙ ap u (omega arith)
history {k} {q} {s} P u follows (suc t) x hx starts i hi =
    history P (λ j. u (s + j)) (λ m. ap u (omega arith) ∙ follows (s + m) ∙ rw (add_assoc s m q)) t
    (step k q s x) (step_lt k q s x hx)
    (λ j l. step_follows P x hx u follows starts j (omega arith)) i hi
    ∙ ap u (omega arith)

-- ---- One to one, and the minima

top_lt : (x i : ℕ) → top x i < 2
unfolding top
top_lt x i = omega arith

-- the top k bits of the next register decide those of this one, from the lowest up
back : {k q s : ℕ} → Params k q s → (x y : ℕ) → x < 2 ^ 32 → y < 2 ^ 32
    → ((i : ℕ) → i < k → top (step k q s x) i ≡ top (step k q s y) i)
    → (d m : ℕ) → m < k → k ≤ m + d → top x m ≡ top y m
back P x y hx hy same zero m hm h = omega arith
back {k} {q} {s} P x y hx hy same (suc d) m hm h =
    elim (dec_le s m) [
      | yes l ↦
          let (i, e) = le_dest l in
          let place : i + s ≡ m = omega (arith, e) in
          rw place at (sym (step_moves P x hx i (omega (arith, e))) ∙ same i (omega (arith, e))
          ∙ step_moves P y hy i (omega (arith, e)))
      | no n ↦
          let i : ℕ = m + k - s in
          let e : i + s ≡ m + k = omega arith in
          let later : top x (m + q) ≡ top y (m + q) = back P x y hx hy same d (m + q) (omega arith) (omega arith) in
          let sums : (top x (m + q) + top x m) % 2 ≡ (top y (m + q) + top y m) % 2
          = sym (step_adds P x hx i m (omega arith) e) ∙ same i (omega arith) ∙ step_adds P y hy i m (omega arith) e in
          omega (arith, top_lt x m, top_lt y m)
    ]

-- equal top k bits are equal numbers, once the rest is shifted out
tops : (k x y : ℕ) → k ≤ 32 → x < 2 ^ 32 → y < 2 ^ 32 → ((m : ℕ) → m < k → top x m ≡ top y m)
    → x / 2 ^ (32 - k) ≡ y / 2 ^ (32 - k)
unfolding top bit
tops k x y hk hx hy same =
    let e : k + (32 - k) ≡ 32 = omega arith in
    bit_ext k (x / 2 ^ (32 - k)) (y / 2 ^ (32 - k))
    (shr_lt k (32 - k) (rw e hx)) (shr_lt k (32 - k) (rw e hy))
    (λ j l.
    let place : 31 - (k - 1 - j) ≡ (32 - k) + j = omega arith in
    bit_shr x (32 - k) j ∙ rw place at (same (k - 1 - j) (omega arith)) ∙ sym (bit_shr y (32 - k) j))

-- The step is one to one on the top k bits, which are all that it reads.
pub one_to_one : {k q s : ℕ} → Params k q s → (x y : ℕ) → x < 2 ^ 32 → y < 2 ^ 32
    → step k q s x ≡ step k q s y → x / 2 ^ (32 - k) ≡ y / 2 ^ (32 - k)
one_to_one {k} {q} {s} P x y hx hy e =
    tops k x y P.k_width hx hy
    (λ m l. back P x y hx hy (λ i _. ap (λ (z : ℕ). top z i) e) k m l (omega arith))

-- It reads no others,
pub reads_top : {k q s : ℕ} → Params k q s → (x y : ℕ) → x < 2 ^ 32 → y < 2 ^ 32
    → ((m : ℕ) → m < k → top x m ≡ top y m) → step k q s x ≡ step k q s y
unfolding top bit
reads_top {k} {q} {s} P x y hx hy same =
    bit_ext 32 (step k q s x) (step k q s y) (step_lt k q s x hx) (step_lt k q s y hy)
    (λ j l.
    let place : 31 - (31 - j) ≡ j = omega arith in
    rw place at (agree (31 - j) (omega arith)))
  where
    agree : (i : ℕ) → i < 32 → top (step k q s x) i ≡ top (step k q s y) i
    agree i hi =
        elim (dec_le k (i + s)) [
          | yes l ↦
              let (m, e) = le_dest l in
              let place : i + s ≡ m + k = omega (arith, e) in
              step_adds P x hx i m hi place
              ∙ rw (same (m + q) (omega (arith, e)), same m (omega (arith, e))) (sym (step_adds P y hy i m hi place))
          | no n ↦
              step_moves P x hx i (omega arith) ∙ same (i + s) (omega arith) ∙ sym (step_moves P y hy i (omega arith))
        ]

-- so it is one to one, in all 32 bits, on the registers that a step has made.
pub one_to_one_reached : {k q s : ℕ} → Params k q s → (x y : ℕ) → x < 2 ^ 32 → y < 2 ^ 32
    → step k q s (step k q s x) ≡ step k q s (step k q s y) → step k q s x ≡ step k q s y
one_to_one_reached {k} {q} {s} P x y hx hy e =
    reads_top P x y hx hy
    (λ m l.
    back P x y hx hy
    (λ i j.
    back P (step k q s x) (step k q s y) (step_lt k q s x hx) (step_lt k q s y hy) (λ h _. ap (λ (z : ℕ). top z h) e) k i j
    (omega arith))
    k m l (omega arith))

pub top_zero : (i : ℕ) → top 0 i ≡ 0
unfolding top
top_zero i = rw (zero-div (2 ^ (31 - i)))

top_below : (k x i : ℕ) → k ≤ 32 → x < 2 ^ (32 - k) → i < k → top x i ≡ 0
unfolding top bit
top_below k x i hk h l = bit_above (32 - k) (31 - i) h (omega arith)

zero_step : {k q s : ℕ} → Params k q s → (i : ℕ) → i < k → top (step k q s 0) i ≡ 0
zero_step {k} {q} {s} P i hi =
    elim (dec_le k (i + s)) [
      | yes l ↦
          let (m, e) = le_dest l in
          step_adds P 0 (pow_pos 32) i m (omega arith) (omega (arith, e)) ∙ rw (top_zero (m + q), top_zero m)
      | no n ↦ step_moves P 0 (pow_pos 32) i (omega arith) ∙ top_zero (i + s)
    ]

-- A register that has its minimum keeps it: its top k bits are not all 0, and only those of 0 step to 0.
pub minimum_kept : {k q s : ℕ} → Params k q s → (x : ℕ) → x < 2 ^ 32 → 2 ^ (32 - k) ≤ x → 2 ^ (32 - k) ≤ step k q s x
minimum_kept {k} {q} {s} P x hx h =
    elim (dec_le (2 ^ (32 - k)) (step k q s x)) [
      | yes l ↦ l
      | no n ↦
          let none : x / 2 ^ (32 - k) ≡ 0 / 2 ^ (32 - k)
          = tops k x 0 P.k_width hx (pow_pos 32)
          (λ m l.
          back P x 0 hx (pow_pos 32)
          (λ i j. top_below k (step k q s x) i P.k_width (omega arith) j ∙ sym (zero_step P i j)) k m l (omega arith)) in
          let small : x / 2 ^ (32 - k) < 1 = rw (none, zero-div (2 ^ (32 - k))) (omega arith) in
          absurd (not-le_of_lt ((div-lt_iff_lt-mul (pow_pos (32 - k))).0 small) (omega arith))
    ]

-- ---- Exclusive-or of words

pub top_xor : (x y i : ℕ) → top (bit_xor x y) i ≡ (top x i + top y i) % 2
unfolding top bit
top_xor x y i = bit_xor_lem x y (31 - i)

-- ---- The sequence of a register

module _ {k q s : ℕ} (P : Params k q s) where
  from_starts : (w : ℕ → ℕ) (i : ℕ) → i < k → sequence_from k q w i ≡ w i
  unfolding sequence_from shifted
  from_starts w zero h = refl
  from_starts w (suc i) h =
      from_starts (shifted k q w) i (omega arith) ∙ rw (lt-ltb (i + 1) k (omega arith)) (ap w (omega arith))

  from_follows : (w : ℕ → ℕ) → Follows k q (sequence_from k q w)
  unfolding sequence_from shifted
  from_follows w zero =
      let last : k ≡ suc (k - 1) = omega arith in
      rw (zero-add k, zero-add q, from_starts w q (omega arith))
      (ap (sequence_from k q w) last ∙ from_starts (shifted k q w) (k - 1) (omega arith) ∙ rw (le-ltb (k - 1 + 1) k (omega arith)))
  from_follows w (suc m) = rw (suc-add m k, suc-add m q) (from_follows (shifted k q w) m)

  -- It starts with the register's top k bits,
  pub sequence_starts : (x i : ℕ) → i < k → top x i ≡ sequence k q x i
  unfolding sequence
  sequence_starts x i h = sym (from_starts (top x) i h)

  -- and goes on by the recurrence.
  pub sequence_follows : (x : ℕ) → Follows k q (sequence k q x)
  unfolding sequence
  sequence_follows x = from_follows (top x)

  -- the first k bits decide all
  from_same : (w v : ℕ → ℕ) → ((i : ℕ) → i < k → w i ≡ v i) → (m : ℕ) → sequence_from k q w m ≡ sequence_from k q v m
  unfolding sequence_from shifted
  from_same w v same zero = same 0 (omega arith)
  from_same w v same (suc m) = from_same (shifted k q w) (shifted k q v) shifted_same m
    where
      shifted_same : (i : ℕ) → i < k → shifted k q w i ≡ shifted k q v i
      shifted_same i h =
          elim (dec_le k (i + 1)) [
            | yes l ↦ rw (le-ltb (i + 1) k l, same q (omega arith), same 0 (omega arith))
            | no n ↦ rw (lt-ltb (i + 1) k (omega arith)) (same (i + 1) (omega arith))
          ]

  from_itself : (u : ℕ → ℕ) → Follows k q u → (m : ℕ) → sequence_from k q u m ≡ u m
  unfolding sequence_from shifted
  from_itself u follows zero = refl
  from_itself u follows (suc m) =
      from_same (shifted k q u) (λ i. u (suc i)) next m
      ∙ from_itself (λ i. u (suc i)) (λ n. rw (← suc-add n k, ← suc-add n q) (follows (suc n))) m
    where
      next : (i : ℕ) → i < k → shifted k q u i ≡ u (suc i)
      next i h =
          elim (dec_le k (i + 1)) [
            | yes l ↦
                let last : suc i ≡ 0 + k = omega arith in
                rw (le-ltb (i + 1) k l, last, follows 0, zero-add q)
            | no n ↦ rw (lt-ltb (i + 1) k (omega arith)) (ap u (omega arith))
          ]

  -- No other sequence does both.
  pub sequence_unique : (x : ℕ) (u : ℕ → ℕ) → Follows k q u → ((i : ℕ) → i < k → top x i ≡ u i) → (m : ℕ) → sequence k q x m ≡ u m
  unfolding sequence
  sequence_unique x u follows starts m = from_same (top x) u starts m ∙ from_itself u follows m

-- The exact period of the numbers that a stream draws. Where they repeat after n draws, so do their highest bits: the sums of one bit of
-- each register's sequence. What each register's bits and those n draws later differ in has that register's period and the product of the
-- other two, so it is always the same; it follows the recurrence, so it is 0, and the register's period divides n.
use mathlib.Core.Path.{◌≡◌, refl, sym, ap, ◌∙◌}
use mathlib.Core.Logic.{◌↔◌}
use Prim.Native.Nat.{ℕ, zero, suc, ◌+◌, ◌-◌, ◌*◌, ◌%◌, ◌^◌, ◌≤◌, ◌<◌}
use native.Mathlib.Nat.{suc-add, add-zero, mul_comm, mul_assoc, mul_left_comm, add-mul, mul-add, mod-add-mod, add-mod-mod, mod-eq_of_lt}
use native.Mathlib.Decide.{dec_le}
use native.Mathlib.Numerals.{add-one}
use native.Mathlib.Omega.{arith}
use Rattle.bit_matrix.specs.Matrices.{repeat}
use Rattle.bit_matrix.proofs.Theorems.{repeat_add}
use Rattle.streams.specs.declared.Stream.{Stream}
use Rattle.streams.specs.Streams.{advance, output}
use Rattle.streams.specs.Recurrence.{top, sequence, combined, draw_at, InRange, Minima}
use Rattle.streams.proofs.Theorems.{stream_history}
use Rattle.period.specs.Cycle.{cycle, SameDraws}
use Rattle.period.proofs.Action.{Bits, Period, later}
use Rattle.period.proofs.Divisors.{Coprime, cancel}
use Rattle.period.proofs.Recurrences.{period_minus, period_multiple, Exact}
use Rattle.period.proofs.Registers.{Tested, tested, sequence_bits, sequence_exact}
use Rattle.period.proofs.Streams.{cycle_divides, fit_after, stream_after_each}

ruleset expand = (add-mul, mul-add, mul_assoc, mul_comm, mul_left_comm)

-- ---- One register

-- What bit 0 of draw t + 1 and of the draw n later differ in, of a sequence of which each draw takes s places.
gap : (ℕ → ℕ) → ℕ → ℕ → ℕ → ℕ
gap v s n t = (v ((suc t + n) * s) + v (suc t * s)) % 2

gap_lt : (v : ℕ → ℕ) (s n t : ℕ) → gap v s n t < 2
unfolding gap
gap_lt v s n t = omega arith

gap_period : (v : ℕ → ℕ) (s n N : ℕ) → Period v N → Period (gap v s n) N
unfolding gap
gap_period v s n N period t =
    let far : Period v (N * s) = rw (mul_comm N s) (period_multiple v N s period) in
    let p : (suc (t + N) + n) * s ≡ (suc t + n) * s + N * s = rw (← add-mul (suc t + n) N s) (ap (λ (z : ℕ). z * s) (omega arith)) in
    let p' : suc (t + N) * s ≡ suc t * s + N * s = rw (← suc-add t N, add-mul (suc t) N s) in
    rw (p, p', far ((suc t + n) * s), far (suc t * s))

-- a sequence with two periods that have no common divisor is always the same
constant : (d : ℕ → ℕ) (N K : ℕ) → Coprime N K → Period d N → Period d K → (t : ℕ) → d t ≡ d 0
constant d N K coprime hN hK zero = refl
constant d N K (x, y, e) hN hK (suc t) =
    let once : Period d 1 = period_minus d (y * K) 1 (period_multiple d K y hK) (rw e at (period_multiple d N x hN)) in
    ap d (sym (add-one t)) ∙ once t ∙ constant d N K (x, y, e) hN hK t

-- place j is a place of a draw, some periods N on
spread : (a s b N j : ℕ) → a * s ≡ b * N + 1 → (a * j + N) * s ≡ j + (j * b + s) * N
spread a s b N j e =
    let f : a * s * j ≡ (b * N + 1) * j = ap (λ (z : ℕ). z * j) e in
    let g : a * s * j ≡ a * j * s = simp expand in
    let i : (b * N + 1) * j ≡ j + j * b * N = simp expand (omega arith) in
    rw (add-mul (a * j) N s, ← g, f, i, add-mul (j * b) s N, mul_comm N s) (omega arith)

sums_follow : (x y z x' y' z' : ℕ) → x ≡ (y + z) % 2 → x' ≡ (y' + z') % 2 → (x + x') % 2 ≡ ((y + y') % 2 + (z + z') % 2) % 2
sums_follow x y z x' y' z' e f = rw (e, f) (simp (mod-add-mod, add-mod-mod) (omega arith))

module _ {k q s N : ℕ} (R : Tested k q s N) (x : ℕ) (hx : x < 2 ^ 32) (least : 2 ^ (32 - k) ≤ x) (n : ℕ) where
  -- a gap that is always the same is the difference at every place,
  everywhere : (c : ℕ) → ((t : ℕ) → gap (sequence k q x) s n t ≡ c) → (j : ℕ) → (sequence k q x (j + n * s) + sequence k q x j) % 2 ≡ c
  unfolding gap
  everywhere c same j =
      let v : ℕ → ℕ = sequence k q x in
      let (a, b, unit) = R.coprime in
      let period : Period v ((j * b + s) * N) = period_multiple v N (j * b + s) (sequence_exact R x hx least).period in
      let positive = R.positive in
      let t : ℕ = a * j + N - 1 in
      let place : suc t * s ≡ j + (j * b + s) * N = ap (λ (z : ℕ). z * s) (omega arith) ∙ spread a s b N j unit in
      let place' : (suc t + n) * s ≡ j + n * s + (j * b + s) * N = rw (add-mul (suc t) n s, place) (omega arith) in
      let here : gap v s n t ≡ (v (j + n * s) + v j) % 2 = rw (place, place', period j, period (j + n * s)) in
      sym here ∙ same t

  -- and 0, since the differences follow the recurrence.
  nothing : (c : ℕ) → ((j : ℕ) → (sequence k q x (j + n * s) + sequence k q x j) % 2 ≡ c) → c ≡ 0
  nothing c at =
      let v : ℕ → ℕ = sequence k q x in
      let h : Bits k q v = sequence_bits R x hx least in
      let e : (v (0 + k + n * s) + v (0 + k)) % 2 ≡ ((v (0 + q + n * s) + v (0 + q)) % 2 + (v (0 + n * s) + v 0) % 2) % 2
      = sums_follow (v (0 + k + n * s)) (v (0 + q + n * s)) (v (0 + n * s)) (v (0 + k)) (v (0 + q)) (v 0)
      ((later v (n * s) h).follows 0) (h.follows 0) in
      let twice : c ≡ (c + c) % 2 = rw (at (0 + k), at (0 + q), at 0) at e in
      omega (arith, at 0)

  -- So the register's period divides n where its gap has another period too.
  register_divides : (K : ℕ) → Coprime N K → Period (gap (sequence k q x) s n) K → n % N ≡ 0
  register_divides K coprime other =
      let v : ℕ → ℕ = sequence k q x in
      let h : Bits k q v = sequence_bits R x hx least in
      let E : Exact v N = sequence_exact R x hx least in
      let c : ℕ = gap v s n 0 in
      let at : (j : ℕ) → (v (j + n * s) + v j) % 2 ≡ c
      = everywhere c (constant (gap v s n) N K coprime (gap_period v s n N E.period) other) in
      let none : c ≡ 0 = nothing c at in
      let period : Period v (n * s) = λ m. omega (arith, at m, h.digit m, h.digit (m + n * s)) in
      cancel s N n R.coprime (rw (mul_comm s n) (E.only (n * s) period))

-- ---- The stream

swap_sums : (a b c a' b' c' : ℕ) → (a + b + c) % 2 ≡ (a' + b' + c') % 2 → (a + a') % 2 ≡ ((b + b') % 2 + (c + c') % 2) % 2
swap_sums a b c a' b' c' e = simp (mod-add-mod, add-mod-mod) (omega arith)

-- one gap is the sum of the other two: it has the product of their periods
of_others : (d e f : ℕ → ℕ) (A B : ℕ) → Period e A → Period f B → ((t : ℕ) → d t ≡ (e t + f t) % 2) → Period d (A * B)
of_others d e f A B pe pf h t = h (t + A * B) ∙ rw (period_multiple f B A pf t, mul_comm A B, period_multiple e A B pe t) (sym (h t))

turned : (x y z : ℕ) → y < 2 → z < 2 → x ≡ (y + z) % 2 → (y ≡ (x + z) % 2) × (z ≡ (x + y) % 2)
turned x y z hy hz e = rw (e, mod-add-mod) (omega arith, omega arith)

-- bit 0 of a draw and of the one n later are the same: so are the sums of the three sequences' bits
bits_same : (u : Stream) → InRange u → (n t : ℕ) → draw_at u (suc t + n) ≡ draw_at u (suc t) → combined u (suc t + n) 0 ≡ combined u (suc t) 0
bits_same u r n t same =
    let before : top (draw_at u (suc t + n)) 0 ≡ combined u (suc t + n) 0 = rw (suc-add t n) (stream_history u r (t + n) 0 (omega arith)) in
    sym before ∙ ap (λ (z : ℕ). top z 0) same ∙ stream_history u r t 0 (omega arith)

module _ (u : Stream) (r : InRange u) (m : Minima u) where
  -- The numbers that a stream draws repeat only after a multiple of the cycle.
  draws_only : (n : ℕ) → ((t : ℕ) → draw_at u (suc t + n) ≡ draw_at u (suc t)) → n % cycle ≡ 0
  unfolding combined gap
  draws_only n same =
      let v₀ : ℕ → ℕ = sequence 31 13 u.s0 in
      let v₁ : ℕ → ℕ = sequence 29 2 u.s1 in
      let v₂ : ℕ → ℕ = sequence 28 3 u.s2 in
      let d₀ : ℕ → ℕ = gap v₀ 12 n in
      let d₁ : ℕ → ℕ = gap v₁ 4 n in
      let d₂ : ℕ → ℕ = gap v₂ 17 n in
      let p₀ : Period d₀ (2 ^ 31 - 1)
      = gap_period v₀ 12 n (2 ^ 31 - 1) (sequence_exact tested.0 u.s0 r.s0_range m.s0_least).period in
      let p₁ : Period d₁ (2 ^ 29 - 1)
      = gap_period v₁ 4 n (2 ^ 29 - 1) (sequence_exact tested.1 u.s1 r.s1_range m.s1_least).period in
      let p₂ : Period d₂ (2 ^ 28 - 1)
      = gap_period v₂ 17 n (2 ^ 28 - 1) (sequence_exact tested.2 u.s2 r.s2_range m.s2_least).period in
      let sum : (t : ℕ) → d₀ t ≡ (d₁ t + d₂ t) % 2
      = λ t.
      swap_sums (v₀ ((suc t + n) * 12)) (v₁ ((suc t + n) * 4)) (v₂ ((suc t + n) * 17)) (v₀ (suc t * 12)) (v₁ (suc t * 4)) (v₂ (suc t * 17))
      (simp add-zero at (bits_same u r n t (same t))) in
      let others : (t : ℕ) → (d₁ t ≡ (d₀ t + d₂ t) % 2) × (d₂ t ≡ (d₀ t + d₁ t) % 2)
      = λ t. turned (d₀ t) (d₁ t) (d₂ t) (gap_lt v₁ 4 n t) (gap_lt v₂ 17 n t) (sum t) in
      cycle_divides n
      (register_divides tested.0 u.s0 r.s0_range m.s0_least n ((2 ^ 29 - 1) * (2 ^ 28 - 1)) (75488907515645758, 1124872385, refl)
      (of_others d₀ d₁ d₂ (2 ^ 29 - 1) (2 ^ 28 - 1) p₁ p₂ sum))
      (register_divides tested.1 u.s1 r.s1_range m.s1_least n ((2 ^ 31 - 1) * (2 ^ 28 - 1)) (192153584011662676, 178956971, refl)
      (of_others d₁ d₀ d₂ (2 ^ 31 - 1) (2 ^ 28 - 1) p₀ p₂ (λ t. (others t).0)))
      (register_divides tested.2 u.s2 r.s2_range m.s2_least n ((2 ^ 31 - 1) * (2 ^ 29 - 1)) (164703071089646445, 38347922, refl)
      (of_others d₂ d₀ d₁ (2 ^ 31 - 1) (2 ^ 29 - 1) p₀ p₁ (λ t. (others t).1)))

-- n draws on, a stream draws what it would draw n later;
later_draws : (u : Stream) (n i : ℕ) → draw_at (repeat advance n u) i ≡ draw_at u (n + i)
unfolding draw_at
later_draws u n i = ap output (repeat_add advance n i u)

-- so from any draw on, the cycle is the period of what it draws.
pub draws_back : (u : Stream) → InRange u → Minima u → (t n : ℕ)
    → ((i : ℕ) → draw_at u (suc (t + i) + n) ≡ draw_at u (suc (t + i))) ↔ (n % cycle ≡ 0)
unfolding draw_at
draws_back u r m t n = (
  λ same.
      let (range, minima) = fit_after t u r m in
      draws_only (repeat advance t u) range minima n
      (λ i. later_draws u t (suc i + n) ∙ ap (draw_at u) (omega arith) ∙ same i ∙ ap (draw_at u) (omega arith) ∙ sym (later_draws u t (suc i))),
  λ e i. ap output (stream_after_each u r m (t + i) n e),
)

-- ---- Places

-- No two places less than a cycle apart draw the same numbers,
pub places_differ : (u : Stream) → InRange u → Minima u → (m n : ℕ) → m < n → n < m + cycle
    → SameDraws (repeat advance m u) (repeat advance n u) → ⊥
places_differ u r minima m n behind near same =
    let (range, least) = fit_after m u r minima in
    let multiple : (n - m) % cycle ≡ 0
    = draws_only (repeat advance m u) range least (n - m)
    (λ t. later_draws u m (suc t + (n - m)) ∙ ap (draw_at u) (omega arith) ∙ sym (later_draws u n (suc t)) ∙ sym (same t)) in
    let small : n - m < cycle = omega arith in
    omega (arith, rw (mod-eq_of_lt small) at multiple)

-- so of places below 2^64 only one and the same do.
pub same_place : (u : Stream) → InRange u → Minima u → (m n : ℕ) → m < 2 ^ 64 → n < 2 ^ 64
    → SameDraws (repeat advance m u) (repeat advance n u) → m ≡ n
unfolding cycle
same_place u r minima m n hm hn same = by_order (dec_le m n) (dec_le n m)
  where
    by_order : Dec (m ≤ n) → Dec (n ≤ m) → m ≡ n
    by_order (yes l) (yes l') = omega arith
    by_order (yes l) (no n') = absurd (places_differ u r minima m n (omega arith) (omega arith) same)
    by_order (no n') d = absurd (places_differ u r minima n m (omega arith) (omega arith) (λ i. sym (same i)))

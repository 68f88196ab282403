-- Request 2: each register's step is additive, so its matrix gives n steps at once; a stream is its three registers; skips add up.
use mathlib.Core.Path.{◌≡◌, refl, sym, ap, ◌∙◌}
use mathlib.Core.Logic.{◌↔◌}
use Prim.Native.Nat.{ℕ, ◌+◌, ◌-◌, ◌*◌, ◌/◌, ◌%◌, ◌^◌, ◌≤◌, ◌<◌}
use native.Mathlib.Nat.{add_comm}
use native.Mathlib.Omega.{arith}
use lib.Bits.{bit_and, bit_xor}
use Rattle.bit_matrix.specs.Matrices.{repeat, Additive, applied, matrix_of}
use Rattle.bit_matrix.proofs.Additive.{same_additive, word_shl_additive, shr_additive, and_additive, then_additive, xor_additive}
use Rattle.bit_matrix.proofs.Theorems.{matrix_repeat}
use Rattle.streams.specs.declared.Stream.{Stream}
use Rattle.streams.specs.declared.Generator.{Generator}
use Rattle.streams.specs.Streams.{step, advance, record_code, most_count, skip_of}
use Rattle.streams.specs.Recurrence.{moved, InRange}
use Rattle.streams.proofs.Register.{step_lt}
use Rattle.streams.proofs.Theorems.{alone, sound, sound_accepted, pairs_accepted, moved_sound, moved_range, moved_add, after_moved}

-- ---- The register (k, q, s)

-- The step of any register keeps exclusive-or.
pub step_additive : (k q s : ℕ) → Additive (step k q s)
unfolding step
step_additive k q s =
    let clear : ℕ → ℕ = λ x. bit_and x (2 ^ 32 - 2 ^ (32 - k)) in
    let left : ℕ → ℕ → ℕ = λ n x. x * 2 ^ n % 2 ^ 32 in
    let fold : ℕ → ℕ = λ x. bit_xor (left q x) x in
    let right : ℕ → ℕ = λ x. x / 2 ^ (k - s) in
    xor_additive (λ x. left s (clear x)) (λ x. right (fold x))
    (then_additive clear (left s) (and_additive (2 ^ 32 - 2 ^ (32 - k))) (word_shl_additive 32 s))
    (then_additive fold right (xor_additive (left q) (λ x. x) (word_shl_additive 32 q) same_additive) (shr_additive (k - s)))

-- Its matrix, n times, is n steps.
pub register_ahead : (k q s n x : ℕ) → x < 2 ^ 32 → repeat (applied (matrix_of (step k q s))) n x ≡ repeat (step k q s) n x
register_ahead k q s n x h = matrix_repeat (step k q s) (step_additive k q s) (step_lt k q s) n x h

-- ---- A stream

-- Three matrices, each n times, are n draws.
pub stream_ahead : (n : ℕ) (u : Stream) → InRange u
    → record {
      s0 = repeat (applied (matrix_of (step 31 13 12))) n u.s0;
      s1 = repeat (applied (matrix_of (step 29 2 4))) n u.s1;
      s2 = repeat (applied (matrix_of (step 28 3 17))) n u.s2;
    }
    ≡ repeat advance n u
stream_ahead n u h =
    let s0-is = alone advance (step 31 13 12) (λ w. w.s0) (λ w. unfold advance in refl) n u in
    let s1-is = alone advance (step 29 2 4) (λ w. w.s1) (λ w. unfold advance in refl) n u in
    let s2-is = alone advance (step 28 3 17) (λ w. w.s2) (λ w. unfold advance in refl) n u in
    λ i.
    record {
      s0 = (register_ahead 31 13 12 n u.s0 h.s0_range ∙ sym s0-is) i;
      s1 = (register_ahead 29 2 4 n u.s1 h.s1_range ∙ sym s1-is) i;
      s2 = (register_ahead 28 3 17 n u.s2 h.s2_range ∙ sym s2-is) i;
    }

-- ---- Skips of a record

-- A skip is accepted just where the streams are fit, the count has room and no request is open.
pub skip_accepted : (n : ℕ) (g : Generator)
    → ((skip_of g n).code ≡ 0) ↔ ((record_code g ≡ 0) × (g.count + n ≤ most_count) × (g.waiting ≡ 0))
unfolding skip_of
skip_accepted n g = pairs_accepted g n

-- It then leaves both streams and the count n pairs on.
pub skip_moves : (n : ℕ) (g : Generator) → InRange g.a → InRange g.b → (skip_of g n).code ≡ 0
    → skip_of g n ≡ record { code = 0; next = moved n g }
unfolding skip_of
skip_moves n g ra rb e =
    let (fits, room, none) = (pairs_accepted g n).0 e in
    rw (skip_of, e, after_moved n g (sound g ra rb fits) none room)

-- Two skips are accepted, one after the other, just where one of their sum is.
pub skips_accepted : (m n : ℕ) (g : Generator) → InRange g.a → InRange g.b
    → (((skip_of g m).code ≡ 0) × ((skip_of (skip_of g m).next n).code ≡ 0)) ↔ ((skip_of g (m + n)).code ≡ 0)
skips_accepted m n g ra rb = (
  λ h.
      let (fits, room, none) = (skip_accepted m g).0 h.0 in
      let (_, Room-after, _) = (skip_accepted n (moved m g)).0 (rw (skip_moves m g ra rb h.0) at h.1) in
      (skip_accepted (m + n) g).1 (fits, omega arith, none),
  λ h.
      let (fits, room, none) = (skip_accepted (m + n) g).0 h in
      let first : (skip_of g m).code ≡ 0 = (skip_accepted m g).1 (fits, omega arith, none) in
      let fits_after = sound_accepted _ (moved_sound m g (sound g ra rb fits)) in
      (first, rw (skip_moves m g ra rb first) ((skip_accepted n (moved m g)).1 (fits_after, omega arith, none))),
)

-- Skipping m and then n is then skipping m + n,
pub skips_add : (m n : ℕ) (g : Generator) → InRange g.a → InRange g.b → (skip_of g (m + n)).code ≡ 0
    → skip_of (skip_of g m).next n ≡ skip_of g (m + n)
skips_add m n g ra rb h =
    let (first, second) = (skips_accepted m n g ra rb).1 h in
    let (ma, mb) = moved_range m g ra rb in
    rw (skip_moves (m + n) g ra rb h, skip_moves m g ra rb first)
    (skip_moves n (moved m g) ma mb (rw (skip_moves m g ra rb first) at second)
    ∙ ap (λ (next : Generator). record { code = 0; next = next }) (moved_add m n g))

-- so it is skipping n and then m.
pub skips_swap : (m n : ℕ) (g : Generator) → InRange g.a → InRange g.b → (skip_of g (m + n)).code ≡ 0
    → skip_of (skip_of g m).next n ≡ skip_of (skip_of g n).next m
skips_swap m n g ra rb h =
    skips_add m n g ra rb h ∙ rw (add_comm m n) (sym (skips_add n m g ra rb (rw (add_comm n m) h)))

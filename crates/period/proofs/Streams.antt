-- The exact period of a stream.
use mathlib.Core.Path.{◌≡◌, refl, sym, ap, ◌∙◌}
use Prim.Native.Nat.{ℕ, suc, ◌+◌, ◌-◌, ◌*◌, ◌%◌, ◌^◌}
use native.Mathlib.Omega.{arith}
use Rattle.bit_matrix.specs.Matrices.{repeat}
use Rattle.bit_matrix.proofs.Theorems.{repeat_add}
use Rattle.streams.specs.declared.Stream.{Stream}
use Rattle.streams.specs.Streams.{step, advance, fresh}
use Rattle.streams.specs.Recurrence.{moved, InRange, Minima, Sound}
use Rattle.streams.proofs.Theorems.{alone, moved_sound}
use Rattle.period.specs.Cycle.{cycle, Back}
use Rattle.period.proofs.Divisors.{Coprime, both_divide}
use Rattle.period.proofs.Registers.{tested, only_after, after_each}

-- ---- The cycle divides what the three periods divide, and they divide what it divides

pub first_two_coprime : Coprime (2 ^ 31 - 1) (2 ^ 29 - 1)
first_two_coprime = (357913941, 1431655766, refl)

pub third_coprime : Coprime ((2 ^ 31 - 1) * (2 ^ 29 - 1)) (2 ^ 28 - 1)
third_coprime = (230087533, 988218430832845972, refl)

pub cycle_divides : (n : ℕ) → n % (2 ^ 31 - 1) ≡ 0 → n % (2 ^ 29 - 1) ≡ 0 → n % (2 ^ 28 - 1) ≡ 0 → n % cycle ≡ 0
unfolding cycle
cycle_divides n e₀ e₁ e₂ =
    let two : n % ((2 ^ 31 - 1) * (2 ^ 29 - 1)) ≡ 0 = both_divide (2 ^ 31 - 1) (2 ^ 29 - 1) n first_two_coprime e₀ e₁ in
    omega (arith, both_divide ((2 ^ 31 - 1) * (2 ^ 29 - 1)) (2 ^ 28 - 1) n third_coprime two e₂)

each_divides : (n : ℕ) → n % cycle ≡ 0 → (n % (2 ^ 31 - 1) ≡ 0) × (n % (2 ^ 29 - 1) ≡ 0) × (n % (2 ^ 28 - 1) ≡ 0)
unfolding cycle
each_divides n e = (omega arith, omega arith, omega arith)

-- ---- A stream is its three registers

pub alone0 : (n : ℕ) (u : Stream) → (repeat advance n u).s0 ≡ repeat (step 31 13 12) n u.s0
alone0 = alone advance (step 31 13 12) (λ w. w.s0) (λ w. unfold advance in refl)

pub alone1 : (n : ℕ) (u : Stream) → (repeat advance n u).s1 ≡ repeat (step 29 2 4) n u.s1
alone1 = alone advance (step 29 2 4) (λ w. w.s1) (λ w. unfold advance in refl)

pub alone2 : (n : ℕ) (u : Stream) → (repeat advance n u).s2 ≡ repeat (step 28 3 17) n u.s2
alone2 = alone advance (step 28 3 17) (λ w. w.s2) (λ w. unfold advance in refl)

-- However far it is moved, it is fit.
pub fit_after : (t : ℕ) (u : Stream) → InRange u → Minima u → InRange (repeat advance t u) × Minima (repeat advance t u)
fit_after t u r m =
    let h : Sound (moved t (fresh u u))
    = moved_sound t (fresh u u) (record { range_a = r; range_b = r; minima_a = m; minima_b = m }) in
    (h.range_a, h.minima_a)

module _ (u : Stream) (r : InRange u) (m : Minima u) where
  -- It is where it was only after a multiple of the cycle,
  stream_only : (n : ℕ) → repeat advance n u ≡ u → n % cycle ≡ 0
  stream_only n same =
      cycle_divides n
      (only_after tested.0 u.s0 r.s0_range m.s0_least n (sym (alone0 n u) ∙ ap (λ (w : Stream). w.s0) same))
      (only_after tested.1 u.s1 r.s1_range m.s1_least n (sym (alone1 n u) ∙ ap (λ (w : Stream). w.s1) same))
      (only_after tested.2 u.s2 r.s2_range m.s2_least n (sym (alone2 n u) ∙ ap (λ (w : Stream). w.s2) same))

  -- and, once it has drawn, after each of them.
  pub stream_after_each : (t n : ℕ) → n % cycle ≡ 0 → repeat advance (suc t + n) u ≡ repeat advance (suc t) u
  stream_after_each t n e =
      let (e₀, e₁, e₂) = each_divides n e in
      λ i.
      record {
        s0 = (alone0 (suc t + n) u ∙ after_each tested.0 u.s0 r.s0_range m.s0_least t n e₀ ∙ sym (alone0 (suc t) u)) i;
        s1 = (alone1 (suc t + n) u ∙ after_each tested.1 u.s1 r.s1_range m.s1_least t n e₁ ∙ sym (alone1 (suc t) u)) i;
        s2 = (alone2 (suc t + n) u ∙ after_each tested.2 u.s2 r.s2_range m.s2_least t n e₂ ∙ sym (alone2 (suc t) u)) i;
      }

-- So the cycle is its period, from the first draw on.
pub stream_back : (u : Stream) → InRange u → Minima u → Back cycle advance u
stream_back u r m t n = (
  λ same.
      let (range, minima) = fit_after (suc t) u r m in
      stream_only (repeat advance (suc t) u) range minima n (repeat_add advance (suc t) n u ∙ same),
  stream_after_each u r m t n,
)

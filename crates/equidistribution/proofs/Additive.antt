-- Draws are additive over the exclusive-or of contents.
use mathlib.Core.Path.{◌≡◌, refl, sym, ap, ap₂, ◌∙◌}
use Prim.Native.Nat.{ℕ, zero, suc, ◌+◌, ◌-◌, ◌*◌, ◌/◌, ◌%◌, ◌^◌, ◌<◌}
use native.Mathlib.Nat.{mod-lt}
use lib.Bits.{bit_xor, xor_block, xor_lt, xor_self, xor_zero_r}
use lib.Pow.{pow_pos}
use Rattle.bit_matrix.specs.Matrices.{repeat, Additive}
use Rattle.bit_matrix.proofs.Additive.{xor_swap, xor_assoc, shr_additive, mod_additive, then_additive}
use Rattle.streams.specs.declared.Stream.{Stream}
use Rattle.streams.specs.Streams.{advance, output, fresh}
use Rattle.streams.specs.Recurrence.{draw_at, InRange}
use Rattle.streams.proofs.Skip.{step_additive}
use Rattle.streams.proofs.Theorems.{moved_range}

infixl 60 ◌⊕◌
abbrev pub ◌⊕◌ : Stream → Stream → Stream
u ⊕ v = record { s0 = bit_xor u.s0 v.s0; s1 = bit_xor u.s1 v.s1; s2 = bit_xor u.s2 v.s2 }

advance_add : (u v : Stream) → advance (u ⊕ v) ≡ advance u ⊕ advance v
unfolding advance
advance_add u v = λ i. record {
  s0 = step_additive 31 13 12 u.s0 v.s0 i;
  s1 = step_additive 29 2 4 u.s1 v.s1 i;
  s2 = step_additive 28 3 17 u.s2 v.s2 i;
}

output_add : (u v : Stream) → output (u ⊕ v) ≡ bit_xor (output u) (output v)
unfolding output
output_add u v =
    ap (λ (x : ℕ). bit_xor x (bit_xor u.s2 v.s2)) (xor_swap u.s0 v.s0 u.s1 v.s1)
    ∙ xor_swap (bit_xor u.s0 u.s1) (bit_xor v.s0 v.s1) u.s2 v.s2

pub draw_add : (n : ℕ) (u v : Stream) → draw_at (u ⊕ v) n ≡ bit_xor (draw_at u n) (draw_at v n)
unfolding draw_at repeat
draw_add zero u v = output_add u v
draw_add (suc n) u v = ap (λ (w : Stream). draw_at w n) (advance_add u v) ∙ draw_add n (advance u) (advance v)

-- ---- Contents

pub again : (x y : ℕ) → bit_xor (bit_xor x y) y ≡ x
again x y = xor_assoc x y y ∙ ap (bit_xor x) (xor_self y) ∙ xor_zero_r x

pub twice_same : (u d : Stream) → u ⊕ d ⊕ d ≡ u
twice_same u d = λ i. record { s0 = again u.s0 d.s0 i; s1 = again u.s1 d.s1 i; s2 = again u.s2 d.s2 i }

pub range_add : (u v : Stream) → InRange u → InRange v → InRange (u ⊕ v)
range_add u v h k = record {
  s0_range = xor_lt 32 u.s0 v.s0 h.s0_range k.s0_range;
  s1_range = xor_lt 32 u.s1 v.s1 h.s1_range k.s1_range;
  s2_range = xor_lt 32 u.s2 v.s2 h.s2_range k.s2_range;
}

pub range_at : (n : ℕ) (u : Stream) → InRange u → InRange (repeat advance n u)
range_at n u h = (moved_range n (fresh u u) h h).0

pub draw_lt : (n : ℕ) (u : Stream) → InRange u → draw_at u n < 2 ^ 32
unfolding draw_at output
draw_lt n u h =
    let v = repeat advance n u in
    let r = range_at n u h in
    xor_lt 32 (bit_xor v.s0 v.s1) v.s2 (xor_lt 32 v.s0 v.s1 r.s0_range r.s1_range) r.s2_range

-- Three registers as one number of 96 bits, s0 lowest.
abbrev pub contents : ℕ → Stream
contents x = record { s0 = x % 2 ^ 32; s1 = x / 2 ^ 32 % 2 ^ 32; s2 = x / 2 ^ 64 % 2 ^ 32 }

pub contents_range : (x : ℕ) → InRange (contents x)
contents_range x = record { s0_range = mod-lt _ (pow_pos 32); s1_range = mod-lt _ (pow_pos 32); s2_range = mod-lt _ (pow_pos 32) }

contents_add : (x y : ℕ) → contents (bit_xor x y) ≡ contents x ⊕ contents y
contents_add x y =
    let part : (n : ℕ) → Additive (λ z. z / 2 ^ n % 2 ^ 32)
    = λ n. then_additive (λ z. z / 2 ^ n) (λ z. z % 2 ^ 32) (shr_additive n) (mod_additive 32) in
    λ i. record { s0 = mod_additive 32 x y i; s1 = part 32 x y i; s2 = part 64 x y i }

-- ---- The highest l bits of t draws as one number, the first draw lowest

abbrev pub highest : ℕ → ℕ → ℕ
highest l x = x / 2 ^ (32 - l) % 2 ^ l

unfoldable pub pattern : ℕ → ℕ → Stream → ℕ
pattern l zero u = 0
pattern l (suc t) u = pattern l t (advance u) * 2 ^ l + highest l (output (advance u))

highest_add : (l : ℕ) → Additive (highest l)
highest_add l = then_additive (λ x. x / 2 ^ (32 - l)) (λ x. x % 2 ^ l) (shr_additive (32 - l)) (mod_additive l)

pattern_add : (l t : ℕ) (u v : Stream) → pattern l t (u ⊕ v) ≡ bit_xor (pattern l t u) (pattern l t v)
unfolding pattern
pattern_add l zero u v = refl
pattern_add l (suc t) u v =
    let a = output (advance u) in
    let b = output (advance v) in
    ap₂ (λ (x y : ℕ). x * 2 ^ l + y)
    (ap (pattern l t) (advance_add u v) ∙ pattern_add l t (advance u) (advance v))
    (ap (λ (w : Stream). highest l (output w)) (advance_add u v) ∙ ap (highest l) (output_add (advance u) (advance v)) ∙ highest_add l a b)
    ∙ sym (xor_block l (pattern l t (advance u)) (pattern l t (advance v)) (highest l a) (highest l b) (mod-lt _ (pow_pos l)) (mod-lt _ (pow_pos l)))

pub contents_pattern : (l t : ℕ) → Additive (λ x. pattern l t (contents x))
contents_pattern l t x y = ap (pattern l t) (contents_add x y) ∙ pattern_add l t (contents x) (contents y)

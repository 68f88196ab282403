-- Equally many contents: of one stream, and of two for the numbers k and v.
use mathlib.Core.Path.{◌≡◌, sym, ap, ◌∙◌}
use Prim.Native.Nat.{ℕ, suc, ◌+◌, ◌-◌, ◌*◌, ◌/◌, ◌%◌, ◌^◌, ◌<◌}
use native.Mathlib.Nat.{div-one}
use native.Mathlib.Omega.{arith}
use lib.Bits.{bit_xor, xor_lt, xor_self, xor_shr, xor_comm}
use Rattle.bit_matrix.proofs.Additive.{xor_assoc}
use Rattle.streams.specs.declared.Stream.{Stream}
use Rattle.streams.specs.declared.Generator.{Generator}
use Rattle.streams.specs.Streams.{uniforms_of, after, skip_of}
use Rattle.streams.specs.Recurrence.{draw_at, InRange, Sound}
use Rattle.streams.proofs.Theorems.{sound, pairs_accepted, after_moved, numbers_are}
use Rattle.equidistribution.specs.Equidistribution.{EquallyMany, Words, Shows, Equidistributed, Contents, BothInRange, Gives}
use Rattle.equidistribution.proofs.Additive.{◌⊕◌, draw_add, draw_lt, twice_same, range_add}
use Rattle.equidistribution.proofs.Reach.{Reach}

cancel : (x y : ℕ) → bit_xor x (bit_xor x y) ≡ y
cancel x y = sym (xor_assoc x x y) ∙ ap (λ (z : ℕ). bit_xor z y) (xor_self x)

-- Contents that show the exclusive-or of two values take those of the one to those of the other.
pub equidistributed : (l t : ℕ) → Reach l t → Equidistributed l t
equidistributed l t full = record {
  equally_many = λ w w' h h'. between w w' (full (λ j. bit_xor (w j) (w' j)) (λ j k. xor_lt l (w j) (w' j) (h j k) (h' j k)));
  shown = full;
}
  where
    moved : (w d : ℕ → ℕ) (e : Stream) → Shows l t d e → (u : Stream) → Shows l t w u → Shows l t (λ j. bit_xor (w j) (d j)) (u ⊕ e)
    moved w d e de u wu j k =
        ap (λ (x : ℕ). x / 2 ^ (32 - l)) (draw_add (suc j) u e) ∙ xor_shr (draw_at u (suc j)) (draw_at e (suc j)) (32 - l)
        ∙ rw (wu j k, de j k)

    between : (w w' : ℕ → ℕ) → (e : Stream) × InRange e × Shows l t (λ j. bit_xor (w j) (w' j)) e → EquallyMany InRange (Shows l t w) (Shows l t w')
    between w w' (e, range, shows) = record {
      swap = λ u. u ⊕ e;
      range = λ u h. range_add u e h range;
      twice = λ u. twice_same u e;
      there = λ u r h j k. moved w (λ i. bit_xor (w i) (w' i)) e shows u h j k ∙ cancel (w j) (w' j);
      back = λ u r h j k. moved w' (λ i. bit_xor (w i) (w' i)) e shows u h j k ∙ ap (bit_xor (w' j)) (xor_comm (w j) (w' j)) ∙ cancel (w' j) (w j);
    }

-- ---- Pairs: k and v are the draw of a and the draw of b, and these are k and v

abbrev draw_a : (ℕ → ℕ) → ℕ → ℕ
draw_a k j = k j / 65536

abbrev draw_b : (ℕ → ℕ) → (ℕ → ℕ) → ℕ → ℕ
draw_b k v j = k j % 65536 * 65536 + v j

numbers : (a b k v : ℕ) → v < 2 ^ 16 → a ≡ k / 65536 → b ≡ k % 65536 * 65536 + v → (a * 65536 + b / 65536 ≡ k) × (b % 65536 ≡ v)
numbers a b k v small e f = (omega arith, omega arith)

draws : (a b k v : ℕ) → b < 2 ^ 32 → a * 65536 + b / 65536 ≡ k → b % 65536 ≡ v → (a ≡ k / 65536) × (b ≡ k % 65536 * 65536 + v)
draws a b k v small e f = (omega arith, omega arith)

module _ (t : ℕ) (k v : ℕ → ℕ) (hk : Words 48 t k) (hv : Words 16 t v) where
  gives : (c : Contents) → Shows 32 t (draw_a k) c.0 → Shows 32 t (draw_b k v) c.1 → Gives t k v c
  gives c a b j h =
      numbers (draw_at c.0 (suc j)) (draw_at c.1 (suc j)) (k j) (v j) (hv j h) (sym (div-one _) ∙ a j h) (sym (div-one _) ∙ b j h)

  shows : (c : Contents) → BothInRange c → Gives t k v c → Shows 32 t (draw_a k) c.0 × Shows 32 t (draw_b k v) c.1
  shows c r g =
      let both : (j : ℕ) → j < t → (draw_at c.0 (suc j) ≡ draw_a k j) × (draw_at c.1 (suc j) ≡ draw_b k v j)
      = λ j h. draws (draw_at c.0 (suc j)) (draw_at c.1 (suc j)) (k j) (v j) (draw_lt (suc j) c.1 r.1) (g j h).0 (g j h).1 in
      (λ j h. div-one _ ∙ (both j h).0, λ j h. div-one _ ∙ (both j h).1)

  words_a : Words 32 t (draw_a k)
  words_a j h = omega (arith, hk j h)

  words_b : Words 32 t (draw_b k v)
  words_b j h = omega (arith, hv j h)

pub pairs : (t : ℕ) → Equidistributed 32 t → (k v k' v' : ℕ → ℕ) → Words 48 t k → Words 16 t v → Words 48 t k' → Words 16 t v'
    → EquallyMany BothInRange (Gives t k v) (Gives t k' v')
pairs t E k v k' v' hk hv hk' hv' =
    let A : EquallyMany InRange (Shows 32 t (draw_a k)) (Shows 32 t (draw_a k'))
    = E.equally_many (draw_a k) (draw_a k') (words_a t k v hk hv) (words_a t k' v' hk' hv') in
    let B : EquallyMany InRange (Shows 32 t (draw_b k v)) (Shows 32 t (draw_b k' v'))
    = E.equally_many (draw_b k v) (draw_b k' v') (words_b t k v hk hv) (words_b t k' v' hk' hv') in
    record {
      swap = λ c. (A.swap c.0, B.swap c.1);
      range = λ c r. (A.range c.0 r.0, B.range c.1 r.1);
      twice = λ c i. (A.twice c.0 i, B.twice c.1 i);
      there = λ c r g.
          let (a, b) = shows t k v hk hv c r g in
          gives t k' v' hk' hv' (A.swap c.0, B.swap c.1) (A.there c.0 r.0 a) (B.there c.1 r.1 b);
      back = λ c r g.
          let (a, b) = shows t k' v' hk' hv' c r g in
          gives t k v hk hv (A.swap c.0, B.swap c.1) (A.back c.0 r.0 a) (B.back c.1 r.1 b);
    }

-- Of a record: by the history of its draws.
pub record_pairs : (t : ℕ) (g : Generator) → InRange g.a → InRange g.b → (skip_of g t).code ≡ 0
    → Gives t (λ j. (uniforms_of (after j g)).k) (λ j. (uniforms_of (after j g)).v) (g.a, g.b)
unfolding skip_of
record_pairs t g ra rb e j h =
    let (fits, room, none) = (pairs_accepted g t).0 e in
    let S : Sound g = sound g ra rb fits in
    let (k-is, v-is) = numbers_are j g S none (omega arith) in
    rw (after_moved j g S none (omega arith)) (sym k-is, sym v-is)

-- A step of the family (k, q, s) on both halves of a number of 64 bits at once.
use mathlib.Core.Path.{◌≡◌, sym, ap, ap₂, ◌∙◌}
use Prim.Native.Nat.{ℕ, ◌+◌, ◌-◌, ◌*◌, ◌/◌, ◌%◌, ◌^◌, ◌≤◌, ◌<◌}
use native.Mathlib.Nat.{mod-lt, mul-mod_left, mod-mod, mod-eq_of_lt, add_comm, mul-le-mul_right, lt_of_lt_of_le, lt_of_le_of_lt}
use native.Mathlib.Omega.{arith}
use lib.Pow.{pow_pos, pow-add, pow_mono, split, field, mod-mod-pow, mod-pow-add, shl-shr, shr-shr, shr_lt, shl_lt, ones_lt}
use lib.Bits.{bit_and, bit_xor, and_block, xor_block, xor_shr, xor_mod, and_high, and_mask, and_le_r}
use Rattle.streams.specs.Streams.{step}

-- ---- One operation on both halves is one on each

and_halves : (w z m : ℕ) → m < 2 ^ w → bit_and z (m * 2 ^ w + m) ≡ bit_and (z / 2 ^ w) m * 2 ^ w + bit_and (z % 2 ^ w) m
and_halves w z m h =
    ap (λ (y : ℕ). bit_and y (m * 2 ^ w + m)) (sym (split z w)) ∙ and_block w (z / 2 ^ w) m (z % 2 ^ w) m (mod-lt z (pow_pos w)) h

xor_halves : (w x y : ℕ) → bit_xor x y ≡ bit_xor (x / 2 ^ w) (y / 2 ^ w) * 2 ^ w + bit_xor (x % 2 ^ w) (y % 2 ^ w)
xor_halves w x y = sym (split (bit_xor x y) w) ∙ rw (xor_shr x y w, xor_mod x y w)

pub xor_three : (w x y z : ℕ) → bit_xor (bit_xor x y) z
    ≡ bit_xor (bit_xor (x / 2 ^ w) (y / 2 ^ w)) (z / 2 ^ w) * 2 ^ w + bit_xor (bit_xor (x % 2 ^ w) (y % 2 ^ w)) (z % 2 ^ w)
xor_three w x y z = xor_halves w (bit_xor x y) z ∙ rw (xor_shr x y w, xor_mod x y w)

-- ---- The two parts of a step on w = c + s + (q + a) bits: c bits cleared, s to the left, q and a to the right

left : (c s n x : ℕ) → ℕ
left c s n x = bit_and x (2 ^ (n + c) - 2 ^ c) * 2 ^ s

right : (h q a x : ℕ) → ℕ
right h q a x = bit_xor (x / 2 ^ a) (x / 2 ^ (q + a)) % 2 ^ h

step_at : (c s q a x : ℕ) → ℕ
step_at c s q a x =
    let w : ℕ = c + s + (q + a) in
    bit_xor (bit_and x (2 ^ w - 2 ^ c) * 2 ^ s % 2 ^ w) (bit_xor (x * 2 ^ q % 2 ^ w) x / 2 ^ (q + a))

-- clearing the highest s bits too loses nothing: they are shifted out
left_is : (c s n x : ℕ) → bit_and x (2 ^ (c + s + n) - 2 ^ c) * 2 ^ s % 2 ^ (c + s + n) ≡ left c s n x
unfolding left
left_is c s n x =
    let z : ℕ = x / 2 ^ c % 2 ^ (s + n) in
    let shifted : z * 2 ^ c * 2 ^ s ≡ z * 2 ^ (c + s) = rw (pow-add 2 c s) (omega arith) in
    let first : c + s + n ≡ s + n + c = omega arith in
    let second : s + n + c ≡ n + (c + s) = omega arith in
    rw (
      first,
      and_high x (s + n) c,
      and_high x n c,
      shifted,
      second,
      mod-pow-add (z * 2 ^ (c + s)) n (c + s),
      shl-shr z (c + s),
      mul-mod_left z (2 ^ (c + s)),
      mod-mod-pow (x / 2 ^ c) s n,
      pow-add 2 c s,
    ) (omega arith)

-- a shift left and one right are one shift right, with the bits that were shifted out masked
right_is : (h q a x : ℕ) → x < 2 ^ (h + (q + a)) → bit_xor (x * 2 ^ q % 2 ^ (h + (q + a))) x / 2 ^ (q + a) ≡ right h q a x
unfolding right
right_is h q a x hx =
    rw (
      xor_shr (x * 2 ^ q % 2 ^ (h + (q + a))) x (q + a),
      field (x * 2 ^ q) h (q + a),
      ← shr-shr (x * 2 ^ q) q a,
      shl-shr x q,
      xor_mod (x / 2 ^ a) (x / 2 ^ (q + a)) h,
      mod-eq_of_lt (shr_lt h (q + a) hx),
    )

step_at_is : (c s q a x : ℕ) → x < 2 ^ (c + s + (q + a)) → step_at c s q a x ≡ bit_xor (left c s (q + a) x) (right (c + s) q a x)
unfolding step_at
step_at_is c s q a x h = ap₂ bit_xor (left_is c s (q + a) x) (right_is (c + s) q a x h)

left_lt : (c s n x : ℕ) → left c s n x < 2 ^ (c + s + n)
unfolding left
left_lt c s n x =
    let e : n + c + s ≡ c + s + n = omega arith in
    let small : 2 ^ (n + c) - 2 ^ c < 2 ^ (n + c) = omega (arith, pow_pos c, pow_pos (n + c)) in
    rw e at (shl_lt (n + c) s (lt_of_le_of_lt (and_le_r x (2 ^ (n + c) - 2 ^ c)) small))

module _ (c s q a z : ℕ) where
  abbrev w : ℕ
  w = c + s + (q + a)

  abbrev mask : ℕ
  mask = 2 ^ (q + a + c) - 2 ^ c

  -- nothing is shifted to the left from one half into the other, or out
  left_halves : bit_and z (mask * 2 ^ w + mask) * 2 ^ s % 2 ^ (w + w)
      ≡ left c s (q + a) (z / 2 ^ w) * 2 ^ w + left c s (q + a) (z % 2 ^ w)
  unfolding left
  left_halves =
      let small : mask < 2 ^ w
      = omega (arith, pow_pos c, pow_pos (q + a + c), pow_mono {i = q + a + c} {j = w} (omega arith)) in
      let A : ℕ = bit_and (z / 2 ^ w) mask in
      let B : ℕ = bit_and (z % 2 ^ w) mask in
      let e : (A * 2 ^ w + B) * 2 ^ s ≡ A * 2 ^ s * 2 ^ w + B * 2 ^ s = omega arith in
      let top : A * 2 ^ s < 2 ^ w = left_lt c s (q + a) (z / 2 ^ w) in
      let low : B * 2 ^ s < 2 ^ w = left_lt c s (q + a) (z % 2 ^ w) in
      rw (and_halves w z mask small, e)
      (mod-eq_of_lt (omega (arith, pow-add 2 w w, mul-le-mul_right (2 ^ w) top)))

  -- what the upper half shifts to the right into the lower is masked
  right_halves : bit_and (bit_xor (z / 2 ^ a) (z / 2 ^ (q + a))) ((2 ^ (c + s) - 1) * 2 ^ w + (2 ^ (c + s) - 1))
      ≡ right (c + s) q a (z / 2 ^ w) * 2 ^ w + right (c + s) q a (z % 2 ^ w)
  unfolding right
  right_halves =
      let h : ℕ = c + s in
      let x : ℕ = bit_xor (z / 2 ^ a) (z / 2 ^ (q + a)) in
      let small : 2 ^ h - 1 < 2 ^ w = lt_of_lt_of_le (ones_lt h) (pow_mono {i = h} {j = w} (omega arith)) in
      let shr : (p : ℕ) → z / 2 ^ p / 2 ^ w ≡ z / 2 ^ w / 2 ^ p = λ p. rw (shr-shr z p w, shr-shr z w p, add_comm p w) in
      let up : x / 2 ^ w ≡ bit_xor (z / 2 ^ w / 2 ^ a) (z / 2 ^ w / 2 ^ (q + a)) =
      rw (xor_shr (z / 2 ^ a) (z / 2 ^ (q + a)) w, shr a, shr (q + a)) in
      let first : w ≡ q + a + h = omega arith in
      let second : w ≡ q + h + a = omega arith in
      let near : z % 2 ^ w / 2 ^ a % 2 ^ h ≡ z / 2 ^ a % 2 ^ h = rw (second, field z (q + h) a) (mod-mod-pow (z / 2 ^ a) q h) in
      let far : z % 2 ^ w / 2 ^ (q + a) % 2 ^ h ≡ z / 2 ^ (q + a) % 2 ^ h = rw (field z h (q + a)) (mod-mod (z / 2 ^ (q + a)) (2 ^ h)) in
      let down : x % 2 ^ w % 2 ^ h ≡ bit_xor (z % 2 ^ w / 2 ^ a) (z % 2 ^ w / 2 ^ (q + a)) % 2 ^ h =
      rw (
        first,
        mod-mod-pow x (q + a) h,
        xor_mod (z / 2 ^ a) (z / 2 ^ (q + a)) h,
        ← first,
        xor_mod (z % 2 ^ w / 2 ^ a) (z % 2 ^ w / 2 ^ (q + a)) h,
        near,
        far,
      ) in
      rw (and_halves w x (2 ^ h - 1) small, and_mask (x / 2 ^ w) h, and_mask (x % 2 ^ w) h, up, down)

  double_at : ℕ
  double_at =
      bit_xor (bit_and z (mask * 2 ^ w + mask) * 2 ^ s % 2 ^ (w + w))
      (bit_and (bit_xor (z / 2 ^ a) (z / 2 ^ (q + a))) ((2 ^ (c + s) - 1) * 2 ^ w + (2 ^ (c + s) - 1)))

  double_is : z < 2 ^ (w + w) → double_at ≡ step_at c s q a (z / 2 ^ w) * 2 ^ w + step_at c s q a (z % 2 ^ w)
  unfolding right double_at
  double_is fits =
      let low : right (c + s) q a (z % 2 ^ w) < 2 ^ w = lt_of_lt_of_le (mod-lt _ (pow_pos (c + s))) (pow_mono {i = c + s} {j = w} (omega arith)) in
      rw (
        left_halves,
        right_halves,
        xor_block w _ _ _ _ (left_lt c s (q + a) (z % 2 ^ w)) low,
        step_at_is c s q a (z / 2 ^ w) (shr_lt w w fits),
        step_at_is c s q a (z % 2 ^ w) (mod-lt z (pow_pos w)),
      )

-- ---- The family (k, q, s)

-- The step of both halves, with masks that serve both.
unfoldable pub double_step : ℕ → ℕ → ℕ → ℕ → ℕ
double_step k q s z =
    let kept : ℕ = 2 ^ (32 - s) - 2 ^ (32 - k) in
    let low : ℕ = 2 ^ (32 - k + s) - 1 in
    bit_xor (bit_and z (kept * 2 ^ 32 + kept) * 2 ^ s % 2 ^ 64)
    (bit_and (bit_xor (z / 2 ^ (k - s - q)) (z / 2 ^ (k - s))) (low * 2 ^ 32 + low))

-- It is the step of each half.
pub halves_step : (k q s : ℕ) → k ≤ 32 → s + q ≤ k → (z : ℕ) → z < 2 ^ 64
    → double_step k q s z ≡ step k q s (z / 2 ^ 32) * 2 ^ 32 + step k q s (z % 2 ^ 32)
unfolding double_step step step_at double_at
halves_step k q s width room z h =
    let c : ℕ = 32 - k in
    let a : ℕ = k - s - q in
    let whole : c + s + (q + a) ≡ 32 = omega arith in
    let twice : c + s + (q + a) + (c + s + (q + a)) ≡ 64 = omega arith in
    let shift : q + a ≡ k - s = omega arith in
    let most : q + a + c ≡ 32 - s = omega arith in
    rw (twice, most, whole, shift) at (double_is c s q a z (rw twice h))

-- Laws of the rotations of Rotation.antt: every enclosure is non-empty, with low ends of a length at most 1; those at more bits
-- lie inside those at fewer, and so any two overlap.
use mathlib.Core.Path.{◌≡◌}
use Prim.Native.Nat.{ℕ, zero, suc, ◌+◌, ◌-◌, ◌*◌, ◌/◌, ◌%◌, ◌^◌, ◌≤◌, ◌<◌, min}
use native.Mathlib.Nat.{add_comm, le_dest, min-eq_left, min-eq_right, mul-sub, mul-pos, mul-le-mul, mul-le-mul_left}
use native.Mathlib.Nat.{mul-le-mul_right, le_of_mul-le-mul_left, mul-div-le, lt-div-mul-add, div-lt_iff_lt-mul, le-div_iff_mul-le}
use native.Mathlib.Decide.{dec_le}
use native.Mathlib.Omega.{arith}
use lib.Pow.{pow_pos, pow-add}
use Rattle.exact.specs.Fraction.{whole, dyadic, square, ◌≤ᶠ◌, ◌+ᶠ◌}
use Rattle.exact.specs.Root.{root_down, root_up}
use Rattle.exact.specs.Rotation.{Rotation, quotient_up, none, quarter_turn, half, compose}
use Rattle.exact.specs.Rotation.{halving, bit_rotation, bits_rotation, rotation}
use Rattle.exact.proofs.RootLaws.{lt_of_square_lt, root_down_at_most, root_up_least, root_down_le_root_up}
use Rattle.exact.proofs.RootLaws.{root_down_scaled, root_up_scaled}

-- a quotient rounded up is the least k with x ≤ k y
pub quotient_up_at_least : (x y : ℕ) → zero < y → x ≤ quotient_up x y * y
quotient_up_at_least x y p = omega (arith, lt-div-mul-add {a = x + (y - 1)} p)

pub quotient_up_least : (x y k : ℕ) → zero < y → x ≤ k * y → quotient_up x y ≤ k
quotient_up_least x y k p h =
    let l : (x + (y - 1)) / y < k + 1 = (div-lt_iff_lt-mul p).1 (omega arith) in
    omega arith

-- low ends are at most high ends, all ends at most 1, and the low ends' squares sum to at most 1
pub record Good (n : ℕ) (r : Rotation) : Type 0 where
  pub cosine : r.cos_low ≤ r.cos_high
  pub sine : r.sin_low ≤ r.sin_high
  pub cosine_most : r.cos_high ≤ 2 ^ n
  pub sine_most : r.sin_high ≤ 2 ^ n
  pub unit : r.cos_low * r.cos_low + r.sin_low * r.sin_low ≤ 2 ^ n * 2 ^ n

pub good_none : (n : ℕ) → Good n (none n)
good_none n = omega arith

good_quarter : (n : ℕ) → Good n (quarter_turn n)
good_quarter n = omega arith

pub good_half : (n : ℕ) {r : Rotation} → Good n r → Good n (half n r)
unfolding half
good_half n {r} g = record {
  cosine = root_down_le_root_up (omega (arith, mul-le-mul_right (2 ^ n) g.cosine));
  sine = root_down_le_root_up (mul-le-mul_right (2 ^ n) (omega arith));
  cosine_most = root_up_least ((2 ^ n + r.cos_high) * 2 ^ n) (2 ^ n) (omega (arith, mul-le-mul_right (2 ^ n) g.cosine_most));
  sine_most =
      let l : 2 ^ n - r.cos_low ≤ 2 ^ n = omega arith in
      root_up_least ((2 ^ n - r.cos_low) * 2 ^ n) (2 ^ n) (omega (arith, mul-le-mul_right (2 ^ n) l));
  unit =
      let a = root_down_at_most ((2 ^ n + r.cos_low) * 2 ^ n) in
      let b = root_down_at_most ((2 ^ n - r.cos_high) * 2 ^ n) in
      let l : 2 ^ n - r.cos_high + r.cos_low ≤ 2 ^ n = omega arith in
      omega (arith, mul-le-mul_right (2 ^ n) l);
}

-- (p - q)² = p² + q² - 2 p q
pub square_of_difference : (p q k : ℕ) → q + k ≡ p → k * k + 2 * (p * q) ≡ p * p + q * q
square_of_difference p q k e = rw (← e) (omega arith)

-- (c c' - s s')² + (s c' + c s')² = (c² + s²) (c'² + s'²), at low ends and with the first difference made smaller
unit_product : (N c s c' s' u : ℕ) → c * c + s * s ≤ N * N → c' * c' + s' * s' ≤ N * N → u ≤ c * c' - s * s' →
    u * u + (s * c' + c * s') * (s * c' + c * s') ≤ N * N * (N * N)
unit_product N c s c' s' u g h l = go (dec_le (s * s') (c * c'))
  where
    go : Dec (s * s' ≤ c * c') → u * u + (s * c' + c * s') * (s * c' + c * s') ≤ N * N * (N * N)
    go (yes b) =
        let (k, e) = le_dest b in
        let m : u ≤ k = omega arith in
        omega (arith, square_of_difference (c * c') (s * s') k e, mul-le-mul m m, mul-le-mul g h)
    go (no b) =
        let (k, e) = le_dest (let b' : c * c' ≤ s * s' = omega arith in b') in
        let m : u ≤ 0 = omega arith in
        omega (arith, square_of_difference (s * s') (c * c') k e, mul-le-mul m m, mul-le-mul g h)

-- a quotient rounded down against one rounded up and cut at 1
floor_le_ceiling : (N a b : ℕ) → zero < N → a ≤ b → a ≤ N * N → a / N ≤ min N (quotient_up b N)
floor_le_ceiling N a b p h l = omega (arith, x, y)
  where
    x : a / N ≤ N
    x = le_of_mul-le-mul_left (omega (arith, mul-div-le a N)) p

    y : a / N ≤ quotient_up b N
    y = le_of_mul-le-mul_left (omega (arith, mul-div-le a N, quotient_up_at_least b N p)) p

pub good_compose : (n : ℕ) {r t : Rotation} → Good n r → Good n t → Good n (compose n r t)
unfolding compose
good_compose n {r} {t} g h =
    let N : ℕ = 2 ^ n in
    let a : ℕ = r.cos_low * t.cos_low - r.sin_high * t.sin_high in
    let v : ℕ = r.sin_low * t.cos_low + r.cos_low * t.sin_low in
    let cc = mul-le-mul g.cosine h.cosine in
    let ss = mul-le-mul g.sine h.sine in
    let sc = mul-le-mul g.sine h.cosine in
    let cs = mul-le-mul g.cosine h.sine in
    let u = unit_product N r.cos_low r.sin_low t.cos_low t.sin_low a g.unit h.unit (omega (arith, ss)) in
    let a≤1 = mul-le-mul g.cosine_most h.cosine_most in
    let v≤1 = lt_of_square_lt v (N * N + 1) (omega (arith, u)) in
    let x = mul-div-le a N in
    let y = mul-div-le v N in
    record {
      cosine = floor_le_ceiling N _ _ (pow_pos n) (omega (arith, cc, ss)) (omega (arith, cc, a≤1));
      sine = floor_le_ceiling N v _ (pow_pos n) (omega (arith, sc, cs)) (omega (arith, v≤1));
      cosine_most = omega arith;
      sine_most = omega arith;
      unit =
          le_of_mul-le-mul_left {k = N * N} (omega (arith, u, mul-le-mul x x, mul-le-mul y y)) (mul-pos (pow_pos n) (pow_pos n));
    }

pub good_halving : (n j : ℕ) → Good n (halving n j)
unfolding halving
good_halving n zero = good_quarter n
good_halving n (suc j) = good_half n (good_halving n j)

pub good_bit : (n j b : ℕ) → Good n (bit_rotation n j b)
unfolding bit_rotation
good_bit n j zero = good_none n
good_bit n j (suc b) = good_halving n j

pub good_bits : (n j count x : ℕ) → Good n (bits_rotation n j count x)
unfolding bits_rotation
good_bits n j zero x = good_none n
good_bits n j (suc count) x = good_compose n (good_bits n j count (x / 2)) (good_bit n _ (x % 2))

-- every enclosure of every rotation is good
pub rotation_good : (n w : ℕ) → Good n (rotation n w)
unfolding rotation
rotation_good n w = good_compose n (good_bits n 0 7 (w / 128)) (good_bits n 7 7 (w % 128))

-- a rotation: the squares of the low ends sum to at most 1
pub rotation_length_low : (n w : ℕ) →
    square (dyadic n (rotation n w).cos_low) +ᶠ square (dyadic n (rotation n w).sin_low) ≤ᶠ whole 1
rotation_length_low n w = omega (arith, mul-le-mul_right (2 ^ n * 2 ^ n) (rotation_good n w).unit)

-- the ends of `inner` at n + d bits lie within those of `outer` at n bits
pub record Inside (d : ℕ) (outer inner : Rotation) : Type 0 where
  pub cos_low : 2 ^ d * outer.cos_low ≤ inner.cos_low
  pub cos_high : inner.cos_high ≤ 2 ^ d * outer.cos_high
  pub sin_low : 2 ^ d * outer.sin_low ≤ inner.sin_low
  pub sin_high : inner.sin_high ≤ 2 ^ d * outer.sin_high

inside_none : (n d : ℕ) → Inside d (none n) (none (n + d))
inside_none n d = rw (pow-add 2 n d) (omega arith)

inside_quarter : (n d : ℕ) → Inside d (quarter_turn n) (quarter_turn (n + d))
inside_quarter n d = rw (pow-add 2 n d) (omega arith)

-- a root at N D of D times as much is at least, or at most, D times the root at N
root_down_inside : (N D x y : ℕ) → D * x ≤ y → D * root_down (x * N) ≤ root_down (y * (N * D))
root_down_inside N D x y h = root_down_scaled D (x * N) (omega (arith, mul-le-mul_right (N * D) h))

root_up_inside : (N D x y : ℕ) → y ≤ D * x → root_up (y * (N * D)) ≤ D * root_up (x * N)
root_up_inside N D x y h = root_up_scaled D (x * N) (omega (arith, mul-le-mul_right (N * D) h))

pub inside_half : (n d : ℕ) {r t : Rotation} → Inside d r t → Inside d (half n r) (half (n + d) t)
unfolding half
inside_half n d {r} {t} i = rw (pow-add 2 n d) record {
  cos_low = root_down_inside (2 ^ n) (2 ^ d) (2 ^ n + r.cos_low) (2 ^ n * 2 ^ d + t.cos_low) (omega arith);
  cos_high = root_up_inside (2 ^ n) (2 ^ d) (2 ^ n + r.cos_high) (2 ^ n * 2 ^ d + t.cos_high) (omega arith);
  sin_low = root_down_inside (2 ^ n) (2 ^ d) (2 ^ n - r.cos_high) (2 ^ n * 2 ^ d - t.cos_high) (rw mul-sub (omega arith));
  sin_high = root_up_inside (2 ^ n) (2 ^ d) (2 ^ n - r.cos_low) (2 ^ n * 2 ^ d - t.cos_low) (rw mul-sub (omega arith));
}

-- the same for a quotient by N D, and for one cut at 1
floor_inside : (N D a b : ℕ) → zero < N → zero < D → D * D * a ≤ b → D * (a / N) ≤ b / (N * D)
floor_inside N D a b p q h = (le-div_iff_mul-le (mul-pos p q)).1 (omega (arith, mul-le-mul_left (D * D) (mul-div-le a N)))

pub scaled_min : (D x y z : ℕ) → z ≤ D * x → z ≤ D * y → z ≤ D * min x y
scaled_min D x y z h k = go (dec_le x y)
  where
    go : Dec (x ≤ y) → z ≤ D * min x y
    go (yes l) = rw (min-eq_left l) h
    go (no l) = rw (min-eq_right (let m : y ≤ x = omega arith in m)) k

ceiling_inside : (N D a b : ℕ) → zero < N → zero < D → b ≤ D * D * a →
    min (N * D) (quotient_up b (N * D)) ≤ D * min N (quotient_up a N)
ceiling_inside N D a b p q h =
    let scaled = mul-le-mul_left (D * D) (quotient_up_at_least a N p) in
    let least = quotient_up_least b (N * D) (D * quotient_up a N) (mul-pos p q) (omega (arith, scaled)) in
    scaled_min D N (quotient_up a N) _ (omega arith) (omega (arith, least))

pub inside_compose : (n d : ℕ) {r t r' t' : Rotation} → Inside d r r' → Inside d t t' →
    Inside d (compose n r t) (compose (n + d) r' t')
unfolding compose
inside_compose n d {r} {t} {r'} {t'} i j =
    let N : ℕ = 2 ^ n in
    let D : ℕ = 2 ^ d in
    rw (pow-add 2 n d) record {
      cos_low =
          let cc = mul-le-mul i.cos_low j.cos_low in
          let ss = mul-le-mul i.sin_high j.sin_high in
          floor_inside N D _ _ (pow_pos n) (pow_pos d) (rw mul-sub (omega (arith, cc, ss)));
      cos_high =
          let cc = mul-le-mul i.cos_high j.cos_high in
          let ss = mul-le-mul i.sin_low j.sin_low in
          ceiling_inside N D _ _ (pow_pos n) (pow_pos d) (rw mul-sub (omega (arith, cc, ss)));
      sin_low =
          let sc = mul-le-mul i.sin_low j.cos_low in
          let cs = mul-le-mul i.cos_low j.sin_low in
          floor_inside N D _ _ (pow_pos n) (pow_pos d) (omega (arith, sc, cs));
      sin_high =
          let sc = mul-le-mul i.sin_high j.cos_high in
          let cs = mul-le-mul i.cos_high j.sin_high in
          ceiling_inside N D _ _ (pow_pos n) (pow_pos d) (omega (arith, sc, cs));
    }

pub inside_halving : (n d j : ℕ) → Inside d (halving n j) (halving (n + d) j)
unfolding halving
inside_halving n d zero = inside_quarter n d
inside_halving n d (suc j) = inside_half n d (inside_halving n d j)

pub inside_bit : (n d j b : ℕ) → Inside d (bit_rotation n j b) (bit_rotation (n + d) j b)
unfolding bit_rotation
inside_bit n d j zero = inside_none n d
inside_bit n d j (suc b) = inside_halving n d j

pub inside_bits : (n d j count x : ℕ) → Inside d (bits_rotation n j count x) (bits_rotation (n + d) j count x)
unfolding bits_rotation
inside_bits n d j zero x = inside_none n d
inside_bits n d j (suc count) x = inside_compose n d (inside_bits n d j count (x / 2)) (inside_bit n d _ (x % 2))

-- enclosures at m ≥ n bits lie inside those at n bits
pub rotation_nested : (n d w : ℕ) → Inside d (rotation n w) (rotation (n + d) w)
unfolding rotation
rotation_nested n d w = inside_compose n d (inside_bits n d 0 7 (w / 128)) (inside_bits n d 7 7 (w % 128))

-- any two enclosures of one rotation overlap: each low end is at most each high end, as fractions
pub record Overlap (n m : ℕ) (r t : Rotation) : Type 0 where
  pub cosine : dyadic n r.cos_low ≤ᶠ dyadic m t.cos_high
  pub sine : dyadic n r.sin_low ≤ᶠ dyadic m t.sin_high

-- both enclosures hold the one at n + m bits
pub rotations_overlap : (n m w : ℕ) → Overlap n m (rotation n w) (rotation m w)
rotations_overlap n m w =
    let a : Inside m (rotation n w) (rotation (n + m) w) = rotation_nested n m w in
    let b : Inside n (rotation m w) (rotation (n + m) w) = rw (add_comm n m) (rotation_nested m n w) in
    omega (arith, a, b, rotation_good (n + m) w)

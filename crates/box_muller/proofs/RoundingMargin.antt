-- From the radius F and a member G of the rotation, each within its margin, to the sample: the error of the rounding.
use mathlib.Core.Path.{◌≡◌, ap, sym, ◌∙◌}
use mathlib.Core.Bool.{Bool}
use Prim.Native.Nat.{ℕ, ◌+◌, ◌-◌, ◌*◌, ◌^◌, ◌≤◌, ◌<◌}
use native.Mathlib.Nat.{mul-le-mul, mul-le-mul_right, mul-lt-mul_of_pos_right, lt_of_mul-lt-mul_left, div-add-mod, mod-lt}
use native.Mathlib.Omega.{arith}
use lib.IntN.{ℤ, pos}
use lib.Pow.{pow_pos, pow-add}
use Rattle.exact.specs.Fraction.{Fraction, ◌≤ᶠ◌, dyadic, ◌*ᶠ◌}
use Rattle.exact.proofs.FractionLaws.{≤ᶠ-trans, *ᶠ-mono}
use Rattle.exact.specs.Radius.{RadiusEnclosure}
use Rattle.exact.specs.Pair.{Enclosure, times, Within, along, CloseTo}
use Rattle.box_muller.specs.Steps.{size, rounded}
use Rattle.angle.specs.Margin.{Member}
use Rattle.box_muller.proofs.RoundingLaws.{rounded_along}

-- F at 2^20 is at most 7 from the radius, G at 2^30 at most 3 from the member: F G is then less than this from the product at 2^50
abbrev pub slack : ℕ
slack = 15 * 2 ^ 29

product_below : (F G : ℕ) → F < 2 ^ 24 → G ≤ 2 ^ 30 → F * G ≤ (F - 7) * (G - 3) + slack
product_below F G hF hG = from (F - 7) (G - 3) (omega arith) (omega arith) (omega arith) (omega arith)
  where
    from : (x y : ℕ) → F ≤ x + 7 → G ≤ y + 3 → x ≤ 2 ^ 24 → y ≤ 2 ^ 30 → F * G ≤ x * y + slack
    from x y h k hx hy = omega (arith, mul-le-mul h k)

product_above : (F G : ℕ) → F < 2 ^ 24 → G ≤ 2 ^ 30 → (F + 7) * (G + 3) < F * G + slack
product_above F G hF hG = omega arith

-- The size of a sample: z is F G over 2 H to nearest, halves up; 2 H is 2 ^ (50 - f), U is 2 ^ f.
record Rounded (F G H U z : ℕ) : Type 0 where
  radius : F < 2 ^ 24
  member : G ≤ 2 ^ 30
  unit : 2 * H * U ≡ 2 ^ 50
  low : 2 * H * z ≤ F * G + H
  high : F * G + H < 2 * H * z + 2 * H

-- x lies between the products of the ends, and the limit leaves room for the slack beside the half: then |z - x U| is below the limit
below_half : (H U z a c p r b : ℕ) → b * c ≤ 2 * H * U * a → 2 * H * z ≤ b + slack + H → r * (H + slack) * c < 2 * H * p * c
    → 2 * H * (z * c * r) < 2 * H * (a * U * r + p * c)
below_half H U z a c p r b h t room = omega (arith, mul-le-mul_right (c * r) t, mul-le-mul_right r h, room)

above_half : (H U z a c p r b : ℕ) → 2 * H * U * a ≤ b * c → b ≤ 2 * H * z + H + slack → r * (H + slack) * c < 2 * H * p * c
    → 2 * H * (a * U * r) < 2 * H * (z * c * r + p * c)
above_half H U z a c p r b h t room = omega (arith, mul-le-mul_right (c * r) t, mul-le-mul_right r h, room)

module _ (F G H U z : ℕ) (x limit : Fraction) (R : Rounded F G H U z) (room : limit.bottom * (H + slack) < 2 * H * limit.top) where
  sample_below : (F - 7) * (G - 3) * x.bottom ≤ 2 ^ 50 * x.top → z * x.bottom * limit.bottom < x.top * U * limit.bottom + limit.top * x.bottom
  sample_below h =
      let t : 2 * H * z ≤ (F - 7) * (G - 3) + slack + H = omega (arith, product_below F G R.radius R.member, R.low) in
      lt_of_mul-lt-mul_left (2 * H)
      (below_half H U z x.top x.bottom limit.top limit.bottom ((F - 7) * (G - 3)) (rw (← R.unit) at h) t
      (mul-lt-mul_of_pos_right room x.positive))

  sample_above : 2 ^ 50 * x.top ≤ (F + 7) * (G + 3) * x.bottom → x.top * U * limit.bottom < z * x.bottom * limit.bottom + limit.top * x.bottom
  sample_above h =
      let t : (F + 7) * (G + 3) ≤ 2 * H * z + H + slack = omega (arith, product_above F G R.radius R.member, R.high) in
      lt_of_mul-lt-mul_left (2 * H)
      (above_half H U z x.top x.bottom limit.top limit.bottom ((F + 7) * (G + 3)) (rw (← R.unit) at h) t
      (mul-lt-mul_of_pos_right room x.positive))

-- the size, as a rounding at 2 H = 2 ^ (50 - f)
module _ (f F : ℕ) (few : f ≤ 49) where
  halves : 2 ^ (50 - f) ≡ 2 * 2 ^ (49 - f)
  halves =
      let e : 50 - f ≡ 1 + (49 - f) = omega arith in
      ap (λ (n : ℕ). 2 ^ n) e ∙ pow-add 2 1 (49 - f)

  whole_units : 2 * 2 ^ (49 - f) * 2 ^ f ≡ 2 ^ 50
  whole_units =
      let e : 50 - f + f ≡ 50 = omega arith in
      ap (λ (n : ℕ). n * 2 ^ f) (sym halves) ∙ sym (pow-add 2 (50 - f) f) ∙ ap (λ (n : ℕ). 2 ^ n) e

  size_rounded : (G : ℕ) → F < 2 ^ 24 → G ≤ 2 ^ 30 → Rounded F G (2 ^ (49 - f)) (2 ^ f) (size f F G)
  unfolding size
  size_rounded G hF hG =
      let H = 2 ^ (49 - f) in
      let d = rw halves at (div-add-mod (F * G + H) (2 ^ (50 - f))) in
      let m = rw halves at (mod-lt (F * G + H) (pow_pos (50 - f))) in
      rw halves (record { radius = hF; member = hG; unit = whole_units; low = omega (arith, d, m); high = omega (arith, d, m) })

  -- the sample, seen along the sign of its member, is its size
  along_rounded : (b : Bool) (G : ℤ) (n : ℕ) → along b G ≡ pos n → along b (rounded f F G) ≡ pos (size f F n)
  along_rounded b G n e = rounded_along f F few b G ∙ ap (rounded f F) e

  -- a sample is close to every point between the radius, F at 2^20 with its margin, times a member with its margin
  pub member_close : {z : Fraction} (g : RadiusEnclosure z) (limit : Fraction) (G : ℤ) (e : Enclosure) → F < 2 ^ 24
      → dyadic 20 (F - 7) ≤ᶠ g.low → g.high ≤ᶠ dyadic 20 (F + 7) → Member G e
      → limit.bottom * (2 ^ (49 - f) + slack) < 2 * 2 ^ (49 - f) * limit.top
      → CloseTo limit f (rounded f F G) (times g e)
  unfolding CloseTo Within
  member_close g limit G e hF low high m room x from to =
      let n = m.size in
      let r = size_rounded n hF m.most in
      let low' = *ᶠ-mono (dyadic 20 (F - 7)) g.low (dyadic 30 (n - 3)) e.low low m.low in
      let high' = *ᶠ-mono g.high (dyadic 20 (F + 7)) e.high (dyadic 30 (n + 3)) high m.high in
      let from' = ≤ᶠ-trans (dyadic 20 (F - 7) *ᶠ dyadic 30 (n - 3)) (g.low *ᶠ e.low) x low' from in
      let to' = ≤ᶠ-trans x (g.high *ᶠ e.high) (dyadic 20 (F + 7) *ᶠ dyadic 30 (n + 3)) to high' in
      let below = sample_below F n (2 ^ (49 - f)) (2 ^ f) (size f F n) x limit r room (omega (arith, from')) in
      let above = sample_above F n (2 ^ (49 - f)) (2 ^ f) (size f F n) x limit r room (omega (arith, to')) in
      rw (along_rounded e.negative G n m.value) (omega (arith, below), omega (arith, above))

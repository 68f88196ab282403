-- The exact pair and the distance of a sample from it. Document 01, 'What "exact" means', and demand 3.
use Rattle.std.specs.Prelude.{◌⊎◌, Bool, true, false, not, ℕ, zero, suc, ◌/◌, ◌%◌, ◌^◌, ℤ, pos, negsuc, neg_ℤ}
use Rattle.exact.specs.Fraction.{Fraction, whole, dyadic, ◌+ᶠ◌, ◌*ᶠ◌, ◌≤ᶠ◌, ◌<ᶠ◌}
use Rattle.exact.specs.Radius.{RadiusEnclosure}
use Rattle.exact.specs.Rotation.{Rotation, rotation}

-- The pair's (sine, cosine) for q = 0, 1, 2, 3: (sin, cos), (cos, -sin), (-sin, -cos), (-cos, sin)
abbrev pub turn : {A : Type 0} → (A → A) → ℕ → A × A → A × A
turn neg zero p = p
turn neg (suc zero) p = (p.1, neg p.0)
turn neg (suc (suc zero)) p = (neg p.0, neg p.1)
turn neg (suc (suc (suc q))) p = (neg p.1, p.0)

-- all signed fractions whose size is from low to high, with one sign
pub record Enclosure : Type 0 where
  pub negative : Bool
  pub low : Fraction
  pub high : Fraction

abbrev pub negate : Enclosure → Enclosure
negate e = record { negative = not e.negative; low = e.low; high = e.high }

-- the sine and the cosine of a rotation at n fraction bits
abbrev pub sine_of : ℕ → Rotation → Enclosure
sine_of n r = record { negative = false; low = dyadic n r.sin_low; high = dyadic n r.sin_high }

abbrev pub cosine_of : ℕ → Rotation → Enclosure
cosine_of n r = record { negative = false; low = dyadic n r.cos_low; high = dyadic n r.cos_high }

-- "q then turns it by quarters": the sine and the cosine of the exact rotation for v, at n fraction bits
unfoldable pub members : ℕ → ℕ → Enclosure × Enclosure
members n v =
    let r : Rotation = rotation n (v % 16384) in
    turn negate (v / 16384) (sine_of n r, cosine_of n r)

-- "The exact pair is two products: the exact radius times the sine of the exact rotation for v, then times its cosine"
abbrev pub times : {z : Fraction} → RadiusEnclosure z → Enclosure → Enclosure
times g e = record { negative = e.negative; low = g.low *ᶠ e.low; high = g.high *ᶠ e.high }

abbrev pub first_product : {z : Fraction} → RadiusEnclosure z → ℕ → ℕ → Enclosure
first_product g n v = times g (members n v).0

abbrev pub second_product : {z : Fraction} → RadiusEnclosure z → ℕ → ℕ → Enclosure
second_product g n v = times g (members n v).1

-- a whole number as a difference of two that are not negative: above - below
abbrev pub above : ℤ → ℕ
above (pos n) = n
above (negsuc n) = 0

abbrev pub below : ℤ → ℕ
below (pos n) = 0
below (negsuc n) = suc n

-- |s - x 2^f| < limit, for a whole number s of units of 2 ^ -f and a fraction x: s < x 2^f + limit and x 2^f < s + limit
unfoldable pub Within : Fraction → ℕ → ℤ → Fraction → Type 0
Within limit f s x =
    (whole (above s) <ᶠ x *ᶠ whole (2 ^ f) +ᶠ limit +ᶠ whole (below s)) × (x *ᶠ whole (2 ^ f) +ᶠ whole (below s) <ᶠ whole (above s) +ᶠ limit)

-- |s - x 2^f| > limit, "more than [limit] away" (document 02, Job 10): x 2^f + limit < s or s + limit < x 2^f
unfoldable pub Beyond : Fraction → ℕ → ℤ → Fraction → Type 0
Beyond limit f s x =
    (x *ᶠ whole (2 ^ f) +ᶠ limit +ᶠ whole (below s) <ᶠ whole (above s)) ⊎ (whole (above s) +ᶠ limit <ᶠ x *ᶠ whole (2 ^ f) +ᶠ whole (below s))

-- s with the sign turned where the enclosure is negative
abbrev pub along : Bool → ℤ → ℤ
along true s = neg_ℤ s
along false s = s

-- the sample s is less than `limit` units of 2 ^ -f from every point of the enclosure
unfoldable pub CloseTo : Fraction → ℕ → ℤ → Enclosure → Type 0
CloseTo limit f s e = (x : Fraction) → e.low ≤ᶠ x → x ≤ᶠ e.high → Within limit f (along e.negative s) x

-- the sample s is more than `limit` units of 2 ^ -f from every point of the enclosure
unfoldable pub FarFrom : Fraction → ℕ → ℤ → Enclosure → Type 0
FarFrom limit f s e = (x : Fraction) → e.low ≤ᶠ x → x ≤ᶠ e.high → Beyond limit f (along e.negative s) x

-- demand 3, for a first number 1 over z and a second number v: "the first sample is less than [limit] of a unit from every point of some
-- enclosure of the first product, and the second likewise from the second"
pub record Close (limit : Fraction) (f : ℕ) (z : Fraction) (v : ℕ) (s t : ℤ) : Type 0 where
  pub radius : RadiusEnclosure z
  pub bits : ℕ
  pub first : CloseTo limit f s (first_product radius bits v)
  pub second : CloseTo limit f t (second_product radius bits v)

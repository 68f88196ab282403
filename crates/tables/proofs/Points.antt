-- Half a unit at the ends of an enclosure is half a unit at every point of it. Two enclosures that overlap are less than half a unit
-- from one whole number alone.
use mathlib.Core.Path.{◌≡◌}
use mathlib.Core.Bool.{false}
use Prim.Native.Nat.{ℕ, ◌+◌, ◌*◌, ◌^◌, ◌<◌, ◌≤◌}
use native.Mathlib.Nat.{le_antisymm, mul-le-mul_left, mul-lt-mul_of_pos_right, lt_of_mul-lt-mul_right}
use native.Mathlib.Omega.{arith}
use lib.IntN.{pos}
use lib.Pow.{pow_pos}
use Rattle.exact.specs.Fraction.{whole, halved, dyadic}
use Rattle.exact.specs.Pair.{Within, CloseTo}
use Rattle.tables.specs.Promise.{NearestIn}

-- N for 2^n and F for 2^f, at the point t / b
from_below : (N F low x b t : ℕ) → 0 < b → 2 * (x * N) < 2 * (F * low) + N → low * b ≤ t * N → 2 * (x * b) < 2 * (F * t) + b
from_below N F low x b t p h k =
    lt_of_mul-lt-mul_right N (omega (arith, mul-lt-mul_of_pos_right h p, mul-le-mul_left (2 * F) k))

from_above : (N F high x b t : ℕ) → 0 < b → 2 * (F * high) < 2 * (x * N) + N → t * N ≤ high * b → 2 * (F * t) < 2 * (x * b) + b
from_above N F high x b t p h k =
    lt_of_mul-lt-mul_right N (omega (arith, mul-lt-mul_of_pos_right h p, mul-le-mul_left (2 * F) k))

pub points :
    (f n low high x : ℕ) → NearestIn f n low high x →
    CloseTo (halved (whole 1)) f (pos x) (record { negative = false; low = dyadic n low; high = dyadic n high })
unfolding CloseTo Within
points f n low high x near y from to = (
  omega (arith, from_below (2 ^ n) (2 ^ f) low x y.bottom y.top y.positive (omega (arith, near)) from),
  omega (arith, from_above (2 ^ n) (2 ^ f) high x y.bottom y.top y.positive (omega (arith, near)) to),
)

-- M and N for 2^m and 2^n, where the low end at m bits is at most the high end at n bits
at_most_lem :
    (M N F low high x y : ℕ) → 0 < M → 0 < N → low * N ≤ high * M →
    2 * (x * M) < 2 * (F * low) + M → 2 * (F * high) < 2 * (y * N) + N → x ≤ y
at_most_lem M N F low high x y p q o h k =
    let l : x < y + 1 = lt_of_mul-lt-mul_right (2 * (M * N))
    (omega (arith, mul-le-mul_left (2 * F) o, mul-lt-mul_of_pos_right h q, mul-lt-mul_of_pos_right k p)) in
    omega arith

pub in_unique :
    (f m n lowm highm lown highn x y : ℕ) → lowm * 2 ^ n ≤ highn * 2 ^ m → lown * 2 ^ m ≤ highm * 2 ^ n →
    NearestIn f m lowm highm x → NearestIn f n lown highn y → x ≡ y
in_unique f m n lowm highm lown highn x y o o' nx ny =
    le_antisymm (at_most_lem (2 ^ m) (2 ^ n) (2 ^ f) lowm highn x y (pow_pos m) (pow_pos n) o nx.below ny.above)
    (at_most_lem (2 ^ n) (2 ^ m) (2 ^ f) lown highm y x (pow_pos n) (pow_pos m) o' ny.below nx.above)

-- A whole number by its two parts, `above` less `below`: what sums, products and rounding do to them, and to its size.
use mathlib.Core.Path.{◌≡◌, refl}
use mathlib.Core.Bool.{Bool, true, false, not, cond}
use Prim.Native.Nat.{ℕ, zero, suc, ◌+◌, ◌-◌, ◌*◌, ◌/◌, ◌^◌, ◌≤◌, ◌<◌}
use native.Mathlib.Omega.{arith}
use lib.Dec.{T, ltb, ltb→lt, nltb→le}
use lib.IntN.{ℤ, pos, negsuc, neg_ℤ, nat_abs, sub_ℕ, ◌+ℤ◌, ◌*ℤ◌}
use Rattle.exact.specs.Pair.{above, below}
use Rattle.signs.proofs.Sizes.{nat_abs_neg}
use Rattle.sums.specs.Sums.{rounded}

sub_parts : (a b : ℕ) → above (sub_ℕ a b) + b ≡ below (sub_ℕ a b) + a
sub_parts a b = go (ltb a b) (ltb→lt a b) (nltb→le a b)
  where
    go : (t : Bool) → (T t → a < b) → (T (not t) → b ≤ a) →
        above (cond t (negsuc (b - suc a)) (pos (a - b))) + b ≡ below (cond t (negsuc (b - suc a)) (pos (a - b))) + a
    go true h k =
        let l = h tt in
        omega arith
    go false h k =
        let l = k tt in
        omega arith

pub sum_parts : (x y : ℤ) → above (x +ℤ y) + (below x + below y) ≡ below (x +ℤ y) + (above x + above y)
sum_parts (pos a) (pos b) = omega arith
sum_parts (pos a) (negsuc b) = omega (arith, sub_parts a (suc b))
sum_parts (negsuc a) (pos b) = omega (arith, sub_parts b (suc a))
sum_parts (negsuc a) (negsuc b) = omega arith

pub neg_parts : (n : ℕ) → (above (neg_ℤ (pos n)) ≡ 0) × (below (neg_ℤ (pos n)) ≡ n)
neg_parts zero = (refl, refl)
neg_parts (suc n) = (refl, refl)

times_parts : (d : ℕ) (x : ℤ) → (above (pos d *ℤ x) ≡ d * above x) × (below (pos d *ℤ x) ≡ d * below x)
times_parts d (pos a) = omega arith
times_parts d (negsuc b) = omega (arith, neg_parts (d * suc b))

-- a product added: the parts of d x + y
pub product_parts : (d : ℕ) (x y : ℤ) →
    above (pos d *ℤ x +ℤ y) + (d * below x + below y) ≡ below (pos d *ℤ x +ℤ y) + (d * above x + above y)
product_parts d x y = omega (arith, sum_parts (pos d *ℤ x) y, times_parts d x)

-- rounding moves by at most half a unit
pub rounded_parts : (z : ℤ) → (above (rounded z) * 2 ^ 30 + below z ≤ above z + below (rounded z) * 2 ^ 30 + 2 ^ 29)
    × (above z + below (rounded z) * 2 ^ 30 ≤ above (rounded z) * 2 ^ 30 + below z + 2 ^ 29)
rounded_parts (pos n) = omega arith
rounded_parts (negsuc n) = omega (arith, neg_parts ((suc n + 2 ^ 29) / 2 ^ 30))

-- ---- sizes

pub rounded_size : (z : ℤ) → nat_abs (rounded z) ≤ nat_abs z + 1
rounded_size (pos n) = omega arith
rounded_size (negsuc n) = rw (nat_abs_neg (pos ((suc n + 2 ^ 29) / 2 ^ 30))) (omega arith)

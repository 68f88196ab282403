-- Signed numbers by their size: of minus, sum, difference and product, and what fits a width of the machine.
use mathlib.Core.Path.{◌≡◌, refl, ◌∙◌}
use mathlib.Core.Bool.{Bool, true, false, cond}
use Prim.Native.Nat.{ℕ, zero, suc, ◌+◌, ◌-◌, ◌*◌, ◌^◌, ◌≤◌, ◌<◌}
use native.Mathlib.Omega.{arith}
use native.Mathlib.Nat.{lt_of_lt_of_le, pow-le-pow_right}
use lib.Dec.{ltb}
use lib.IntN.{ℤ, pos, negsuc, neg_ℤ, nat_abs, sub_ℕ, ◌+ℤ◌, ◌-ℤ◌, ◌*ℤ◌, +ℤ_idl}
use lib.Signed.{nat_abs-le}
use mir.Syntax.{Width}
use mir.Val.{SFits, hbits, to_z, of_z}
use mir.Facts.{to_z_pos, to_z-of_z}
use Rattle.std.proofs.lemmas.Int.{unsigned_abs-mul, fits_signed_from_abs}

-- both signs have one size
pub nat_abs_neg : (x : ℤ) → nat_abs (neg_ℤ x) ≡ nat_abs x
nat_abs_neg (pos zero) = refl
nat_abs_neg (pos (suc n)) = refl
nat_abs_neg (negsuc n) = refl

difference_size : (a b : ℕ) → nat_abs (sub_ℕ a (suc b)) ≤ a + suc b
difference_size a b = by_test (ltb a (suc b))
  where
    by_test : (t : Bool) → nat_abs (cond t (negsuc (suc b - suc a)) (pos (a - suc b))) ≤ a + suc b
    by_test true = omega arith
    by_test false = omega arith

pub sum_size : (x y : ℤ) → nat_abs (x +ℤ y) ≤ nat_abs x + nat_abs y
sum_size (pos a) (pos b) = omega arith
sum_size (pos a) (negsuc b) = difference_size a b
sum_size (negsuc a) (pos b) = omega (arith, difference_size b a)
sum_size (negsuc a) (negsuc b) = omega arith

pub minus_size : (x y : ℤ) → nat_abs (x -ℤ y) ≤ nat_abs x + nat_abs y
minus_size x y = omega (arith, sum_size x (neg_ℤ y), nat_abs_neg y)

pub product_size : (x y : ℤ) → nat_abs (x *ℤ y) ≡ nat_abs x * nat_abs y
product_size = unsigned_abs-mul

-- a number whose size fits the width less its sign fits the width, and reads back
pub size_fits : (w : Width) (x : ℤ) → nat_abs x < 2 ^ hbits w → SFits w x
size_fits = fits_signed_from_abs

pub size_reads : (w : Width) (x : ℤ) → nat_abs x < 2 ^ hbits w → to_z w (of_z w x) ≡ x
size_reads w x h = to_z-of_z (size_fits w x h)

-- and a number that fits has a size
pub fits_size : (w : Width) (x : ℤ) → SFits w x → nat_abs x ≤ 2 ^ hbits w
fits_size w x h = nat_abs-le x h.sfits

-- minus a number fits the width, and reads back
module _ (w : Width) (n : ℕ) (h : n < 2 ^ hbits w) where
  minus : pos 0 -ℤ to_z w n ≡ neg_ℤ (pos n)
  minus = rw (to_z_pos w h) (+ℤ_idl (neg_ℤ (pos n)))

  pub minus_fits : SFits w (pos 0 -ℤ to_z w n)
  minus_fits = rw minus (size_fits w (neg_ℤ (pos n)) (rw (nat_abs_neg (pos n)) h))

  pub minus_reads : to_z w (of_z w (pos 0 -ℤ to_z w n)) ≡ neg_ℤ (pos n)
  minus_reads = rw minus (size_reads w (neg_ℤ (pos n)) (rw (nat_abs_neg (pos n)) h))

-- a number that fits a narrower width, cast to it from a wider one: the cast fits, and reads back
module _ (v w : Width) (x : ℤ) (order : hbits w ≤ hbits v) (h : nat_abs x < 2 ^ hbits w) where
  same : to_z v (of_z v x) ≡ x
  same = size_reads v x (lt_of_lt_of_le h (pow-le-pow_right {n = 2} (omega arith) order))

  pub cast_fits : SFits w (to_z v (of_z v x))
  cast_fits = rw same (size_fits w x h)

  pub cast_reads : to_z w (of_z w (to_z v (of_z v x))) ≡ x
  cast_reads = to_z-of_z cast_fits ∙ same

-- Laws of the rounding: the sign apart from the size, and the largest size.
use mathlib.Core.Path.{◌≡◌, refl, sym, ap, ◌∙◌}
use mathlib.Core.Bool.{Bool, true, false}
use Prim.Native.Nat.{ℕ, zero, suc, ◌+◌, ◌-◌, ◌*◌, ◌^◌, ◌≤◌, ◌<◌}
use native.Mathlib.Nat.{mul-zero, zero-add, div-eq_of_lt, mul-le-mul, pow-suc, le_refl, le_trans, add-le-add, div-mul-le_self, le-div_iff_mul-le}
use native.Mathlib.Numerals.{add-one}
use native.Mathlib.Omega.{arith}
use lib.IntN.{ℤ, pos, negsuc, neg_ℤ, nat_abs, neg_ℤ-neg_ℤ}
use lib.Pow.{pow_pos}
use Rattle.exact.specs.Pair.{turn, along}
use Rattle.exact.proofs.MemberLaws.{turn_keeps}
use Rattle.radius.specs.Steps.{radius_of, radius_limit}
use Rattle.radius.proofs.Ranges.{radius_of_range}
use Rattle.angle.specs.Steps.{signed_of}
use Rattle.signs.proofs.Sizes.{nat_abs_neg}
use Rattle.angle.proofs.Ranges.{signed_range}
use Rattle.box_muller.specs.Steps.{size, rounded}
use Rattle.box_muller.specs.Sample.{first_of, second_of}
use Rattle.box_muller.specs.Theorems.{largest}

-- a sine or cosine of 0 gives the sample 0
pub size_zero : (f F : ℕ) → f ≤ 49 → size f F 0 ≡ 0
unfolding size
size_zero f F h =
    let e : 50 - f ≡ 49 - f + 1 = omega arith in
    rw (mul-zero, zero-add, e, add-one, pow-suc) (div-eq_of_lt (omega (arith, pow_pos (49 - f))))

-- the size is the same for G and -G, so that a change of G's sign is a change of the sample's
pub rounded_neg : (f F : ℕ) → f ≤ 49 → (G : ℤ) → rounded f F (neg_ℤ G) ≡ neg_ℤ (rounded f F G)
rounded_neg f F h (pos zero) = rw (size_zero f F h) refl
rounded_neg f F h (pos (suc n)) = refl
rounded_neg f F h (negsuc n) = sym (neg_ℤ-neg_ℤ (pos (size f F (suc n))))

pub rounded_along : (f F : ℕ) → f ≤ 49 → (b : Bool) (G : ℤ) → along b (rounded f F G) ≡ rounded f F (along b G)
rounded_along f F h true G = sym (rounded_neg f F h G)
rounded_along f F h false G = refl

-- sizes that are rounded and then turned are the sine and the cosine turned and then rounded
pub turned_rounded : (f F q s c : ℕ) → f ≤ 49
    → ((turn neg_ℤ q (pos (size f F s), pos (size f F c))).0 ≡ rounded f F (turn neg_ℤ q (pos s, pos c)).0)
    × ((turn neg_ℤ q (pos (size f F s), pos (size f F c))).1 ≡ rounded f F (turn neg_ℤ q (pos s, pos c)).1)
turned_rounded f F q s c h =
    turn_keeps neg_ℤ neg_ℤ (λ x y. x ≡ rounded f F y) (λ x y e. ap neg_ℤ e ∙ sym (rounded_neg f F h y)) q
    (pos (size f F s), pos (size f F c)) (pos s, pos c) refl refl

pub size_of : (f F : ℕ) (G : ℤ) → nat_abs (rounded f F G) ≡ size f F (nat_abs G)
size_of f F (pos g) = refl
size_of f F (negsuc g) = nat_abs_neg (pos (size f F (suc g)))

-- no size is above the largest
pub size_range : (f F G : ℕ) → F < radius_limit → G ≤ 2 ^ 30 → size f F G ≤ largest f
unfolding size
size_range f F G h g =
    let product : F * G ≤ (radius_limit - 1) * 2 ^ 30 = mul-le-mul {n₁ = F} {m₁ = G} {n₂ = radius_limit - 1} {m₂ = 2 ^ 30} (omega arith) g in
    (le-div_iff_mul-le (pow_pos (50 - f))).1 (le_trans (div-mul-le_self _ _) (add-le-add product (le_refl _)))

-- no sample's size is above the largest
pub rounded_small : (f F : ℕ) (G : ℤ) → F < radius_limit → nat_abs G ≤ 2 ^ 30 → nat_abs (rounded f F G) ≤ largest f
rounded_small f F G h g = rw (size_of f F G) (size_range f F (nat_abs G) h g)

pub first_small : (f k v : ℕ) → nat_abs (first_of f k v) ≤ largest f
unfolding first_of
first_small f k v = rounded_small f (radius_of k) (signed_of v).0 (radius_of_range k) (signed_range v).0

pub second_small : (f k v : ℕ) → nat_abs (second_of f k v) ≤ largest f
unfolding second_of
second_small f k v = rounded_small f (radius_of k) (signed_of v).1 (radius_of_range k) (signed_range v).1

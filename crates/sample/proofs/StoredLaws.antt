-- A sample at f fraction bits, handed over in 64 bits to be cut to a width.
use mathlib.Core.Path.{◌≡◌, refl, ap, ◌∙◌}
use Prim.Native.Nat.{ℕ, suc, ◌+◌, ◌-◌, ◌*◌, ◌^◌, ◌/◌, ◌%◌, ◌≤◌, ◌<◌}
use native.Mathlib.Nat.{lt_of_le_of_lt, pow-le-pow_right, sub-le, div-le_self}
use native.Mathlib.Omega.{arith}
use lib.IntN.{ℤ, pos, negsuc, nat_abs}
use mir.Syntax.{Width, w16, w32, w64}
use mir.Val.{SFits, to_z, of_z}
use mir.Facts.{to_z-of_z}
use Rattle.std.specs.Int.{int_wrap}
use Rattle.signs.proofs.Sizes.{size_reads}
use Rattle.radius.specs.Steps.{radius_limit, radius_of}
use Rattle.angle.specs.Steps.{signed_of}
use Rattle.box_muller.specs.Steps.{rounded}
use Rattle.box_muller.specs.Sample.{first_of, second_of}
use Rattle.box_muller.specs.Theorems.{largest}
use Rattle.box_muller.proofs.RoundingLaws.{first_small, second_small}
use Rattle.sample.specs.Samples.{first_at, second_at}

-- the largest has 63 bits, at any number of fraction bits
largest_small : (f : ℕ) → largest f < 2 ^ 63
largest_small f =
    let half : 2 ^ (49 - f) ≤ 2 ^ 49 = pow-le-pow_right {n = 2} (omega arith) (sub-le 49 f) in
    let part = div-le_self ((radius_limit - 1) * 2 ^ 30 + 2 ^ (49 - f)) (2 ^ (50 - f)) in
    omega (arith, half, part)

-- a width's lowest bits of a number are what its two's complement keeps
opposite16 : (a m : ℕ) → a < 2 ^ 63 → m ≡ 65536 → (2 ^ 64 - suc a) % m ≡ m - 1 - a % m
opposite16 a m h e = rw e (omega (arith, h))

opposite32 : (a m : ℕ) → a < 2 ^ 63 → m ≡ 4294967296 → (2 ^ 64 - suc a) % m ≡ m - 1 - a % m
opposite32 a m h e = rw e (omega (arith, h))

bits16 : (x : ℤ) → SFits w64 x → to_z w16 (of_z w64 x % 2 ^ 16) ≡ int_wrap w16 x
unfolding int_wrap
bits16 (pos a) f = refl
bits16 (negsuc a) f = ap (to_z w16) (opposite16 a (2 ^ 16) f.sfits refl)

bits32 : (x : ℤ) → SFits w64 x → to_z w32 (of_z w64 x % 2 ^ 32) ≡ int_wrap w32 x
unfolding int_wrap
bits32 (pos a) f = refl
bits32 (negsuc a) f = ap (to_z w32) (opposite32 a (2 ^ 32) f.sfits refl)

module _ (x : ℤ) (fits : SFits w64 x) {n : ℕ} (is : n ≡ of_z w64 (to_z w64 (of_z w64 x))) where
  number_is : n ≡ of_z w64 x
  number_is = is ∙ ap (of_z w64) (to_z-of_z fits)

  pub cut16 : {r : ℤ} → r ≡ to_z w16 (n % 2 ^ 16) → r ≡ int_wrap w16 x
  cut16 cut = cut ∙ ap (λ (m : ℕ). to_z w16 (m % 2 ^ 16)) number_is ∙ bits16 x fits

  pub cut32 : {r : ℤ} → r ≡ to_z w32 (n % 2 ^ 32) → r ≡ int_wrap w32 x
  cut32 cut = cut ∙ ap (λ (m : ℕ). to_z w32 (m % 2 ^ 32)) number_is ∙ bits32 x fits

-- what is cut to a width that keeps every sample is read back
module _ (f : ℕ) (w : Width) (holds : (x : ℤ) → nat_abs x ≤ largest f → int_wrap w x ≡ x) where
  pub none_read : {u : ℤ} → u ≡ int_wrap w (pos 0) → u ≡ pos 0
  none_read cut = cut ∙ holds (pos 0) (omega arith)

  read : {a x u : ℤ} → nat_abs a ≤ largest f → x ≡ a → u ≡ int_wrap w (to_z w64 (of_z w64 x)) → u ≡ a
  read {x = x} small is cut =
      let fits : nat_abs x ≤ largest f = rw is small in
      cut ∙ ap (int_wrap w) (size_reads w64 x (lt_of_le_of_lt fits (largest_small f))) ∙ holds x fits ∙ is

  pub first_read : (z : ℕ) {x u : ℤ} → x ≡ first_at f z → u ≡ int_wrap w (to_z w64 (of_z w64 x)) → u ≡ first_at f z
  first_read z is cut = read (first_small f (z / 65536) (z % 65536)) is cut

  pub second_read : (z : ℕ) {x u : ℤ} → x ≡ second_at f z → u ≡ int_wrap w (to_z w64 (of_z w64 x)) → u ≡ second_at f z
  second_read z is cut = read (second_small f (z / 65536) (z % 65536)) is cut

-- from the radius that is taken
pub first_is : (f z : ℕ) {F : ℕ} {x : ℤ} → x ≡ rounded f F (signed_of (z % 65536)).0 → F ≡ radius_of (z / 65536) → x ≡ first_at f z
unfolding first_of
first_is f z is radius = is ∙ ap (λ (F : ℕ). rounded f F (signed_of (z % 65536)).0) radius

pub second_is : (f z : ℕ) {F : ℕ} {x : ℤ} → x ≡ rounded f F (signed_of (z % 65536)).1 → F ≡ radius_of (z / 65536) → x ≡ second_at f z
unfolding second_of
second_is f z is radius = is ∙ ap (λ (F : ℕ). rounded f F (signed_of (z % 65536)).1) radius

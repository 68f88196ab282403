-- Laws of fractions: the order, and what sums and products do to it.
use Prim.Native.Nat.{ℕ, zero, ◌*◌, ◌≤◌, ◌<◌}
use mathlib.Core.Logic.{◌⊎◌, inl, inr}
use native.Mathlib.Nat.{le_refl, lt_of_not-le, mul-pos, mul-le-mul, mul-le-mul_right, mul-lt-mul_of_pos_right}
use native.Mathlib.Nat.{le_of_mul-le-mul_right, lt_of_mul-lt-mul_right}
use native.Mathlib.Decide.{dec_le}
use native.Mathlib.Omega.{arith}
use Rattle.exact.specs.Fraction.{Fraction, ◌≤ᶠ◌, ◌<ᶠ◌, ◌+ᶠ◌, ◌*ᶠ◌, square, halved}

infix 30 ◌∎ᶠ
infixr 20 ◌≤ᶠ⟨◌⟩◌
-- a / b ≤ c / d and c / d ≤ e / f give a / b ≤ e / f
pub cross_trans : (a b c d e f : ℕ) → zero < d → a * d ≤ c * b → c * f ≤ e * d → a * f ≤ e * b
cross_trans a b c d e f pos h k = le_of_mul-le-mul_right (omega (arith, mul-le-mul_right f h, mul-le-mul_right b k)) pos

-- the same with one order strict
pub cross_trans_lt_le : (a b c d e f : ℕ) → zero < f → a * d < c * b → c * f ≤ e * d → a * f < e * b
cross_trans_lt_le a b c d e f pos h k =
    lt_of_mul-lt-mul_right d (omega (arith, mul-lt-mul_of_pos_right h pos, mul-le-mul_right b k))

pub cross_trans_le_lt : (a b c d e f : ℕ) → zero < b → a * d ≤ c * b → c * f < e * d → a * f < e * b
cross_trans_le_lt a b c d e f pos h k =
    lt_of_mul-lt-mul_right d (omega (arith, mul-le-mul_right f h, mul-lt-mul_of_pos_right k pos))

-- Two fractions are equal if each is at most the other: the order is reflexive, transitive and total.
pub ≤ᶠ-refl : (x : Fraction) → x ≤ᶠ x
≤ᶠ-refl x = le_refl _

pub ≤ᶠ-trans : (x y z : Fraction) → x ≤ᶠ y → y ≤ᶠ z → x ≤ᶠ z
≤ᶠ-trans x y z h k = cross_trans x.top x.bottom y.top y.bottom z.top z.bottom y.positive h k

pub <ᶠ-≤ᶠ-trans : (x y z : Fraction) → x <ᶠ y → y ≤ᶠ z → x <ᶠ z
<ᶠ-≤ᶠ-trans x y z h k = cross_trans_lt_le x.top x.bottom y.top y.bottom z.top z.bottom z.positive h k

pub ≤ᶠ-<ᶠ-trans : (x y z : Fraction) → x ≤ᶠ y → y <ᶠ z → x <ᶠ z
≤ᶠ-<ᶠ-trans x y z h k = cross_trans_le_lt x.top x.bottom y.top y.bottom z.top z.bottom x.positive h k

pub <ᶠ-weaken : (x y : Fraction) → x <ᶠ y → x ≤ᶠ y
<ᶠ-weaken x y h = omega arith

pub ≤ᶠ-or-<ᶠ : (x y : Fraction) → (x ≤ᶠ y) ⊎ (y <ᶠ x)
≤ᶠ-or-<ᶠ x y = decided (dec_le (x.top * y.bottom) (y.top * x.bottom))
  where
    decided : Dec (x ≤ᶠ y) → (x ≤ᶠ y) ⊎ (y <ᶠ x)
    decided (yes h) = inl h
    decided (no h) = inr (lt_of_not-le h)

-- Chains: `chained (x ≤ᶠ⟨ h ⟩ y ≤ᶠ⟨ k ⟩ z ∎ᶠ)` is x ≤ᶠ z.
pub record Chain (x y : Fraction) : Type 0 where
  pub ends : x ≤ᶠ y

pub ◌≤ᶠ⟨◌⟩◌ : (x : Fraction) {y z : Fraction} → x ≤ᶠ y → Chain y z → Chain x z
◌≤ᶠ⟨◌⟩◌ x {y} {z} h k = record { ends = ≤ᶠ-trans x y z h k.ends }

pub ◌∎ᶠ : (x : Fraction) → Chain x x
x ∎ᶠ = record { ends = ≤ᶠ-refl x }

pub chained : {x y : Fraction} → Chain x y → x ≤ᶠ y
chained c = c.ends

-- Sums and products grow with each part.
pub +ᶠ-mono : (x x' y y' : Fraction) → x ≤ᶠ x' → y ≤ᶠ y' → x +ᶠ y ≤ᶠ x' +ᶠ y'
+ᶠ-mono x x' y y' h k =
    omega (arith, mul-le-mul_right (y.bottom * y'.bottom) h, mul-le-mul_right (x.bottom * x'.bottom) k)

pub +ᶠ-mono-lt-le : (x x' y y' : Fraction) → x <ᶠ x' → y ≤ᶠ y' → x +ᶠ y <ᶠ x' +ᶠ y'
+ᶠ-mono-lt-le x x' y y' h k =
    omega (arith, mul-lt-mul_of_pos_right h (mul-pos y.positive y'.positive), mul-le-mul_right (x.bottom * x'.bottom) k)

pub +ᶠ-mono-le-lt : (x x' y y' : Fraction) → x ≤ᶠ x' → y <ᶠ y' → x +ᶠ y <ᶠ x' +ᶠ y'
+ᶠ-mono-le-lt x x' y y' h k =
    omega (arith, mul-le-mul_right (y.bottom * y'.bottom) h, mul-lt-mul_of_pos_right k (mul-pos x.positive x'.positive))

pub *ᶠ-mono : (x x' y y' : Fraction) → x ≤ᶠ x' → y ≤ᶠ y' → x *ᶠ y ≤ᶠ x' *ᶠ y'
*ᶠ-mono x x' y y' h k = omega (arith, mul-le-mul h k)

pub *ᶠ-mono-lt : (x x' y : Fraction) → zero < y.top → x <ᶠ x' → x *ᶠ y <ᶠ x' *ᶠ y
*ᶠ-mono-lt x x' y pos h = omega (arith, mul-lt-mul_of_pos_right h (mul-pos pos y.positive))

pub ≤ᶠ-+ᶠ : (x y : Fraction) → x ≤ᶠ x +ᶠ y
≤ᶠ-+ᶠ x y = omega arith

-- A common summand, and a common factor above 0, cancel.
pub +ᶠ-cancel : (x x' y : Fraction) → x +ᶠ y ≤ᶠ x' +ᶠ y → x ≤ᶠ x'
+ᶠ-cancel x x' y h = le_of_mul-le-mul_right (omega arith) (mul-pos y.positive y.positive)

pub *ᶠ-cancel : (x x' y : Fraction) → zero < y.top → x *ᶠ y ≤ᶠ x' *ᶠ y → x ≤ᶠ x'
*ᶠ-cancel x x' y pos h = le_of_mul-le-mul_right (omega arith) (mul-pos pos y.positive)

-- Squares, and half squares, grow, and show the order of what they are squares of.
pub square_mono : (x y : Fraction) → x ≤ᶠ y → square x ≤ᶠ square y
square_mono x y h = *ᶠ-mono x y x y h h

pub half_square_mono : (x y : Fraction) → x ≤ᶠ y → halved (square x) ≤ᶠ halved (square y)
half_square_mono x y h = omega (arith, mul-le-mul h h)

pub half_square_cancel : (x y : Fraction) → halved (square x) ≤ᶠ halved (square y) → x ≤ᶠ y
half_square_cancel x y h = decided (≤ᶠ-or-<ᶠ x y)
  where
    decided : (x ≤ᶠ y) ⊎ (y <ᶠ x) → x ≤ᶠ y
    decided (inl k) = k
    decided (inr k) = omega (arith, mul-le-mul k k)

-- Exclusive-or by halves, and the maps that are additive over it.
use mathlib.Core.Path.{◌≡◌, refl, sym, ap, ap₂, ◌∙◌}
use Prim.Native.Nat.{ℕ, min, ◌+◌, ◌*◌, ◌/◌, ◌%◌, ◌^◌}
use native.Mathlib.Nat.{add-zero}
use native.Mathlib.Omega.{arith}
use lib.Arith.{bin_ind}
use lib.Pow.{pow_pos}
use lib.Bits.{bit_and, bit_xor, and_step, and_shr, xor_shr, xor_mod, xor_block, xor_comm, xor_self, xor_add_and}
use Rattle.bit_matrix.specs.Matrices.{Additive}

-- ---- Halves and lowest digits

pub xor_half : (x y : ℕ) → bit_xor x y / 2 ≡ bit_xor (x / 2) (y / 2)
xor_half x y = xor_shr x y 1

pub xor_low : (x y : ℕ) → bit_xor x y % 2 ≡ (x % 2 + y % 2) % 2
xor_low x y = omega (arith, xor_add_and x y)

and_low : (x y : ℕ) → bit_and x y % 2 ≡ min (x % 2) (y % 2)
and_low x y = omega (arith, and_step x y)

by_halves : {x y : ℕ} → x / 2 ≡ y / 2 → x % 2 ≡ y % 2 → x ≡ y
by_halves halves lows = omega arith

three_digits : (a b c : ℕ) → ((a + b) % 2 + c) % 2 ≡ (a + (b + c) % 2) % 2
three_digits a b c = omega arith

pub xor_assoc : (x y z : ℕ) → bit_xor (bit_xor x y) z ≡ bit_xor x (bit_xor y z)
xor_assoc =
    bin_ind (λ (x : ℕ). (y z : ℕ) → bit_xor (bit_xor x y) z ≡ bit_xor x (bit_xor y z)) (λ y z. refl)
    (λ x halves y z. by_halves
    (rw (xor_half (bit_xor x y) z, xor_half x y, xor_half x (bit_xor y z), xor_half y z) (halves (y / 2) (z / 2)))
    (rw (xor_low (bit_xor x y) z, xor_low x y, xor_low x (bit_xor y z), xor_low y z)
    (three_digits (x % 2) (y % 2) (z % 2))))

pub xor_swap : (a b c d : ℕ) → bit_xor (bit_xor a b) (bit_xor c d) ≡ bit_xor (bit_xor a c) (bit_xor b d)
xor_swap a b c d =
    xor_assoc a b (bit_xor c d)
    ∙ ap (λ (x : ℕ). bit_xor a x) (sym (xor_assoc b c d) ∙ ap (λ (x : ℕ). bit_xor x d) (xor_comm b c) ∙ xor_assoc c b d)
    ∙ sym (xor_assoc a c (bit_xor b d))

-- ---- Additive maps

pub keeps_zero : (f : ℕ → ℕ) → Additive f → f 0 ≡ 0
keeps_zero f additive = additive 0 0 ∙ xor_self (f 0)

pub same_additive : Additive (λ x. x)
same_additive x y = refl

-- shifts to the left and to the right, and the n lowest digits
pub shl_additive : (n : ℕ) → Additive (λ x. x * 2 ^ n)
shl_additive n x y = sym (simp add-zero at (xor_block n x y 0 0 (pow_pos n) (pow_pos n)))

pub shr_additive : (n : ℕ) → Additive (λ x. x / 2 ^ n)
shr_additive n x y = xor_shr x y n

pub mod_additive : (n : ℕ) → Additive (λ x. x % 2 ^ n)
mod_additive n x y = xor_mod x y n

-- a mask
mask_digit : (a b m : ℕ) → min ((a % 2 + b % 2) % 2) (m % 2) ≡ (min (a % 2) (m % 2) + min (b % 2) (m % 2)) % 2
mask_digit a b m = omega arith

mask_xor : (x y mask : ℕ) → bit_and (bit_xor x y) mask ≡ bit_xor (bit_and x mask) (bit_and y mask)
mask_xor =
    bin_ind (λ (x : ℕ). (y mask : ℕ) → bit_and (bit_xor x y) mask ≡ bit_xor (bit_and x mask) (bit_and y mask)) (λ y mask. refl)
    (λ x halves y mask. by_halves
    (rw (and_shr (bit_xor x y) mask 1, xor_half x y, xor_half (bit_and x mask) (bit_and y mask), and_shr x mask 1, and_shr y mask 1)
    (halves (y / 2) (mask / 2)))
    (rw (and_low (bit_xor x y) mask, xor_low x y, xor_low (bit_and x mask) (bit_and y mask), and_low x mask, and_low y mask)
    (mask_digit x y mask)))

pub and_additive : (mask : ℕ) → Additive (λ x. bit_and x mask)
and_additive mask x y = mask_xor x y mask

-- one map after another, and the exclusive-or of two
pub then_additive : (f g : ℕ → ℕ) → Additive f → Additive g → Additive (λ x. g (f x))
then_additive f g p q x y = ap g (p x y) ∙ q (f x) (f y)

pub xor_additive : (f g : ℕ → ℕ) → Additive f → Additive g → Additive (λ x. bit_xor (f x) (g x))
xor_additive f g p q x y = ap₂ (λ (u v : ℕ). bit_xor u v) (p x y) (q x y) ∙ xor_swap (f x) (f y) (g x) (g y)

-- a shift to the left in a word of w digits
pub word_shl_additive : (w n : ℕ) → Additive (λ x. x * 2 ^ n % 2 ^ w)
word_shl_additive w n = then_additive (λ x. x * 2 ^ n) (λ x. x % 2 ^ w) (shl_additive n) (mod_additive w)

-- The binary digits of a number, `bit x j`, lowest first, and what shifts, masks and exclusive-or do to them.
use mathlib.Core.Path.{◌≡◌, sym, ap, ◌∙◌}
use Prim.Native.Nat.{ℕ, zero, suc, ◌+◌, ◌-◌, ◌*◌, ◌/◌, ◌%◌, ◌^◌, ◌≤◌, ◌<◌}
use native.Mathlib.Nat.{le_dest, mul-mod_left, div-eq_of_lt, pow-suc, lt_of_lt_of_le, div-one}
use native.Mathlib.Omega.{arith}
use lib.Pow.{pow_mono, pow-add, field, mod-mod-pow, shr-shr, shl-shr}
use lib.Bits.{bit_and, bit_xor, xor_shr, and_high}
use Rattle.bit_matrix.proofs.Additive.{xor_low}

unfoldable pub bit : ℕ → ℕ → ℕ
bit x j = x / 2 ^ j % 2

pub bit_lt : (x j : ℕ) → bit x j < 2
unfolding bit
bit_lt x j = omega arith

-- no digit above the number
pub bit_above : {x : ℕ} (w j : ℕ) → x < 2 ^ w → w ≤ j → bit x j ≡ 0
unfolding bit
bit_above w j h l = rw (div-eq_of_lt (lt_of_lt_of_le h (pow_mono l)))

-- a shift to the right
pub bit_shr : (x n j : ℕ) → bit (x / 2 ^ n) j ≡ bit x (n + j)
unfolding bit
bit_shr x n j = rw (shr-shr x n j)

-- a shift to the left
pub bit_shl : (x n j : ℕ) → bit (x * 2 ^ n) (n + j) ≡ bit x j
unfolding bit
bit_shl x n j = ap (λ (y : ℕ). y % 2) (sym (shr-shr (x * 2 ^ n) n j) ∙ ap (λ (y : ℕ). y / 2 ^ j) (shl-shr x n))

shl_digit : (x d j : ℕ) → bit (x * 2 ^ (suc j + d)) j ≡ 0
unfolding bit
shl_digit x d j =
    let p : x * 2 ^ (suc j + d) ≡ x * 2 ^ d * 2 * 2 ^ j = rw (pow-add 2 (suc j) d, pow-suc 2 j) (omega arith) in
    rw (p, shl-shr (x * 2 ^ d * 2) j) (mul-mod_left (x * 2 ^ d) 2)

pub bit_shl_low : (x n j : ℕ) → j < n → bit (x * 2 ^ n) j ≡ 0
bit_shl_low x n j h = let (d, e) = le_dest h in rw e at (shl_digit x d j)

-- the w low digits
mod_digit : (x d j : ℕ) → bit (x % 2 ^ (d + 1 + j)) j ≡ bit x j
unfolding bit
mod_digit x d j = rw (field x (d + 1) j) (mod-mod-pow (x / 2 ^ j) d 1)

pub bit_mod : (x w j : ℕ) → j < w → bit (x % 2 ^ w) j ≡ bit x j
bit_mod x w j h =
    let (d, e) = le_dest h in
    let f : d + 1 + j ≡ w = omega (arith, e) in
    rw f at (mod_digit x d j)

-- exclusive-or
pub bit_xor_lem : (x y j : ℕ) → bit (bit_xor x y) j ≡ (bit x j + bit y j) % 2
unfolding bit
bit_xor_lem x y j = rw (xor_shr x y j) (xor_low (x / 2 ^ j) (y / 2 ^ j))

-- a mask that clears the c low digits of n + c
pub bit_high : (x n c j : ℕ) → j < n → bit (bit_and x (2 ^ (n + c) - 2 ^ c)) (c + j) ≡ bit x (c + j)
bit_high x n c j h =
    ap (λ (y : ℕ). bit y (c + j)) (and_high x n c) ∙ bit_shl (x / 2 ^ c % 2 ^ n) c j ∙ bit_mod (x / 2 ^ c) n j h ∙ bit_shr x c j

pub bit_cleared : (x n c j : ℕ) → j < c → bit (bit_and x (2 ^ (n + c) - 2 ^ c)) j ≡ 0
bit_cleared x n c j h = ap (λ (y : ℕ). bit y j) (and_high x n c) ∙ bit_shl_low (x / 2 ^ c % 2 ^ n) c j h

-- two numbers of w digits are equal when their digits are
half_lt : (w x : ℕ) → x < 2 ^ suc w → x / 2 < 2 ^ w
half_lt w x h = let p : x < 2 ^ w * 2 = rw pow-suc at h in omega arith

pub bit_ext : (w x y : ℕ) → x < 2 ^ w → y < 2 ^ w → ((j : ℕ) → j < w → bit x j ≡ bit y j) → x ≡ y
unfolding bit
bit_ext zero x y hx hy h = omega arith
bit_ext (suc w) x y hx hy h =
    let halves : x / 2 ≡ y / 2 = bit_ext w (x / 2) (y / 2) (half_lt w x hx) (half_lt w y hy)
    (λ j l. bit_shr x 1 j ∙ h (1 + j) (omega arith) ∙ sym (bit_shr y 1 j)) in
    let lows : x % 2 ≡ y % 2 = simp div-one at (h 0 (omega arith)) in
    omega arith

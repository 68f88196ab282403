-- Whole square roots, rounded down and up. Document 01, 'What "exact" means'.
use Rattle.std.specs.Prelude.{ℕ, zero, suc, ◌+◌, ◌*◌, ◌/◌, Bool, true, false, leb}

-- the whole part of the square root of m, digit by digit to the base 4; `fuel` bounds the number of digits
abbrev pub next_digit : ℕ → Bool → ℕ
next_digit y true = 2 * y + 1
next_digit y false = 2 * y

unfoldable pub root_digits : ℕ → ℕ → ℕ
root_digits zero m = 0
root_digits (suc fuel) zero = 0
root_digits (suc fuel) (suc m) =
    let y : ℕ = root_digits fuel (suc m / 4) in
    next_digit y (leb ((2 * y + 1) * (2 * y + 1)) (suc m))

-- the root of m / 2, rounded down: the greatest y with 2 y² ≤ m
unfoldable pub root_down : ℕ → ℕ
root_down m = root_digits m (m / 2)

-- the root of m / 2, rounded up: the least y with m ≤ 2 y²
unfoldable pub root_up : ℕ → ℕ
root_up zero = 0
root_up (suc m) = suc (root_down m)

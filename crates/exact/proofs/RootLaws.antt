-- Laws of the roots of specs/Root.antt: each is what its comment there says, so that both grow with the number under the root.
use mathlib.Core.Path.{◌≡◌, refl}
use mathlib.Core.Bool.{Bool, true, false}
use Prim.Native.Nat.{ℕ, zero, suc, ◌+◌, ◌*◌, ◌/◌, ◌≤◌, ◌<◌}
use native.Mathlib.Nat.{mul-le-mul, mul-le-mul_left}
use native.Mathlib.Decide.{dec_le}
use native.Mathlib.Omega.{arith}
use lib.Dec.{leb}
use borrow.Author.Tests.{leb-true, leb-false}
use Rattle.exact.specs.Root.{next_digit, root_digits, root_down, root_up}

-- y is the whole part of the square root of m
pub record IsRoot (m y : ℕ) : Type 0 where
  pub at_most : y * y ≤ m
  pub next : m < (y + 1) * (y + 1)

-- a root of m / 4 and one more digit to the base 4
next_digit_root : (m y : ℕ) → IsRoot (m / 4) y → (b : Bool) → leb ((2 * y + 1) * (2 * y + 1)) m ≡ b → IsRoot m (next_digit y b)
next_digit_root m y r true e =
    let t = leb-true ((2 * y + 1) * (2 * y + 1)) m e in
    record { at_most = t; next = omega (arith, r.next) }
next_digit_root m y r false e =
    let t = leb-false ((2 * y + 1) * (2 * y + 1)) m e in
    record { at_most = omega (arith, r.at_most); next = t }

-- with enough fuel `root_digits` is the whole root
pub root_digits_root : (fuel m : ℕ) → m ≤ fuel → IsRoot m (root_digits fuel m)
unfolding root_digits
root_digits_root zero m h = record { at_most = omega arith; next = omega arith }
root_digits_root (suc fuel) zero h = record { at_most = omega arith; next = omega arith }
root_digits_root (suc fuel) (suc m) h =
    next_digit_root (suc m) (root_digits fuel (suc m / 4)) (root_digits_root fuel (suc m / 4) (omega arith)) _ refl

-- of two squares the lesser has the lesser root
pub lt_of_square_lt : (x y : ℕ) → x * x < y * y → x < y
lt_of_square_lt x y h = go (dec_le y x)
  where
    go : Dec (y ≤ x) → x < y
    go (yes l) = omega (arith, mul-le-mul l l)
    go (no l) = omega arith

-- root_down m is the greatest y with 2 y² ≤ m
pub root_down_at_most : (m : ℕ) → 2 * (root_down m * root_down m) ≤ m
unfolding root_down
root_down_at_most m = omega (arith, (root_digits_root m (m / 2) (omega arith)).at_most)

pub root_down_next : (m : ℕ) → m < 2 * ((root_down m + 1) * (root_down m + 1))
unfolding root_down
root_down_next m = omega (arith, (root_digits_root m (m / 2) (omega arith)).next)

pub root_down_greatest : (m y : ℕ) → 2 * (y * y) ≤ m → y ≤ root_down m
root_down_greatest m y h =
    let l = lt_of_square_lt y (root_down m + 1) (omega (arith, root_down_next m)) in
    omega arith

-- root_up m is the least y with m ≤ 2 y²
pub root_up_at_least : (m : ℕ) → m ≤ 2 * (root_up m * root_up m)
unfolding root_up
root_up_at_least zero = omega arith
root_up_at_least (suc m) = omega (arith, root_down_next m)

pub root_up_least : (m y : ℕ) → m ≤ 2 * (y * y) → root_up m ≤ y
unfolding root_up
root_up_least zero y h = omega arith
root_up_least (suc m) y h = lt_of_square_lt (root_down m) y (omega (arith, root_down_at_most m))

-- rounded up it is less than 1 above the root
pub root_up_previous : (m : ℕ) → root_up m ≤ root_down m + 1
root_up_previous m = root_up_least m (root_down m + 1) (omega (arith, root_down_next m))

-- the root rounded down is at most the root rounded up, of the same number or a greater one
pub root_down_le_root_up : {m k : ℕ} → m ≤ k → root_down m ≤ root_up k
root_down_le_root_up {m} {k} h =
    let l = lt_of_square_lt (root_down m) (root_up k + 1) (omega (arith, root_down_at_most m, root_up_at_least k)) in
    omega arith

-- a factor c² is taken out of a root as c, outward
pub root_down_scaled : (c m : ℕ) {k : ℕ} → c * c * m ≤ k → c * root_down m ≤ root_down k
root_down_scaled c m {k} h =
    root_down_greatest k (c * root_down m) (omega (arith, mul-le-mul_left (c * c) (root_down_at_most m)))

pub root_up_scaled : (c m : ℕ) {k : ℕ} → k ≤ c * c * m → root_up k ≤ c * root_up m
root_up_scaled c m {k} h =
    root_up_least k (c * root_up m) (omega (arith, mul-le-mul_left (c * c) (root_up_at_least m)))

-- both grow with what they are taken of
pub root_down_monotone : {m k : ℕ} → m ≤ k → root_down m ≤ root_down k
root_down_monotone {m} {k} h = omega (arith, root_down_scaled 1 m {k = k} (omega arith))

pub root_up_monotone : {m k : ℕ} → m ≤ k → root_up m ≤ root_up k
root_up_monotone {m} {k} h = omega (arith, root_up_scaled 1 k {k = m} (omega arith))

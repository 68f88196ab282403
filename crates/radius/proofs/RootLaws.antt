-- The law of the whole root, and that no other number has it; and what is not above it, or above it.
use Rattle.std.proofs.Common.{◌≡◌, ℕ, ◌+◌, ◌-◌, ◌*◌, ◌/◌, ◌%◌, ◌^◌, ◌<◌, ◌≤◌, le_refl, mul-le-mul, arith}
use native.Mathlib.Decide.{dec_le}
use Rattle.exact.proofs.RootLaws.{root_digits_root, lt_of_square_lt}
use Rattle.radius.specs.Root.{whole_root, NearRoot}

pub whole_root_lem : (x : ℕ) → (whole_root x * whole_root x ≤ x) × (x < (whole_root x + 1) * (whole_root x + 1))
unfolding whole_root
whole_root_lem x =
    let r = root_digits_root x x (le_refl x) in
    (r.at_most, r.next)

pub below_root : (x r : ℕ) → r * r ≤ x → r ≤ whole_root x
below_root x r h = omega (arith, lt_of_square_lt r (whole_root x + 1) (omega (arith, h, (whole_root_lem x).1)))

pub above_root : (x r : ℕ) → x < r * r → whole_root x < r
above_root x r h = lt_of_square_lt (whole_root x) r (omega (arith, h, (whole_root_lem x).0))

pub whole_root_unique : (x r : ℕ) → r * r ≤ x → x < (r + 1) * (r + 1) → r ≡ whole_root x
whole_root_unique x r low high = omega (arith, below_root x r low, above_root x (r + 1) high)

-- a number that is not above the root is below 2^24, for x below 2^48
next_fits : (x g : ℕ) → x < 2 ^ 48 → g ≤ whole_root x → (g + 1 ≤ 2 ^ 24) × ((g + 1) * (g + 1) ≤ 2 ^ 48)
next_fits x g below low =
    let h : g + 1 ≤ 2 ^ 24 = omega (arith, above_root x (2 ^ 24) below) in
    (h, mul-le-mul h h)

-- the next number's square, taken from x, wraps round just where it is above x
pub root_is : (x g n d : ℕ) → x < 2 ^ 48 → NearRoot x g → n ≡ g % 2 ^ 24 + 1 → (d + n * n) % 2 ^ 64 ≡ x → d < 2 ^ 64 → n - d / 2 ^ 63 ≡ whole_root x
root_is x g n d below near n_is wraps d-fits = go (dec_le ((g + 1) * (g + 1)) x)
  where
    small : (g + 1 ≤ 2 ^ 24) × ((g + 1) * (g + 1) ≤ 2 ^ 48)
    small = next_fits x g below near.low

    next : n ≡ g + 1
    next = omega (arith, small.0)

    square : (d + (g + 1) * (g + 1)) % 2 ^ 64 ≡ x
    square = rw next at wraps

    go : Dec ((g + 1) * (g + 1) ≤ x) → n - d / 2 ^ 63 ≡ whole_root x
    go (yes l) = omega (arith, next, square, near, small, below_root x (g + 1) l)
    go (no l) = omega (arith, next, square, near, small, above_root x (g + 1) (omega arith))

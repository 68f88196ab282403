-- Whether the count has room for the pairs of all plays.
use Prim.Native.Nat.{ℕ, ◌+◌, ◌-◌, ◌*◌, ◌/◌, ◌%◌, ◌^◌, ◌≤◌, ◌<◌}
use native.Mathlib.Nat.{mul-zero, mul-le-mul}
use native.Mathlib.Omega.{arith}
use mathlib.Core.Path.{◌≡◌, refl, ap, ◌∙◌}
use mathlib.Core.Bool.{Bool, true, false}
use lib.Dec.{ltb}
use borrow.Author.Tests.{le-leb, lt-leb, ltb-true, ltb-false}
use Rattle.streams.specs.Streams.{most_count}
use Rattle.play.specs.Room.{has_room}

pub no_shots : (plays shots : ℕ) → shots ≡ 0 → true ≡ has_room plays shots
no_shots plays shots e =
    let z : plays * shots ≡ 0 = ap (λ (n : ℕ). plays * n) e ∙ mul-zero plays in
    rw (le-leb (plays * shots) most_count (omega (arith, z)))

pub too_many_lem : (plays shots : ℕ) → 0 < shots → most_count < plays → false ≡ has_room plays shots
too_many_lem plays shots some many = rw (lt-leb (plays * shots) most_count (omega (arith, mul-le-mul many some)))

-- ---- the upper half of the product, from the halves of one factor

pub product_fits : (a b : ℕ) → a < 2 ^ 32 → b < 2 ^ 32 → a * b < 2 ^ 64
product_fits a b p q = omega (arith, mul-le-mul p q)

pub sum_fits : (a b n : ℕ) → a < 2 ^ 32 → b < 2 ^ 32 → n < 2 ^ 32 → a * n + b * n / 2 ^ 32 < 2 ^ 64
sum_fits a b n p q r =
    let most : n ≤ 2 ^ 32 - 1 = omega arith in
    let first : a ≤ 2 ^ 32 - 1 = omega arith in
    let second : b ≤ 2 ^ 32 - 1 = omega arith in
    omega (arith, mul-le-mul first most, mul-le-mul second most)

module _ (plays shots : ℕ) where
  abbrev a : ℕ
  a = plays / 2 ^ 32

  abbrev b : ℕ
  b = plays % 2 ^ 32

  whole : plays * shots ≡ a * shots * 2 ^ 32 + b * shots
  whole =
      let parts : plays ≡ a * 2 ^ 32 + b = omega arith in
      ap (λ n. n * shots) parts ∙ expanded a b shots
    where
      expanded : (a b n : ℕ) → (a * 2 ^ 32 + b) * n ≡ a * n * 2 ^ 32 + b * n
      expanded a b n = omega arith

  below : a * shots + b * shots / 2 ^ 32 < 2 ^ 32 → true ≡ has_room plays shots
  below few = rw (le-leb (plays * shots) most_count (omega (arith, whole)))

  no_room : 2 ^ 32 ≤ a * shots + b * shots / 2 ^ 32 → false ≡ has_room plays shots
  no_room many = rw (lt-leb (plays * shots) most_count (omega (arith, whole)))

  pub by_halves : ltb (a * shots + b * shots / 2 ^ 32) (2 ^ 32) ≡ has_room plays shots
  by_halves = by_test (ltb (a * shots + b * shots / 2 ^ 32) (2 ^ 32)) refl
    where
      by_test : (t : Bool) → ltb (a * shots + b * shots / 2 ^ 32) (2 ^ 32) ≡ t → t ≡ has_room plays shots
      by_test true e = below (ltb-true _ _ e)
      by_test false e = no_room (ltb-false _ _ e)

-- Any test on k that F decides is passed by as many k as Rayleigh's tail has, to within the margins of F.
use mathlib.Core.Path.{◌≡◌}
use mathlib.Core.Bool.{Bool, true, false}
use Prim.Native.Nat.{ℕ, ◌+◌, ◌-◌, ◌^◌, ◌≤◌, ◌<◌}
use native.Mathlib.Nat.{mul-le-mul_left, mul-le-mul_right}
use native.Mathlib.Decide.{dec_le, dec_lt}
use native.Mathlib.Omega.{arith}
use lib.Dec.{leb}
use borrow.Author.Tests.{leb-true, leb-false}
use Rattle.exact.specs.Fraction.{whole, dyadic, halved, square}
use Rattle.exact.specs.Radius.{AtMostRadius, AtLeastRadius}
use Rattle.exact.proofs.FractionLaws.{half_square_mono, ≤ᶠ-refl}
use Rattle.exact.proofs.LogarithmLaws.{ln_at_most_mono, ln_at_least_mono, ln_one_at_least}
use Rattle.radius.specs.Steps.{number_bits, width, numerator, inverse, radius_of}
use Rattle.radius.proofs.RadiusMargin.{radius_margin}
use Rattle.radius.proofs.FarMargin.{far_from, far_margin}
use Rattle.tails.specs.Counts.{count_below, radius_beyond}
use Rattle.tails.specs.Tails.{RayleighTail, close_from}
use Rattle.tails.proofs.Pigeonhole.{some_passes, some_fails}

-- a smaller k has a larger exact radius
pub at_most_before : (k n g g' : ℕ) → n ≤ k → g' ≤ g → AtMostRadius (inverse k) (dyadic 20 g) → AtMostRadius (inverse n) (dyadic 20 g')
unfolding AtMostRadius
at_most_before k n g g' h l =
    let wider : numerator n ≤ numerator k = omega arith in
    ln_at_most_mono (halved (square (dyadic 20 g))) (halved (square (dyadic 20 g'))) (inverse k) (inverse n)
    (half_square_mono (dyadic 20 g') (dyadic 20 g) (mul-le-mul_right (2 ^ 20) l)) (mul-le-mul_left (2 ^ width) wider)

at_least_after : (k n g g' : ℕ) → k ≤ n → g ≤ g' → AtLeastRadius (inverse k) (dyadic 20 g) → AtLeastRadius (inverse n) (dyadic 20 g')
unfolding AtLeastRadius
at_least_after k n g g' h l =
    let wider : numerator k ≤ numerator n = omega arith in
    ln_at_least_mono (halved (square (dyadic 20 g))) (halved (square (dyadic 20 g'))) (inverse k) (inverse n)
    (half_square_mono (dyadic 20 g) (dyadic 20 g') (mul-le-mul_right (2 ^ 20) l)) (mul-le-mul_left (2 ^ width) wider)

-- from 2^48 on the inverse is below 1, whose logarithm no number is below
at_least_all : (n g : ℕ) → 2 ^ number_bits ≤ n → AtLeastRadius (inverse n) (dyadic 20 g)
unfolding AtLeastRadius
at_least_all n g h =
    let y = halved (square (dyadic 20 g)) in
    ln_at_least_mono y y (whole 1) (inverse n) (≤ᶠ-refl y) (omega arith) (ln_one_at_least y)

module _ (test : ℕ → Bool) where
  abbrev N : ℕ
  N = count_below (2 ^ number_bits) test

  -- where the exact radius of all who pass is at least g
  not_more_lem : (g : ℕ) → ((k : ℕ) → k < 2 ^ number_bits → test k ≡ true → AtMostRadius (inverse k) (dyadic 20 g))
      → 0 < N → AtMostRadius (inverse (N - 1)) (dyadic 20 g)
  not_more_lem g far some =
      let (k, least, below, passes) = some_passes (2 ^ number_bits) test some in
      at_most_before k (N - 1) g g (omega arith) (omega arith) (far k below passes)

  -- where the exact radius of all who fail is at most g
  not_less_lem : (g : ℕ) → ((k : ℕ) → k < 2 ^ number_bits → test k ≡ false → AtLeastRadius (inverse k) (dyadic 20 g)) → AtLeastRadius (inverse N) (dyadic 20 g)
  not_less_lem g near = elim (dec_lt N (2 ^ number_bits)) [
    | yes l ↦
        let (k, most, below, fails) = some_fails (2 ^ number_bits) test l in
        at_least_after k N g g most (omega arith) (near k below fails)
    | no l ↦ at_least_all N g (omega arith)
  ]

  -- who passes has an F of t or more, who fails one below t
  module _ (t : ℕ) (reached : (k : ℕ) → test k ≡ true → t ≤ radius_of k) (short : (k : ℕ) → test k ≡ false → radius_of k < t) where
    pub tail : RayleighTail N (t - 7) (t + 6)
    tail = record {
      not_less = not_less_lem (t + 6) λ k below fails.
          let s = short k fails in
          at_least_after k k (radius_of k + 7) (t + 6) (omega arith) (omega arith) (radius_margin k below).1;
      not_more = not_more_lem (t - 7) λ k below passes.
          let r = reached k passes in
          at_most_before k k (radius_of k - 7) (t - 7) (omega arith) (omega arith) (radius_margin k below).0;
    }

    pub close_tail : close_from ≤ t → RayleighTail N (t - 1) (t + 1)
    close_tail close = record {
      not_less = not_less_lem (t + 1) λ k below fails.
          let s = short k fails in
          elim (dec_le far_from (radius_of k)) [
            | yes l ↦ at_least_after k k (radius_of k + 2) (t + 1) (omega arith) (omega arith) (far_margin k below l).1
            | no l ↦ at_least_after k k (radius_of k + 7) (t + 1) (omega arith) (omega arith) (radius_margin k below).1
          ];
      not_more = not_more_lem (t - 1) λ k below passes.
          let r = reached k passes in
          at_most_before k k (radius_of k - 1) (t - 1) (omega arith) (omega arith) (far_margin k below (omega arith)).0;
    }

-- how many k have an F of t or more
pub radius_tail : (t : ℕ) → RayleighTail (radius_beyond t) (t - 7) (t + 6)
radius_tail t = tail (λ k. leb t (radius_of k)) t (λ k. leb-true t (radius_of k)) (λ k. leb-false t (radius_of k))

pub radius_close_tail : (t : ℕ) → close_from ≤ t → RayleighTail (radius_beyond t) (t - 1) (t + 1)
radius_close_tail t = close_tail (λ k. leb t (radius_of k)) t (λ k. leb-true t (radius_of k)) (λ k. leb-false t (radius_of k))

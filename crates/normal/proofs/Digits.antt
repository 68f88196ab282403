-- The digits that textbooks print, by the same test.
use mathlib.Core.Bool.{Bool, true, ◌&&◌}
use mathlib.Core.List.{List, [], ◌∷◌}
use Prim.Native.Nat.{◌+◌, ◌^◌}
use native.Mathlib.Nat.{one-le-pow}
use native.Mathlib.Omega.{arith}
use lib.Dec.{T, leb, leb→le}
use store.Enc.{and_l, and_r}
use Rattle.exact.specs.Fraction.{whole}
use Rattle.exact.specs.Series.{factorial}
use Rattle.exact.proofs.SeriesLaws.{scaled_top, scaled_bottom}
use Rattle.tail_rows.specs.Rows.{Every}
use Rattle.normal.specs.Probability.{double_factorial, half_pi_term, area_term}
use Rattle.normal.specs.Meaning.{Printed, Right, textbook}
use Rattle.normal.proofs.Sums.{top_to}
use Rattle.normal.proofs.TailTest.{enough, most_inside, least_inside, at_least_tail, at_most_tail}

right_digits : Printed → Bool
right_digits r =
    leb r.digits (10 ^ r.places) && (enough (whole r.sigmas)
    && (least_inside (whole r.sigmas) r.digits (10 ^ r.places) && most_inside (whole r.sigmas) (r.digits + 1) (10 ^ r.places)))

right : (r : Printed) → T (right_digits r) → Right r
unfolding right_digits
right r t =
    let low : Bool = least_inside (whole r.sigmas) r.digits (10 ^ r.places) in
    let t₁ = and_r (leb r.digits (10 ^ r.places)) _ t in
    let t₂ = and_r (enough (whole r.sigmas)) _ t₁ in
    let e = and_l (enough (whole r.sigmas)) _ t₁ in
    let some = one-le-pow r.places 10 (omega arith) in (
      at_most_tail (whole r.sigmas) r.digits (10 ^ r.places) some e (leb→le _ _ (and_l (leb r.digits (10 ^ r.places)) _ t)) (and_l low _ t₂),
      at_least_tail (whole r.sigmas) (r.digits + 1) (10 ^ r.places) some e (and_r low _ t₂),
    )

all_right : List Printed → Bool
all_right [] = true
all_right (r ∷ rs) = right_digits r && all_right rs

all_right_lem : (rs : List Printed) → T (all_right rs) → Every Right rs
unfolding all_right
all_right_lem [] t = tt
all_right_lem (r ∷ rs) t = (right r (and_l (right_digits r) _ t), all_right_lem rs (and_r (right_digits r) _ t))

tested : T (all_right textbook)
unfolding all_right right_digits enough most_inside least_inside top_to half_pi_term area_term double_factorial factorial scaled_top scaled_bottom
tested = tt

pub digits : Every Right textbook
digits = all_right_lem textbook tested

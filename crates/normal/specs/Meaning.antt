-- What the cuts of specs/Probability.antt are: proofs/Theorems.antt proves it.
use Rattle.std.specs.Prelude.{List, [], ◌∷◌, ◌⊎◌, ℕ, ◌+◌, ◌^◌}
use Rattle.std.proofs.Math.Nat.{one-le-pow}
use Rattle.std.proofs.Common.{arith}
use Rattle.exact.specs.Fraction.{Fraction, whole, ◌+ᶠ◌, ◌*ᶠ◌, ◌≤ᶠ◌, ◌<ᶠ◌}
use Rattle.tail_rows.specs.Rows.{Every}
use Rattle.normal.specs.Probability.{area_term, AtMostSum, AtLeastSum, AtMostInside, AtMostTail, AtLeastTail}

-- P(|X| ≥ sigmas) is between `digits` and digits + 1, in units of 10^-places
pub record Printed : Type 0 where
  pub sigmas : ℕ
  pub digits : ℕ
  pub places : ℕ

abbrev printed : ℕ → ℕ → ℕ → Printed
printed x n k = record { sigmas = x; digits = n; places = k }

abbrev pub decimal : ℕ → ℕ → Fraction
decimal k n = record { top = n; bottom = 10 ^ k; positive = one-le-pow k 10 (omega arith) }

abbrev pub Right : Printed → Type 0
Right r = AtMostTail (whole r.sigmas) (decimal r.places r.digits) × AtLeastTail (whole r.sigmas) (decimal r.places (r.digits + 1))

-- P(|X| ≥ 1), .. P(|X| ≥ 10), to twelve digits as textbooks print them
abbrev pub textbook : List Printed
textbook =
    printed 1 317_310_507_862 12
    ∷ printed 2 455_002_638_963 13
    ∷ printed 3 269_979_606_326 14
    ∷ printed 4 633_424_836_662 16
    ∷ printed 5 573_303_143_758 18
    ∷ printed 6 197_317_529_007 20
    ∷ printed 7 255_962_508_777 23
    ∷ printed 8 124_419_211_485 26
    ∷ printed 9 225_717_681_190 30
    ∷ printed 10 152_397_060_483 34
    ∷ []

pub record Meaning : Type 0 where
  -- The cuts are those of one number for every x: what is at most it is at most what is at least it, and of t < u either t is at most it or u is at least it.
  pub meet : (x t u : Fraction) → AtMostTail x t → AtLeastTail x u → t ≤ᶠ u
  pub located : (x t u : Fraction) → t <ᶠ u → AtMostTail x t ⊎ AtLeastTail x u
  -- The sum B of the area's terms is 0 at 0, and from x to x + h it grows by at least h (1 + x B(x)) and at most h (1 + (x + h) B(x + h)), so B' = 1 + x B.
  -- By the product rule, which is left to the reader, e^(-x²/2) B(x) has the derivative e^(-x²/2): it is the area under e^(-t²/2) from 0 to x.
  pub begins : AtLeastSum (area_term (whole 0)) (whole 0)
  pub slope_least : (x h b : Fraction) → AtMostSum (area_term x) b → AtMostSum (area_term (x +ᶠ h)) (b +ᶠ h *ᶠ (whole 1 +ᶠ x *ᶠ b))
  pub slope_most : (x h b c : Fraction) → AtLeastSum (area_term x) b → AtLeastSum (area_term (x +ᶠ h)) c
      → AtLeastSum (area_term (x +ᶠ h)) (b +ᶠ h *ᶠ (whole 1 +ᶠ (x +ᶠ h) *ᶠ c))
  -- The whole is 1: P(|X| < x) is at most 1 for every x, and at least any c below 1 for some x. So √(π/2) is the whole area from 0 on.
  pub at_most_one : (x c : Fraction) → AtMostInside x c → c ≤ᶠ whole 1
  pub near_one : (c : Fraction) → c <ᶠ whole 1 → (x : Fraction) × AtMostInside x c
  -- the digits that textbooks print
  pub digits : Every Right textbook

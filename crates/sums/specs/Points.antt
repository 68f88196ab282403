-- Fractions of either sign, as a difference over one bottom: a sum of signed products has terms of both signs.
use Rattle.std.specs.Prelude.{Bool, true, false, cond, ℕ, zero, ◌+◌, ◌*◌, ◌≤◌, ◌<◌, ℤ}
use Rattle.std.proofs.Common.{mul-pos, arith}
use Rattle.exact.specs.Fraction.{Fraction}
use Rattle.exact.specs.Pair.{Enclosure, above, below}

infix 40 ◌≤ᵖ◌
infix 40 ◌<ᵖ◌
infixl 60 ◌+ᵖ◌
infixl 70 ◌·ᵖ◌
-- plus less minus, over bottom; a bottom of 0 cannot be written
pub record Point : Type 0 where
  pub plus : ℕ
  pub minus : ℕ
  pub bottom : ℕ
  pub positive : zero < bottom

-- order, by cross multiplication, each minus on the other side
abbrev pub ◌≤ᵖ◌ : Point → Point → Type 0
x ≤ᵖ y = x.plus * y.bottom + y.minus * x.bottom ≤ y.plus * x.bottom + x.minus * y.bottom

abbrev pub ◌<ᵖ◌ : Point → Point → Type 0
x <ᵖ y = x.plus * y.bottom + y.minus * x.bottom < y.plus * x.bottom + x.minus * y.bottom

abbrev pub ◌+ᵖ◌ : Point → Point → Point
x +ᵖ y = record {
  plus = x.plus * y.bottom + y.plus * x.bottom;
  minus = x.minus * y.bottom + y.minus * x.bottom;
  bottom = x.bottom * y.bottom;
  positive = mul-pos x.positive y.positive;
}

-- d times x
abbrev pub ◌·ᵖ◌ : ℕ → Point → Point
d ·ᵖ x = record { plus = d * x.plus; minus = d * x.minus; bottom = x.bottom; positive = x.positive }

-- a fraction with its sign
abbrev pub signed : Bool → Fraction → Point
signed true x = record { plus = 0; minus = x.top; bottom = x.bottom; positive = x.positive }
signed false x = record { plus = x.top; minus = 0; bottom = x.bottom; positive = x.positive }

-- the whole number z
abbrev pub whole_point : ℤ → Point
whole_point z = record { plus = above z; minus = below z; bottom = 1; positive = omega arith }

-- the lowest and the highest point of an enclosure: a negative one has its larger size lowest
abbrev pub lowest : Enclosure → Point
lowest e = signed e.negative (cond e.negative e.high e.low)

abbrev pub highest : Enclosure → Point
highest e = signed e.negative (cond e.negative e.low e.high)

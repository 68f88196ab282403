-- Fractions that are not negative. Document 01, 'What "exact" means': "compared in fractions" (demand 3).
use Rattle.std.specs.Prelude.{ℕ, zero, ◌+◌, ◌*◌, ◌^◌, ◌≤◌, ◌<◌}
use Rattle.std.proofs.Common.{mul-pos, arith, pow_pos}

infix 40 ◌≤ᶠ◌
infix 40 ◌<ᶠ◌
infixl 60 ◌+ᶠ◌
infixl 70 ◌*ᶠ◌
-- top over bottom; a bottom of 0 cannot be written
pub record Fraction : Type 0 where
  pub top : ℕ
  pub bottom : ℕ
  pub positive : zero < bottom

-- order, by cross multiplication
abbrev pub ◌≤ᶠ◌ : Fraction → Fraction → Type 0
x ≤ᶠ y = x.top * y.bottom ≤ y.top * x.bottom

abbrev pub ◌<ᶠ◌ : Fraction → Fraction → Type 0
x <ᶠ y = x.top * y.bottom < y.top * x.bottom

abbrev pub ◌+ᶠ◌ : Fraction → Fraction → Fraction
x +ᶠ y = record {
  top = x.top * y.bottom + y.top * x.bottom;
  bottom = x.bottom * y.bottom;
  positive = mul-pos x.positive y.positive;
}

abbrev pub ◌*ᶠ◌ : Fraction → Fraction → Fraction
x *ᶠ y = record { top = x.top * y.top; bottom = x.bottom * y.bottom; positive = mul-pos x.positive y.positive }

abbrev pub square : Fraction → Fraction
square x = x *ᶠ x

abbrev pub halved : Fraction → Fraction
halved x = record { top = x.top; bottom = 2 * x.bottom; positive = omega (arith, x.positive) }

-- the whole number n
abbrev pub whole : ℕ → Fraction
whole n = record { top = n; bottom = 1; positive = omega arith }

-- n over 2 ^ f
abbrev pub dyadic : ℕ → ℕ → Fraction
dyadic f n = record { top = n; bottom = 2 ^ f; positive = pow_pos f }

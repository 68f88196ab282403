-- The exact radius of a first number. Document 01, 'What "exact" means'. The first number is 1 over z, a fraction z of at least 1.
use Rattle.exact.specs.Fraction.{Fraction, square, halved}
use Rattle.exact.specs.Series.{AtMostLn, AtLeastLn}

-- "A fraction g >= 0 is at most or at least the exact radius as g^2 / 2 is for ln(2^48 / k)", with z for 2^48 / k
unfoldable pub AtMostRadius : Fraction → Fraction → Type 0
AtMostRadius z g = AtMostLn (halved (square g)) z

unfoldable pub AtLeastRadius : Fraction → Fraction → Type 0
AtLeastRadius z g = AtLeastLn (halved (square g)) z

-- an enclosure of the exact radius
pub record RadiusEnclosure (z : Fraction) : Type 0 where
  pub low : Fraction
  pub high : Fraction
  pub at_most : AtMostRadius z low
  pub at_least : AtLeastRadius z high

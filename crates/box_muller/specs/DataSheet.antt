-- The figures for the data sheet (document 02, Job 10). proofs/DataSheet.antt proves what is said here of one k and v; the first figure is a
-- clause of the call.
use Rattle.std.specs.Prelude.{◌≡◌, ℕ, ◌^◌, ◌<◌, pos}
use Rattle.std.proofs.Common.{arith}
use Rattle.exact.specs.Fraction.{Fraction, ◌<ᶠ◌}
use Rattle.exact.specs.Radius.{RadiusEnclosure}
use Rattle.exact.specs.Pair.{second_product, FarFrom, Close}
use Rattle.radius.specs.Steps.{number_bits, inverse}
use Rattle.box_muller.specs.Steps.{fraction_bits}
use Rattle.box_muller.specs.Sample.{samples_of}

-- "every 11-bit sample is less than 33/64 of a unit from the exact one, for all k and v after the half step"
abbrev pub thirty_three_sixty_fourths : Fraction
thirty_three_sixty_fourths = record { top = 33; bottom = 64; positive = omega arith }

-- "and name a k and v where a sample is proved more than 31/64 away"
abbrev pub thirty_one_sixty_fourths : Fraction
thirty_one_sixty_fourths = record { top = 31; bottom = 64; positive = omega arith }

abbrev pub far_k : ℕ
far_k = 357

abbrev pub far_v : ℕ
far_v = 0

-- the second sample there is more than 31/64 of a unit from every point of the second product's enclosure, of a radius at some fraction bits
abbrev pub Far : RadiusEnclosure (inverse far_k) → ℕ → Type 0
Far radius bits = FarFrom thirty_one_sixty_fourths fraction_bits (samples_of fraction_bits far_k far_v).second (second_product radius bits far_v)

pub record DataSheet : Type 0 where
  -- what the call returns for that k and v
  pub returned : samples_of fraction_bits far_k far_v ≡ record { code = 0; first = pos 0; second = pos 15159 }
  -- "a sample is proved more than 31/64 away"
  pub radius : RadiusEnclosure (inverse far_k)
  pub bits : ℕ
  pub far : Far radius bits
  -- so whatever figure holds for all k and v, by any enclosures, is more than 31/64
  pub least : (limit : Fraction)
      → ((k v : ℕ) → k < 2 ^ number_bits → v < 65536 → Close limit fraction_bits (inverse k) v (samples_of fraction_bits k v).first (samples_of fraction_bits k v).second)
      → thirty_one_sixty_fourths <ᶠ limit

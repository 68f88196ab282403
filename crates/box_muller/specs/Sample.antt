-- What the calls return (document 01, 'Angle and sample' and the table of refusals): the steps at the tables, for k of 48 bits,
-- at f fraction bits.
use Rattle.std.specs.Prelude.{cond, ℕ, ◌^◌, leb, ltb, ℤ, pos}
use Rattle.std.proofs.Common.{arith}
use Rattle.exact.specs.Fraction.{Fraction}
use Rattle.box_muller.specs.declared.Samples.{Samples}
use Rattle.radius.specs.Steps.{number_bits, radius_of}
use Rattle.angle.specs.Steps.{signed_of}
use Rattle.box_muller.specs.Steps.{rounded}

-- "The first sample takes the sine, the second the cosine."
unfoldable pub first_of : (f k v : ℕ) → ℤ
first_of f k v = rounded f (radius_of k) (signed_of v).0

unfoldable pub second_of : (f k v : ℕ) → ℤ
second_of f k v = rounded f (radius_of k) (signed_of v).1

-- refusals 2 and 3: samples 0 0
abbrev pub refused : ℕ → Samples
refused n = record { code = n; first = pos 0; second = pos 0 }

-- The answer for k and v: refused 2 for k of 2^48 or more, else 3 for v above 65535, else 0 and the two samples.
unfoldable pub samples_of : (f k v : ℕ) → Samples
samples_of f k v =
    cond (leb (2 ^ number_bits) k) (refused 2)
    (cond (ltb 65535 v) (refused 3) (record { code = 0; first = first_of f k v; second = second_of f k v }))

-- Demand 3: "I hold you to the nine sixteenths", of the exact pair of (2k + 1) over 2^49, k from 0, and v over 65536
abbrev pub nine_sixteenths : Fraction
nine_sixteenths = record { top = 9; bottom = 16; positive = omega arith }

-- "less than three quarters of 2^-13 from the exact one" (document 02, Job 8)
abbrev pub three_quarters : Fraction
three_quarters = record { top = 3; bottom = 4; positive = omega arith }

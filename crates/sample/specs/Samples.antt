-- The samples of some z = 65536 k + v, at f fraction bits.
use Rattle.std.specs.Prelude.{List, [], ◌∷◌, ℕ, ◌/◌, ◌%◌, ◌^◌, ◌<◌, ℤ}
use Rattle.exact.specs.Fraction.{Fraction}
use Rattle.exact.specs.Pair.{Close}
use Rattle.radius.specs.Steps.{number_bits, inverse}
use Rattle.box_muller.specs.Sample.{first_of, second_of}

-- The two samples of z.
abbrev pub first_at : (f z : ℕ) → ℤ
first_at f z = first_of f (z / 65536) (z % 65536)

abbrev pub second_at : (f z : ℕ) → ℤ
second_at f z = second_of f (z / 65536) (z % 65536)

-- The samples of some z, first and second alternating.
unfoldable pub samples_at : ℕ → List ℕ → List ℤ
samples_at f [] = []
samples_at f (z ∷ zs) = first_at f z ∷ second_at f z ∷ samples_at f zs

-- The samples at f fraction bits of every k and v that are accepted are closer to the exact pair than the limit, in units of 2^-f.
abbrev pub Within : Fraction → ℕ → Type 0
Within limit f = (k v : ℕ) → k < 2 ^ number_bits → v < 65536 → Close limit f (inverse k) v (first_of f k v) (second_of f k v)

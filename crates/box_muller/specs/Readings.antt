-- Readings 1 to 10 of document 01, 'Twelve readings to check', with the half step of document 02, Job 5: (k, v) to samples. (11 and 12
-- are of the streams.) proofs/Readings.antt proves them.
use Rattle.std.specs.Prelude.{◌≡◌, List, [], ◌∷◌, map, ℕ, ◌-◌, ◌^◌, ℤ, pos, neg_ℤ}
use Rattle.box_muller.specs.Steps.{fraction_bits, fraction_bits18}
use Rattle.box_muller.specs.Sample.{samples_of}

pub record Reading : Type 0 where
  pub k : ℕ
  pub v : ℕ
  pub first : ℤ
  pub second : ℤ

abbrev reading : ℕ → ℕ → ℤ → ℤ → Reading
reading k v a b = record { k = k; v = v; first = a; second = b }

abbrev pub readings : List Reading
readings =
    reading 1 0 (pos 0) (pos 16604)
    ∷ reading 1 16384 (pos 16604) (pos 0)
    ∷ reading 1 32768 (pos 0) (neg_ℤ (pos 16604))
    ∷ reading 1 49152 (neg_ℤ (pos 16604)) (pos 0)
    ∷ reading 0 0 (pos 0) (pos 16879)
    ∷ reading (2 ^ 47) 0 (pos 0) (pos 2411)
    ∷ reading (2 ^ 47) 8192 (pos 1705) (pos 1705)
    ∷ reading (2 ^ 46) 0 (pos 0) (pos 3410)
    ∷ reading (2 ^ 40) 24576 (pos 4823) (neg_ℤ (pos 4823))
    ∷ reading (2 ^ 48 - 1) 0 (pos 0) (pos 0)
    ∷ []

pub record Readings : Type 0 where
  -- each is accepted and gives its two samples
  pub hold : map (λ (r : Reading). samples_of fraction_bits r.k r.v) readings
      ≡ map (λ (r : Reading). record { code = 0; first = r.first; second = r.second }) readings
  -- the two pairs of document 01's example job: of a = b = 0x00202080 and of a = b = 0x02002C80, the draws of readings 11 and 12
  pub example_first : samples_of fraction_bits 137984213024 8320 ≡ record { code = 0; first = pos 5723; second = pos 5584 }
  pub example_second : samples_of fraction_bits 2199769842176 11392 ≡ record { code = 0; first = pos 5663; second = pos 2938 }
  -- reading 5 in 18 bits: the largest size (document 02, Job 8)
  pub farthest18 : samples_of fraction_bits18 0 0 ≡ record { code = 0; first = pos 0; second = pos 67517 }

-- What a buyer can rely on beyond the steps: proofs/Theorems.antt proves it.
use Rattle.std.specs.Prelude.{◌≡◌, ℕ, ◌+◌, ◌-◌, ◌*◌, ◌/◌, ◌%◌, ◌^◌, ◌≤◌, ◌<◌, pos, neg_ℤ, nat_abs}
use Rattle.radius.specs.Steps.{numerator, radius_limit}
use Rattle.angle.specs.Steps.{quarter_on}
use Rattle.box_muller.specs.declared.Samples.{Samples}
use Rattle.box_muller.specs.Steps.{fraction_bits, fraction_bits18}
use Rattle.box_muller.specs.Sample.{samples_of}

-- v half a turn on, mod 65536
abbrev pub opposite : ℕ → ℕ
opposite v = (v + 32768) % 65536

-- an answer with the second sample first, and then the first negated
abbrev pub turned_on : Samples → Samples
turned_on r = record { code = r.code; first = r.second; second = neg_ℤ r.first }

-- an answer with both samples negated
abbrev pub negated : Samples → Samples
negated r = record { code = r.code; first = neg_ℤ r.first; second = neg_ℤ r.second }

-- the largest size at f fraction bits, of the largest F and the sine or cosine 1
abbrev pub largest : ℕ → ℕ
largest f = ((radius_limit - 1) * 2 ^ 30 + 2 ^ (49 - f)) / 2 ^ (50 - f)

pub record Theorems : Type 0 where
  -- "for the same k, v a quarter turn on, mod 65536, gives the old second sample, then the old first negated" (document 02, Job 3)
  pub quarter_turn_lem : (f k v : ℕ) → f ≤ 49 → v < 65536 → samples_of f k (quarter_on v) ≡ turned_on (samples_of f k v)
  -- "a turn of half a circle" is "an exact change of sign" (document 01, 'Blunders that would look sound')
  pub half_turn : (f k v : ℕ) → f ≤ 49 → v < 65536 → samples_of f k (opposite v) ≡ negated (samples_of f k v)
  -- no sample's size is above the largest, which is 16879 in 16 bits and 67517 in 18
  pub sizes : (f k v : ℕ) → (nat_abs (samples_of f k v).first ≤ largest f) × (nat_abs (samples_of f k v).second ≤ largest f)
  pub largest_is : (largest fraction_bits ≡ 16879) × (largest fraction_bits18 ≡ 67517)
  -- and either sample meets both bounds
  pub highest : ((samples_of fraction_bits 0 16384).first ≡ pos 16879) × ((samples_of fraction_bits 0 0).second ≡ pos 16879)
  pub lowest : ((samples_of fraction_bits 0 49152).first ≡ neg_ℤ (pos 16879)) × ((samples_of fraction_bits 0 32768).second ≡ neg_ℤ (pos 16879))
  pub highest18 : ((samples_of fraction_bits18 0 16384).first ≡ pos 67517) × ((samples_of fraction_bits18 0 0).second ≡ pos 67517)
  pub lowest18 : ((samples_of fraction_bits18 0 49152).first ≡ neg_ℤ (pos 67517)) × ((samples_of fraction_bits18 0 32768).second ≡ neg_ℤ (pos 67517))
  -- "no cell is empty and the farthest one isn't hit twice": no two first numbers give the same 2k + 1
  pub cells_apart : (k k' : ℕ) → numerator k ≡ numerator k' → k ≡ k'

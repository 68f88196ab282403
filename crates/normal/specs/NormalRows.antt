-- How near the shares of the 2^64 inputs come to the probabilities of a normal number: proofs/Theorems.antt proves it. tools/normal.py works the rows out.
use Rattle.std.specs.Prelude.{◌≡◌, List, [], ◌∷◌, ℕ, ◌+◌, ◌-◌, ◌*◌, ◌≤◌}
use Rattle.std.proofs.Common.{arith}
use Rattle.exact.specs.Fraction.{Fraction, dyadic, ◌+ᶠ◌, ◌*ᶠ◌, ◌≤ᶠ◌}
use Rattle.box_muller.specs.Steps.{fraction_bits, fraction_bits18}
use Rattle.tails.specs.Counts.{first_beyond, second_beyond}
use Rattle.tail_rows.specs.Rows.{Every}
use Rattle.normal.specs.Probability.{AtMostTail, AtLeastTail}

-- n in 10^8
abbrev pub in_hundred_millions : ℕ → Fraction
in_hundred_millions n = record { top = n; bottom = 100_000_000; positive = omega arith }

-- the share of the 2^64 inputs
abbrev pub share_of : ℕ → Fraction
share_of n = dyadic 64 n

-- A normal number that is rounded to units of 2^-f has size s or more if its own size is s - 1/2 units or more.
abbrev pub half_unit_before : (f s : ℕ) → Fraction
half_unit_before f s = dyadic (f + 1) (2 * s - 1)

-- (1 - short) P(|X| ≥ x) ≤ share ≤ (1 + over) P(|X| ≥ x): the one by a fraction t that is at least the probability, the other by one that is at most it.
pub record NearTail (x share short over : Fraction) : Type 0 where
  pub least : (t : Fraction) × AtLeastTail x t × (t ≤ᶠ share +ᶠ short *ᶠ t)
  pub most : (t : Fraction) × AtMostTail x t × (share ≤ᶠ t +ᶠ over *ᶠ t)

-- A row: the share of inputs whose first sample has `size` units or more is short of a normal number's by at most `short`, and above it by at most `over`,
-- in 10^8 of it.
pub record Nearness : Type 0 where
  pub size : ℕ
  pub short : ℕ
  pub over : ℕ

abbrev near : ℕ → ℕ → ℕ → Nearness
near s a b = record { size = s; short = a; over = b }

abbrev pub Near : ℕ → Nearness → Type 0
Near f r = NearTail (half_unit_before f r.size) (share_of (first_beyond f r.size)) (in_hundred_millions r.short) (in_hundred_millions r.over)

-- The largest size, 8.2 σ, 8 σ, 7.5 σ, 7, 6, .. 1 σ, the quartile (0.6745 σ) and one unit, in samples of 16 bits and of 18.
abbrev pub nearness : List Nearness
nearness =
    near 16_879 86_680_783 0
    ∷ near 16_794 5_098_094 0
    ∷ near 16_384 2_647_515 0
    ∷ near 15_360 32_380 0
    ∷ near 14_336 1_695 0
    ∷ near 12_288 877 290
    ∷ near 10_240 732 246
    ∷ near 8_192 590 198
    ∷ near 6_144 450 151
    ∷ near 4_096 311 104
    ∷ near 2_048 174 58
    ∷ near 1_381 127 43
    ∷ near 1 325 165
    ∷ []

abbrev pub nearness18 : List Nearness
nearness18 =
    near 67_517 93_163_653 0
    ∷ near 67_175 5_140_111 0
    ∷ near 65_536 2_781_354 0
    ∷ near 61_440 29_847 0
    ∷ near 57_344 1_912 0
    ∷ near 49_152 878 292
    ∷ near 40_960 730 248
    ∷ near 32_768 592 197
    ∷ near 24_576 450 151
    ∷ near 16_384 312 104
    ∷ near 8_192 173 58
    ∷ near 5_525 127 43
    ∷ near 1 91 0
    ∷ []

pub record NormalTails : Type 0 where
  pub table : Every (Near fraction_bits) nearness
  pub table18 : Every (Near fraction_bits18) nearness18
  -- as many second samples have each size
  pub second : (f s : ℕ) → f ≤ 49 → second_beyond f s ≡ first_beyond f s
  -- "near" by some fraction t is near by every fraction: at most the probability, and at least it
  pub least : (x share short over t : Fraction) → short.top ≤ short.bottom → NearTail x share short over → AtMostTail x t → t ≤ᶠ share +ᶠ short *ᶠ t
  pub most : (x share short over t : Fraction) → NearTail x share short over → AtLeastTail x t → share ≤ᶠ t +ᶠ over *ᶠ t

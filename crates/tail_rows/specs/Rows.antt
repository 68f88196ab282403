-- How many of the 2^64 inputs give a first sample, of 16 bits, of some size or more: proofs/Table.antt proves it. As many give a second sample of that
-- size, by the symmetries of `tails`. tools/tails.py works the rows out.
use Rattle.std.specs.Prelude.{List, [], ◌∷◌, ℕ, ◌≤◌}
use Rattle.box_muller.specs.Steps.{fraction_bits}
use Rattle.tails.specs.Counts.{first_beyond}

-- A row: at least `low` and at most `high` inputs give a first sample of `size` units or more in size.
pub record Row : Type 0 where
  pub size : ℕ
  pub low : ℕ
  pub high : ℕ

abbrev pub row : ℕ → ℕ → ℕ → Row
row s a b = record { size = s; low = a; high = b }

abbrev pub Holds : ℕ → Row → Type 0
Holds f r = (r.low ≤ first_beyond f r.size) × (first_beyond f r.size ≤ r.high)

-- each member of a list
abbrev pub Every : {A : Type 0} → (A → Type 0) → List A → Type 0
Every P [] = Unit {0}
Every P (r ∷ rs) = P r × Every P rs

-- The largest size, 8.2 σ, 8 σ, 7.5 σ, 7, 6, .. 1 σ, the quartile (0.6745 σ) and one unit.
abbrev pub rows : List Row
rows =
    row 16_879 418 418
    ∷ row 16_794 4_210 4_210
    ∷ row 16_384 22_388 22_388
    ∷ row 15_360 1_179_044 1_179_060
    ∷ row 14_336 47_298_296 47_298_976
    ∷ row 12_288 36_453_106_840 36_453_531_974
    ∷ row 10_240 10_588_898_244_220 10_589_001_752_618
    ∷ row 8_192 1_169_661_712_553_626 1_169_670_921_474_042
    ∷ row 6_144 49_842_156_068_299_312 49_842_455_074_491_908
    ∷ row 4_096 839_815_538_078_753_226 839_819_022_022_145_226
    ∷ row 2_048 5_855_515_338_459_346_966 5_855_528_845_349_268_780
    ∷ row 1_381 9_228_255_622_822_063_580 9_228_271_226_600_695_622
    ∷ row 1 18_443_090_891_320_669_352 18_443_181_094_240_890_368
    ∷ []

pub record TailRows : Type 0 where
  pub table : Every (Holds fraction_bits) rows

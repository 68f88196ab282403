-- Distances known only between two readings (document 02, Job 14).
use Rattle.std.specs.Prelude.{◌≡◌, cond, List, [], ◌∷◌, map, ℕ, ◌≤◌, ℤ, ◌≤ℤ◌}
use Rattle.std.specs.Int.Signed.{non_neg}
use Rattle.exact.specs.Pair.{Enclosure}
use Rattle.noisy_shot.specs.Shots.{Shot}
use Rattle.sums.specs.Sums.{total, rounded, most_distance}
use Rattle.sums.specs.Exact.{Near}

-- a shot: its shortest and its longest distance in mm, and its bearing in steps
pub record Span : Type 0 where
  pub low : ℕ
  pub high : ℕ
  pub step : ℕ

-- "any choice between them": a distance for each shot
unfoldable pub Chosen : List Span → List Shot → Type 0
Chosen [] [] = Unit {0}
Chosen [] (s ∷ c) = ⊥
Chosen (p ∷ l) [] = ⊥
Chosen (p ∷ l) (s ∷ c) = (p.low ≤ s.distance) × (s.distance ≤ p.high) × (s.step ≡ p.step) × Chosen l c

-- the choice of the low distances: where low equals high, the only one
abbrev pub low_shot : Span → Shot
low_shot p = record { distance = p.low; step = p.step }

abbrev pub low_shots : List Span → List Shot
low_shots l = map low_shot l

-- the choices with the lowest and with the highest sum: where G is negative, the high distance gives the lowest product
abbrev pub least_shot : (ℕ → ℤ) → Span → Shot
least_shot G p = record { distance = cond (non_neg (G p.step)) p.low p.high; step = p.step }

abbrev pub greatest_shot : (ℕ → ℤ) → Span → Shot
greatest_shot G p = record { distance = cond (non_neg (G p.step)) p.high p.low; step = p.step }

-- "the lowest and highest east and north": G is `sine` for east and `cosine` for north
abbrev pub lowest_total : (ℕ → ℤ) → List Span → ℤ
lowest_total G l = total G (map (least_shot G) l)

abbrev pub highest_total : (ℕ → ℤ) → List Span → ℤ
highest_total G l = total G (map (greatest_shot G) l)

-- no low above its high, and no high above the limit
unfoldable pub Ranged : List Span → Type 0
Ranged [] = Unit {0}
Ranged (p ∷ l) = (p.low ≤ p.high) × (p.high ≤ most_distance) × Ranged l

-- low equals high throughout
unfoldable pub EqualReadings : List Span → Type 0
EqualReadings [] = Unit {0}
EqualReadings (p ∷ l) = (p.low ≡ p.high) × EqualReadings l

-- "each end is met by some choice", and, rounded, is less than 3 mm from every point of some enclosure of that choice's exact sum
pub record Met (G : ℕ → ℤ) (E : ℕ → ℕ → Enclosure) (l : List Span) (end mm : ℤ) : Type 0 where
  pub choice : List Shot
  pub chosen : Chosen l choice
  pub sum : total G choice ≡ end
  pub millimetres : rounded (total G choice) ≡ mm
  pub bits : ℕ
  pub near : Near 3 mm (E bits) choice

-- "Every choice lies between, and each end is met by some choice", before and after rounding
pub record Spans (G : ℕ → ℤ) (E : ℕ → ℕ → Enclosure) (l : List Span) (low high lowMm highMm : ℤ) : Type 0 where
  pub between : (c : List Shot) → Chosen l c
      → (low ≤ℤ total G c) × (total G c ≤ℤ high) × (lowMm ≤ℤ rounded (total G c)) × (rounded (total G c) ≤ℤ highMm)
  pub low_met : Met G E l low lowMm
  pub high_met : Met G E l high highMm

-- How far the rounded sums of a run are from the exact ones, by the run's length; and choices that are fractions of a millimetre (Job 14).
use Rattle.std.specs.Prelude.{◌≡◌, false, List, [], ◌∷◌, ℕ, ◌+◌, ◌*◌, ◌^◌, ℤ, pos}
use Rattle.std.proofs.Common.{mul-pos}
use Rattle.exact.specs.Fraction.{Fraction, ◌≤ᶠ◌, whole, dyadic}
use Rattle.exact.specs.Pair.{Enclosure}
use Rattle.sums.specs.Points.{Point, ◌≤ᵖ◌, ◌+ᵖ◌, whole_point, signed, lowest, highest}
use Rattle.noisy_shot.specs.Shots.{Shot}
use Rattle.sums.specs.Exact.{low_end, high_end, exact_sine, exact_cosine}
use Rattle.sums.specs.Spans.{Span}

-- the length of a run in mm
unfoldable pub distances : List Shot → ℕ
distances [] = 0
distances (s ∷ l) = s.distance + distances l

-- half a millimetre for the rounding, and 3 over 2^30 of a length: 1/2 + 3 L / 2^30
abbrev pub margin : ℕ → Fraction
margin length = dyadic 30 (2 ^ 29 + 3 * length)

-- r is at most ε from every point of an enclosure of the exact sum
unfoldable pub NearBy : Fraction → ℤ → (ℕ → Enclosure) → List Shot → Type 0
NearBy ε r E l = (x : Point) → low_end E l ≤ᵖ x → x ≤ᵖ high_end E l → (whole_point r ≤ᵖ x +ᵖ signed false ε) × (x ≤ᵖ whole_point r +ᵖ signed false ε)

-- east and north are each at most ε mm from every point of some enclosure of the exact sum
pub record CloseBy (ε : Fraction) (l : List Shot) (east north : ℤ) : Type 0 where
  pub bits : ℕ
  pub sines : NearBy ε east (exact_sine bits) l
  pub cosines : NearBy ε north (exact_cosine bits) l

-- ---- fractions of a millimetre

pub record FineShot : Type 0 where
  pub distance : Fraction
  pub step : ℕ

infixl 70 ◌×ᵖ◌
-- q times x
abbrev pub ◌×ᵖ◌ : Fraction → Point → Point
q ×ᵖ x = record {
  plus = q.top * x.plus;
  minus = q.top * x.minus;
  bottom = q.bottom * x.bottom;
  positive = mul-pos q.positive x.positive;
}

-- the sum of distance × P(step)
unfoldable pub fine_sum : (ℕ → Point) → List FineShot → Point
fine_sum P [] = whole_point (pos 0)
fine_sum P (s ∷ l) = s.distance ×ᵖ P s.step +ᵖ fine_sum P l

-- "any choice between them": a distance for each shot, whole millimetres or not
unfoldable pub FineChosen : List Span → List FineShot → Type 0
FineChosen [] [] = Unit {0}
FineChosen [] (s ∷ c) = ⊥
FineChosen (p ∷ l) [] = ⊥
FineChosen (p ∷ l) (s ∷ c) =
    (whole p.low ≤ᶠ s.distance) × (s.distance ≤ᶠ whole p.high) × (s.step ≡ p.step) × FineChosen l c

-- the longest that a run can be
unfoldable pub longest : List Span → ℕ
longest [] = 0
longest (p ∷ l) = p.high + longest l

-- every point of some enclosure of the exact sum of any such choice lies between the two rounded ends, widened by the margin
pub record FineSpans (E : ℕ → ℕ → Enclosure) (l : List Span) (lowMm highMm : ℤ) : Type 0 where
  pub bits : ℕ
  pub between : (c : List FineShot) → FineChosen l c → (x : Point)
      → fine_sum (λ v. lowest (E bits v)) c ≤ᵖ x → x ≤ᵖ fine_sum (λ v. highest (E bits v)) c
      → (whole_point lowMm ≤ᵖ x +ᵖ signed false (margin (longest l))) × (x ≤ᵖ whole_point highMm +ᵖ signed false (margin (longest l)))

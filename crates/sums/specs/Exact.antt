-- The exact sums, and how far from them the rounded ones are. Document 01, 'What "exact" means', and document 02, Job 13: "East and north, rounded,
-- are each less than 3 mm from the exact sums."
use Rattle.std.specs.Prelude.{List, [], ◌∷◌, ℕ, ℤ, pos}
use Rattle.exact.specs.Pair.{Enclosure, members}
use Rattle.sums.specs.Points.{Point, ◌≤ᵖ◌, ◌<ᵖ◌, ◌+ᵖ◌, ◌·ᵖ◌, whole_point, lowest, highest}
use Rattle.noisy_shot.specs.Shots.{Shot}

-- the sum of distance × P(step)
unfoldable pub sum_of : (ℕ → Point) → List Shot → Point
sum_of P [] = whole_point (pos 0)
sum_of P (s ∷ l) = s.distance ·ᵖ P s.step +ᵖ sum_of P l

-- the ends of an enclosure of the exact sum, from an enclosure of the sine or the cosine of each step
abbrev pub low_end : (ℕ → Enclosure) → List Shot → Point
low_end E l = sum_of (λ v. lowest (E v)) l

abbrev pub high_end : (ℕ → Enclosure) → List Shot → Point
high_end E l = sum_of (λ v. highest (E v)) l

-- the sine and the cosine of the exact rotation of a step, at n fraction bits
abbrev pub exact_sine : ℕ → ℕ → Enclosure
exact_sine n v = (members n v).0

abbrev pub exact_cosine : ℕ → ℕ → Enclosure
exact_cosine n v = (members n v).1

-- r is less than d from x
abbrev pub Within : ℕ → ℤ → Point → Type 0
Within d r x = (whole_point r <ᵖ x +ᵖ whole_point (pos d)) × (x <ᵖ whole_point r +ᵖ whole_point (pos d))

-- r is less than d from every point of an enclosure of the exact sum
unfoldable pub Near : ℕ → ℤ → (ℕ → Enclosure) → List Shot → Type 0
Near d r E l = (x : Point) → low_end E l ≤ᵖ x → x ≤ᵖ high_end E l → Within d r x

-- east and north are each less than d mm from every point of some enclosure of the exact sum
pub record Close (d : ℕ) (l : List Shot) (east north : ℤ) : Type 0 where
  pub bits : ℕ
  pub sines : Near d east (exact_sine bits) l
  pub cosines : Near d north (exact_cosine bits) l

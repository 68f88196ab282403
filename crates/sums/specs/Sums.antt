-- The sums of a run of shots (document 02, Job 13).
use Rattle.std.specs.Prelude.{List, [], ◌∷◌, ℕ, suc, ◌+◌, ◌/◌, ◌^◌, ◌≤◌, length, ℤ, pos, negsuc, neg_ℤ, ◌+ℤ◌, ◌*ℤ◌}
use Rattle.noisy_shot.specs.Shots.{Shot}
use Rattle.angle.specs.Steps.{signed_of}

-- "sine and .. cosine of the bearing at 2^30, using the rotations of document 01"
abbrev pub sine : ℕ → ℤ
sine v = (signed_of v).0

abbrev pub cosine : ℕ → ℤ
cosine v = (signed_of v).1

-- "rounded once to whole millimetres, halves away from zero"
abbrev pub rounded : ℤ → ℤ
rounded (pos n) = pos ((n + 2 ^ 29) / 2 ^ 30)
rounded (negsuc n) = neg_ℤ (pos ((suc n + 2 ^ 29) / 2 ^ 30))

-- "distance × sine and distance × cosine": G is `sine` for east and `cosine` for north
abbrev pub product : (ℕ → ℤ) → Shot → ℤ
product G s = pos s.distance *ℤ G s.step

-- "Add" them
unfoldable pub total : (ℕ → ℤ) → List Shot → ℤ
total G [] = pos 0
total G (s ∷ l) = product G s +ℤ total G l

-- "up to 500 shots"
abbrev pub most_shots : ℕ
most_shots = 500

-- "Distances are at most 1,008,242 mm, which the half step can reach."
abbrev pub most_distance : ℕ
most_distance = 1008242

unfoldable pub Bounded : List Shot → Type 0
Bounded [] = Unit {0}
Bounded (s ∷ l) = (s.distance ≤ most_distance) × Bounded l

-- a run that a listing may hold; the sums of steps above 65535 are defined too, and as close
abbrev pub Allowed : List Shot → Type 0
Allowed l = (length l ≤ most_shots) × Bounded l

-- Shots that follow each other (document 02, Job 13).
use Rattle.std.specs.Prelude.{ℕ, ◌≡◌, Bool, true, cond, ◌||◌, List, [], ◌∷◌}
use Rattle.text.specs.Fields.{same}
use Rattle.text.specs.Forms.{is_empty}
use Rattle.job_lines.specs.Forms.{Form, seeds, sigma, shot, no_form}

-- "each starting at the station where the one before ended"; before the first shot there is none, which no name is: []
unfoldable pub follows : List ℕ → List ℕ → Bool
follows station from = is_empty station || same station from

-- "23: a shot that doesn't start at the last station", else 0
unfoldable pub station_code : List ℕ → List ℕ → ℕ
station_code station from = cond (follows station from) 0 23

-- the shots of a job follow each other
unfoldable pub Following : List ℕ → List Form → Type 0
Following station [] = Unit {0}
Following station (shot from to d b ∷ xs) = (follows station from ≡ true) × Following to xs
Following station (seeds a0 a1 a2 b0 b1 b2 ∷ xs) = Following station xs
Following station (sigma d b ∷ xs) = Following station xs
Following station (no_form ∷ xs) = Following station xs

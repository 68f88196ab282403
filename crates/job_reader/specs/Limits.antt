-- The limits of a job (document 01, "A job and its listing"); src/limits.rt has the same.
use Rattle.std.specs.Prelude.{ℕ, ◌+◌, ◌-◌}
use Rattle.noisy_shot.specs.Rounding.{turn_steps}

-- "A job is text of at most" so many bytes
abbrev pub most_bytes : ℕ
most_bytes = 60000

-- the shots of a job
abbrev pub most_shots : ℕ
most_shots = 500

-- the line of the last shot, after the seeds and the sigmas
abbrev pub last_line : ℕ
last_line = most_shots + 2

-- "a seed is at most"
abbrev pub most_seed : ℕ
most_seed = 4294967295

-- "distance in mm and bearing in steps": the most of each sigma
abbrev pub most_sigma : ℕ
most_sigma = 1000

-- in mm
abbrev pub most_distance : ℕ
most_distance = 1000000

-- in steps, one less than a turn has
abbrev pub most_bearing : ℕ
most_bearing = turn_steps - 1

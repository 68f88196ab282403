-- The limits of a leg (document 02, Job 12); src/lib.rt has the same.
use Rattle.std.specs.Prelude.{ℕ, ◌*◌, ◌^◌}

-- "1 to 4 digits"
abbrev pub whole_digits : ℕ
whole_digits = 4

-- "at most 3 decimals", "at most 2 decimals"
abbrev pub tape_decimals : ℕ
tape_decimals = 3

abbrev pub compass_decimals : ℕ
compass_decimals = 2

-- "up to 1000" metres, in mm
abbrev pub most_tape : ℕ
most_tape = 1000 * 10 ^ tape_decimals

-- "0 to 360" degrees, in hundredths
abbrev pub compass_turn : ℕ
compass_turn = 360 * 10 ^ compass_decimals

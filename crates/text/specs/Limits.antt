-- The limits of fields.
use Rattle.std.specs.Prelude.{ℕ, ◌^◌}

-- "Names are 1 to 12 letters or digits"
abbrev pub name_length : ℕ
name_length = 12

-- "Numbers are 1 to 10 digits"
abbrev pub most_digits : ℕ
most_digits = 10

-- numbers below this have a digit string
abbrev pub decimal_bound : ℕ
decimal_bound = 10 ^ most_digits

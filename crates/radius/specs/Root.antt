-- The whole part of the square root of x, digit by digit, and what a guess at it is.
use Rattle.std.specs.Prelude.{ℕ, ◌+◌, ◌≤◌}
use Rattle.exact.specs.Root.{root_digits}

-- Its law is `whole_root_lem`.
unfoldable pub whole_root : ℕ → ℕ
whole_root x = root_digits x x

-- r is the root of x or one less; which of them, is left to the program.
pub record NearRoot (x r : ℕ) : Type 0 where
  pub low : r ≤ whole_root x
  pub high : whole_root x ≤ r + 1

-- How large sums can be.
use Rattle.std.specs.Prelude.{ℕ, ◌*◌, ◌^◌, ◌≤◌, nat_abs}
use Rattle.sums.specs.Sums.{most_distance}
use Rattle.misclosure.specs.declared.Ends.{Ends}

-- two sums of so many shots
abbrev pub SumsOf : ℕ → Ends → Type 0
SumsOf n e = (nat_abs e.low ≤ n * (most_distance * 2 ^ 30)) × (nat_abs e.high ≤ n * (most_distance * 2 ^ 30))

-- Room for the pairs of many plays (document 02, number 13: "the count would pass 2^64 - 1").
use Rattle.std.specs.Prelude.{ℕ, ◌*◌, Bool, cond, leb}
use Rattle.streams.specs.Streams.{most_count}

abbrev pub has_room : ℕ → ℕ → Bool
has_room plays shots = leb (plays * shots) most_count

-- 13 where the pairs of so many plays pass the most that a record counts, else 0
abbrev pub room_of : ℕ → ℕ → ℕ
room_of plays shots = cond (has_room plays shots) 0 13

-- The room of a shot line that is written.
use Rattle.std.specs.Prelude.{ℕ}

-- the bytes of the longest: two names of 12, a distance of 7 digits, a bearing of 5, and what stands between
abbrev pub shot_room : ℕ
shot_room = 47

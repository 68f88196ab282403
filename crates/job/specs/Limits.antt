-- The limits of a listing; src/limits.rt has the same.
use Rattle.std.specs.Prelude.{ℕ, ◌+◌, ◌*◌}
use Rattle.job_reader.specs.Limits.{most_shots}
use Rattle.listing_rows.specs.Rows.{row_room}

-- the most bytes of a listing: the header, a row for each shot, and the last row
abbrev pub longest_listing : ℕ
longest_listing = 16 + row_room * most_shots + 8

-- the bytes of the listing program's buffer
abbrev pub listing_room : ℕ
listing_room = 20480

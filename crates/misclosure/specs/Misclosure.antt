-- How far the loop misses, from a listing's bytes (document 02, Job 13), and how far at least and at most where distances are known only between two
-- readings (Job 14).
use Rattle.std.specs.Prelude.{ℕ, ◌+◌, ◌-◌, Bool, true, false, cond, ◌||◌, List, [], ◌∷◌, ltb, eqb, ℤ, pos}
use Rattle.text.specs.Scan.{lines}
use Rattle.noisy_shot.specs.Rounding.{turn_steps}
use Rattle.job_lines.specs.Links.{station_code}
use Rattle.listing_rows.specs.Entries.{is_header, Said, leg, last, neither, read_entry}
use Rattle.sums.specs.Sums.{sine, cosine, total, rounded, most_shots, most_distance}
use Rattle.sums.specs.Spans.{Span, low_shots, lowest_total, highest_total}
use Rattle.misclosure.specs.declared.Miss.{Miss}
use Rattle.misclosure.specs.declared.IntervalSums.{IntervalSums}
use Rattle.misclosure.specs.declared.Ends.{Ends}

-- the line of the 500th shot: the header is line 1
abbrev pub last_line : ℕ
last_line = most_shots + 1

-- "a step above 65535"
abbrev pub most_step : ℕ
most_step = turn_steps - 1

-- "24: a 501st shot, a distance too large or a step above 65535"; it "tests both" distances
unfoldable pub beyond : ℕ → ℕ → ℕ → ℕ → Bool
beyond k low high step = ltb last_line k || (ltb most_distance low || (ltb most_distance high || ltb most_step step))

-- the refusal code of line k, "6, 24, 23", or 0 where it is accepted: a line that says neither, a false count (the shots are the lines before but the
-- header), a shot beyond its limits, "a shot that doesn't start at the last station"; "25: low above high; after 24 .. and before 23"
unfoldable pub refusal : ℕ → List ℕ → Said → ℕ
refusal k station (leg from to low high step) = cond (beyond k low high step) 24 (cond (ltb high low) 25 (station_code station from))
refusal k station (last count) = cond (eqb count (k - 2)) 0 6
refusal k station neither = 6

-- A listing is refused with a code and a line, or gives its shots
pub data Outcome : Type 0 where
  refused : ℕ → ℕ → Outcome
  accepted : List Span → Outcome

abbrev pub onto : Span → Outcome → Outcome
onto s (refused code line) = refused code line
onto s (accepted l) = accepted (s ∷ l)

unfoldable pub no_lines : List (List ℕ) → Bool
no_lines [] = true
no_lines (l ∷ ls) = false

-- the station that a line leads to
abbrev pub station_after : Said → List ℕ
station_after (leg from to low high step) = to
station_after (last count) = []
station_after neither = []

-- what an accepted line k leads to: its shot and the rest, or the end, which nothing follows
abbrev pub onward : ℕ → Said → List (List ℕ) → Outcome → Outcome
onward k (leg from to low high step) ls rest = onto (record { low = low; high = high; step = step }) rest
onward k (last count) ls rest = cond (no_lines ls) (accepted []) (refused 6 (k + 1))
onward k neither ls rest = refused 6 k

-- The lines from line k on, after a station, of either kind of listing. "a missing one" is told at the next line
unfoldable pub outcome : Bool → ℕ → List ℕ → List (List ℕ) → Outcome
outcome between k station [] = refused 6 k
outcome between k station (l ∷ ls) =
    cond (eqb (refusal k station (read_entry between l)) 0)
    (onward k (read_entry between l) ls (outcome between (k + 1) (station_after (read_entry between l)) ls))
    (refused (refusal k station (read_entry between l)) k)

-- the header of its kind first
unfoldable pub headed : Bool → List (List ℕ) → Outcome
headed between [] = refused 6 1
headed between (l ∷ ls) = cond (is_header between l) (outcome between 2 [] ls) (refused 6 1)

unfoldable pub listing_of : Bool → List ℕ → Outcome
listing_of between text = headed between (lines text)

-- Job 13's answer: "return each sum both so and rounded once"; refused, "line told as in a job, sums 0". A shot's one distance is its low and its high
unfoldable pub miss_of : Outcome → Miss
miss_of (refused code line) = record { code = code; line = line; east = pos 0; north = pos 0; easting = pos 0; northing = pos 0 }
miss_of (accepted l) = record {
  code = 0;
  line = 0;
  east = total sine (low_shots l);
  north = total cosine (low_shots l);
  easting = rounded (total sine (low_shots l));
  northing = rounded (total cosine (low_shots l));
}

-- Job 14's answer: "the lowest and highest east and north miss that any choice between them can give, before and after rounding"
abbrev pub both_ends : ℤ → Ends
both_ends z = record { low = z; high = z }

abbrev pub ends_of : (ℕ → ℤ) → List Span → Ends
ends_of G l = record { low = lowest_total G l; high = highest_total G l }

abbrev pub rounded_ends : Ends → Ends
rounded_ends e = record { low = rounded e.low; high = rounded e.high }

unfoldable pub intervals_of : Outcome → IntervalSums
intervals_of (refused code line) = record {
  code = code;
  line = line;
  east = both_ends (pos 0);
  north = both_ends (pos 0);
  easting = both_ends (pos 0);
  northing = both_ends (pos 0);
}
intervals_of (accepted l) = record {
  code = 0;
  line = 0;
  east = ends_of sine l;
  north = ends_of cosine l;
  easting = rounded_ends (ends_of sine l);
  northing = rounded_ends (ends_of cosine l);
}

-- Which of the two a listing is for is told by its header
unfoldable pub headed_between : List (List ℕ) → Bool
headed_between [] = false
headed_between (l ∷ ls) = is_header true l

unfoldable pub is_between : List ℕ → Bool
is_between text = headed_between (lines text)

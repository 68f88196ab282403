-- What the definitions of a listing's sums say, as theorems: the record below has a proof in proofs/Theorems.antt.
use Rattle.std.specs.Prelude.{ℕ, ◌+◌, ◌-◌, ◌*◌, ◌≤◌, ◌<◌, ◌≡◌, Bool, true, false, List, [], ◌∷◌, ◌++◌, map, ◌↔◌, pos, ◌+ℤ◌, length}
use Rattle.text.specs.Limits.{decimal_bound}
use Rattle.text.specs.Fields.{name}
use Rattle.text.specs.Scan.{lines}
use Rattle.listing_rows.specs.Rows.{end_row, header_of, row_of}
use Rattle.listing_rows.specs.Entries.{is_header, leg, last, neither, read_entry}
use Rattle.noisy_shot.specs.Shots.{Shot}
use Rattle.sums.specs.Sums.{sine, cosine, total, rounded, most_shots, most_distance}
use Rattle.sums.specs.Exact.{exact_sine, exact_cosine, Close}
use Rattle.sums.specs.Spans.{Span, Chosen, low_shots, Spans}
use Rattle.sums.specs.Margin.{distances, margin, CloseBy, FineSpans}
use Rattle.job_lines.specs.Links.{follows}
use Rattle.misclosure.specs.Misclosure.{most_step, refusal, refused, accepted, listing_of, miss_of, both_ends, intervals_of}
use Rattle.misclosure.specs.declared.Miss.{Miss}
use Rattle.misclosure.specs.declared.IntervalSums.{IntervalSums}
use Rattle.misclosure.specs.declared.Ends.{Ends}

-- a shot of a listing with its stations; where one distance is given, it is low and high
pub record Row : Type 0 where
  pub from : List ℕ
  pub to : List ℕ
  pub low : ℕ
  pub high : ℕ
  pub step : ℕ

abbrev pub span_in : Row → Span
span_in r = record { low = r.low; high = r.high; step = r.step }

abbrev pub spans_in : List Row → List Span
spans_in rows = map span_in rows

-- the row of each kind of listing
abbrev pub row_text : Bool → Row → List ℕ
row_text between r = row_of between r.from r.to r.low r.high r.step

unfoldable pub rows_text : Bool → List Row → List ℕ
rows_text between [] = []
rows_text between (r ∷ rows) = row_text between r ++ rows_text between rows

-- the listing of these shots: the header, a row each, and their count
unfoldable pub text_of : Bool → List Row → List ℕ
text_of between rows = header_of between ++ (rows_text between rows ++ end_row (length rows))

-- one distance is both, two are in order
abbrev pub Ordered : Bool → ℕ → ℕ → Type 0
Ordered false low high = low ≡ high
Ordered true low high = low ≤ high

-- names and numbers in their ranges, and a start at the station given
pub record LinkedRow (between : Bool) (station : List ℕ) (r : Row) : Type 0 where
  pub from : name r.from ≡ true
  pub to : name r.to ≡ true
  pub far : r.high ≤ most_distance
  pub order : Ordered between r.low r.high
  pub turn : r.step ≤ most_step
  pub next : follows station r.from ≡ true

-- each shot starts where the one before ended, the first at the station given
unfoldable pub Linked : Bool → List ℕ → List Row → Type 0
Linked between station [] = Unit {0}
Linked between station (r ∷ rows) = LinkedRow between station r × Linked between r.to rows

-- names and numbers of their form, and low equals high: shots that either kind of listing can hold, whether or not it is accepted
unfoldable pub EqualRows : List Row → Type 0
EqualRows [] = Unit {0}
EqualRows (r ∷ rows) =
    (name r.from ≡ true) × (name r.to ≡ true) × (r.low < decimal_bound) × (r.step < decimal_bound) × (r.low ≡ r.high) × EqualRows rows

-- two listings, the first of one distance a shot, the second of two, that say the same line by line, whatever each line says: low equals high in each
-- shot, and where a line of one is no shot and no end (6), so is the other's; the headers are both right or both wrong
unfoldable pub SayAlike : List (List ℕ) → List (List ℕ) → Type 0
SayAlike [] [] = Unit {0}
SayAlike [] (m ∷ ms) = ⊥
SayAlike (l ∷ ls) [] = ⊥
SayAlike (l ∷ ls) (m ∷ ms) = (read_entry false l ≡ read_entry true m) × SayAlike ls ms

unfoldable pub ListAlike : List (List ℕ) → List (List ℕ) → Type 0
ListAlike [] [] = Unit {0}
ListAlike [] (m ∷ ms) = ⊥
ListAlike (l ∷ ls) [] = ⊥
ListAlike (l ∷ ls) (m ∷ ms) = (is_header false l ≡ is_header true m) × SayAlike ls ms

-- the same shots, each with the distance that was chosen for it
unfoldable pub chosen_rows : List Row → List Shot → List Row
chosen_rows [] c = []
chosen_rows (r ∷ rows) [] = []
chosen_rows (r ∷ rows) (s ∷ c) =
    record { from = r.from; to = r.to; low = s.distance; high = s.distance; step = r.step } ∷ chosen_rows rows c

-- the station after these shots: where the last of them ended
unfoldable pub station_of : List ℕ → List Row → List ℕ
station_of station [] = station
station_of station (r ∷ rows) = station_of r.to rows

-- a listing of these lines after the header: accepted shots, and then others
pub record Begins (between : Bool) (text : List ℕ) (rows : List Row) (ls : List (List ℕ)) : Type 0 where
  pub linked : Linked between [] rows
  pub few : length rows ≤ 500
  pub begins : lines text ≡ header_of between ∷ (map (row_text between) rows ++ ls)

-- the most bytes of a shot's row, and of an accepted listing: the header, a row for each shot, and the last row
unfoldable pub longest_row : Bool → ℕ
longest_row false = 40
longest_row true = 48

unfoldable pub longest_listing : Bool → ℕ
longest_listing false = 16 + 40 * most_shots + 8
longest_listing true = 22 + 48 * most_shots + 8

-- the answers for the listings of these shots
abbrev pub miss_in : List Row → Miss
miss_in rows = miss_of (listing_of false (text_of false rows))

abbrev pub intervals_in : List Row → IntervalSums
intervals_in rows = intervals_of (listing_of true (text_of true rows))

-- an answer of Job 13 as one of Job 14: each sum is the lowest and the highest
abbrev pub as_intervals : Miss → IntervalSums
as_intervals m = record {
  code = m.code;
  line = m.line;
  east = both_ends m.east;
  north = both_ends m.north;
  easting = both_ends m.easting;
  northing = both_ends m.northing;
}

-- the sums of two runs, end by end
infixl 60 ◌+ᵉ◌
abbrev pub ◌+ᵉ◌ : Ends → Ends → Ends
x +ᵉ y = record { low = x.low +ℤ y.low; high = x.high +ℤ y.high }

-- line k of a listing says a shot, after a station
module _ (k : ℕ) (station from to : List ℕ) (low high step : ℕ) where
  -- within its limits: at most 500 shots, the header being line 1, 1,008,242 mm and 65,535 steps
  abbrev pub WithinLimits : Type 0
  WithinLimits = (k ≤ 501) × (low ≤ 1008242) × (high ≤ 1008242) × (step ≤ 65535)

  -- "24 .. tests both", "25 .. after 24 .. and before 23": each just where its cause holds and none before it does, and 0 where none does
  pub record ShotCodes (code : ℕ) : Type 0 where
    pub just_24 : (code ≡ 24) ↔ (WithinLimits → ⊥)
    pub just_25 : (code ≡ 25) ↔ (WithinLimits × (high < low))
    pub just_23 : (code ≡ 23) ↔ (WithinLimits × (low ≤ high) × (follows station from ≡ false))
    pub just_0 : (code ≡ 0) ↔ (WithinLimits × (low ≤ high) × (follows station from ≡ true))

pub record Theorems : Type 0 where
  -- the codes of a shot's line; 6 is that of an end with a false count and of a line that is neither
  pub shot_codes : (k : ℕ) (station from to : List ℕ) (low high step : ℕ) → ShotCodes k station from to low high step (refusal k station (leg from to low high step))
  pub end_code : (k : ℕ) (station : List ℕ) (count : ℕ)
      → ((refusal k station (last count) ≡ 6) ↔ (count ≡ k - 2 → ⊥)) × ((refusal k station (last count) ≡ 0) ↔ (count ≡ k - 2))
  pub neither_code : (k : ℕ) (station : List ℕ) → refusal k station neither ≡ 6
  -- a listing of either kind is accepted just where it is that of at most 500 such shots
  pub accepted_listing : (between : Bool) (rows : List Row) → Linked between [] rows → length rows ≤ most_shots
      → listing_of between (text_of between rows) ≡ accepted (spans_in rows)
  pub listing_accepted : (between : Bool) (text : List ℕ) (l : List Span) → listing_of between text ≡ accepted l
      → (rows : List Row) × Linked between [] rows × (length rows ≤ most_shots) × (text_of between rows ≡ text) × (spans_in rows ≡ l)
  -- "the first bad line decides": after accepted shots, the first line that is refused gives code and line; the header is line 1
  pub first_bad_lem : (between : Bool) (text l : List ℕ) (rows : List Row) (ls : List (List ℕ)) → Begins between text rows (l ∷ ls)
      → (refusal (2 + length rows) (station_of [] rows) (read_entry between l) ≡ 0 → ⊥)
      → listing_of between text ≡ refused (refusal (2 + length rows) (station_of [] rows) (read_entry between l)) (2 + length rows)
  -- "a missing one .. gets 6", at the next line; so does a line after END, at its own
  pub missing_line : (between : Bool) (text : List ℕ) (rows : List Row) → Begins between text rows [] → listing_of between text ≡ refused 6 (2 + length rows)
  pub line_after : (between : Bool) (text l : List ℕ) (rows : List Row) (ls : List (List ℕ)) → Begins between text rows (end_row (length rows) ∷ l ∷ ls)
      → listing_of between text ≡ refused 6 (3 + length rows)
  -- so does a text without its header, at line 1
  pub no_text : (between : Bool) → listing_of between [] ≡ refused 6 1
  pub no_header : (between : Bool) (text l : List ℕ) (ls : List (List ℕ)) → lines text ≡ l ∷ ls → (l ≡ header_of between → ⊥)
      → listing_of between text ≡ refused 6 1
  -- an accepted listing has at most so many bytes
  pub longest : (between : Bool) (text : List ℕ) (l : List Span) → listing_of between text ≡ accepted l → length text ≤ longest_listing between
  -- "East and north, rounded, are each less than 3 mm from the exact sums"; and even less than 2
  pub close : (text : List ℕ) (l : List Span) → listing_of false text ≡ accepted l
      → Close 3 (low_shots l) (miss_of (listing_of false text)).easting (miss_of (listing_of false text)).northing
      × Close 2 (low_shots l) (miss_of (listing_of false text)).easting (miss_of (listing_of false text)).northing
  -- and at most 1/2 + 3 L / 2^30 mm, L the run's length in mm
  pub within_margin : (text : List ℕ) (l : List Span) → listing_of false text ≡ accepted l
      → CloseBy (margin (distances (low_shots l))) (low_shots l) (miss_of (listing_of false text)).easting (miss_of (listing_of false text)).northing
  -- "No shots give 0 and 0."
  pub no_shots : miss_in [] ≡ record { code = 0; line = 0; east = pos 0; north = pos 0; easting = pos 0; northing = pos 0 }
  -- "Where a run of shots joined to a second is accepted, it adds up, before rounding, to the two sums added."
  pub joined : (first second : List Row) → Linked false [] (first ++ second) → length (first ++ second) ≤ most_shots
      → ((miss_in (first ++ second)).east ≡ (miss_in first).east +ℤ (miss_in second).east)
      × ((miss_in (first ++ second)).north ≡ (miss_in first).north +ℤ (miss_in second).north)
  -- Job 14: "Every choice lies between, and each end is met by some choice", and each end, rounded, is less than 3 mm from that choice's exact sum
  pub spans : (text : List ℕ) (l : List Span) → listing_of true text ≡ accepted l
      → Spans sine exact_sine l (intervals_of (listing_of true text)).east.low (intervals_of (listing_of true text)).east.high
      (intervals_of (listing_of true text)).easting.low (intervals_of (listing_of true text)).easting.high
      × Spans cosine exact_cosine l (intervals_of (listing_of true text)).north.low (intervals_of (listing_of true text)).north.high
      (intervals_of (listing_of true text)).northing.low (intervals_of (listing_of true text)).northing.high
  -- the exact sum of any choice, fractions of a millimetre among them, lies between the ends, widened by 1/2 + 3 L / 2^30 mm, L the longest that the
  -- run can be
  pub fine_spans : (text : List ℕ) (l : List Span) → listing_of true text ≡ accepted l
      → FineSpans exact_sine l (intervals_of (listing_of true text)).easting.low (intervals_of (listing_of true text)).easting.high
      × FineSpans exact_cosine l (intervals_of (listing_of true text)).northing.low (intervals_of (listing_of true text)).northing.high
  -- the sums of a choice are those of Job 13's listing with the distances chosen
  pub choice : (rows : List Row) (c : List Shot) → Linked true [] rows → length rows ≤ most_shots → Chosen (spans_in rows) c
      → miss_in (chosen_rows rows c) ≡ record {
        code = 0;
        line = 0;
        east = total sine c;
        north = total cosine c;
        easting = rounded (total sine c);
        northing = rounded (total cosine c);
      }
  -- "Where low equals high throughout, it is Job 13's result": code and line too, where it is refused
  pub equal_readings : (rows : List Row) → EqualRows rows → intervals_in rows ≡ as_intervals (miss_in rows)
  -- and where it is no listing of any shots: code (6 among them) and line, sums 0
  pub equal_lines : (one two : List ℕ) → ListAlike (lines one) (lines two) → intervals_of (listing_of true two) ≡ as_intervals (miss_of (listing_of false one))
  -- joined runs
  pub intervals_joined : (first second : List Row) → Linked true [] (first ++ second) → length (first ++ second) ≤ most_shots
      → ((intervals_in (first ++ second)).east ≡ (intervals_in first).east +ᵉ (intervals_in second).east)
      × ((intervals_in (first ++ second)).north ≡ (intervals_in first).north +ᵉ (intervals_in second).north)

-- For private functions; no public contract cites these.
use Rattle.std.specs.Prelude.{ℕ, ◌+◌, ◌-◌, ◌^◌, ◌≤◌, ◌<◌, ◌≡◌, Bool, cond, List, [], ◌∷◌, ℤ, pos, nat_abs, ◌+ℤ◌, ◌*ℤ◌, Option, Some, None, Result, Ok, Err, IfOk}
use Rattle.std.specs.Int.Signed.{non_neg}
use Rattle.text.specs.Fields.{part_of}
use Rattle.listing_rows.specs.Entries.{Said, leg, last, neither}
use Rattle.listing_rows.specs.declared.read.Span.{Span as SpanFields}
use Rattle.sums.specs.Sums.{sine, cosine, most_distance}
use Rattle.sums.specs.Spans.{Span}
use Rattle.misclosure.specs.Misclosure.{last_line, most_step, refusal, Outcome, refused, accepted, onto, outcome, both_ends, ends_of}
use Rattle.misclosure.specs.Sizes.{SumsOf}
use Rattle.misclosure.specs.declared.state.State.{State}
use Rattle.misclosure.specs.declared.Ends.{Ends}
use Rattle.misclosure.specs.declared.entry.Cause.{Cause}
use Rattle.misclosure.specs.declared.entry.Cause.TheVariants.{Misplaced, NotFollowing, BeyondLimit, LowAboveHigh}
use Rattle.misclosure.specs.declared.state.Totals.{Totals}
use Rattle.misclosure.specs.declared.walk.BadLine.{BadLine}

-- ---- What a line does to the state

-- two sums that leave room for one shot more
abbrev pub SmallEnds : Ends → Type 0
SmallEnds e = (nat_abs e.low < 2 ^ 62) × (nat_abs e.high < 2 ^ 62)

-- a shot within its limits
pub record Limited (k : ℕ) (x : SpanFields) : Type 0 where
  pub few : k ≤ last_line
  pub low : x.low ≤ most_distance
  pub high : x.high ≤ most_distance
  pub step : x.step ≤ most_step

-- the documents' number of a cause
abbrev pub number_of : Cause → ℕ
number_of Misplaced = 6
number_of NotFollowing = 23
number_of BeyondLimit = 24
number_of LowAboveHigh = 25

-- the code of an answer
abbrev pub code_in : {A : Type 0} → Result A Cause → ℕ
code_in (Ok x) = 0
code_in (Err cause) = number_of cause

-- two sums with the least and the greatest product of a shot by a factor added
abbrev pub widened_by : ℤ → ℕ → ℕ → Ends → Ends
widened_by g low high e = record { low = e.low +ℤ pos (cond (non_neg g) low high) *ℤ g; high = e.high +ℤ pos (cond (non_neg g) high low) *ℤ g }

-- the state after a shot: one line on, at its station, with its products added
pub record Led (to : List ℕ) (low high step : ℕ) (s t : State) : Type 0 where
  pub line : t.line ≡ s.line + 1
  pub station : t.station.now ≡ to
  pub east : t.east ≡ widened_by (sine step) low high s.east
  pub north : t.north ≡ widened_by (cosine step) low high s.north

-- the same, of a shot in a line
abbrev pub Moved : List ℕ → SpanFields → State → State → Type 0
Moved line x s t = Led (part_of line x.to) x.low x.high x.step s t

abbrev pub shot_said : List ℕ → SpanFields → Said
shot_said line x = leg (part_of line x.from) (part_of line x.to) x.low x.high x.step

-- where an accepted line leads: a shot to a state, and the end to none
abbrev pub Leads : Said → State → Option State → Type 0
Leads (leg from to low high step) s (Some t) = Led to low high step s t
Leads (leg from to low high step) s None = ⊥
Leads (last count) s (Some t) = ⊥
Leads (last count) s None = Unit {0}
Leads neither s t = ⊥

-- a line that says x
pub record Takes (line : List ℕ) (s : State) (x : Said) (r : Result (Option State) Cause) : Type 0 where
  pub code : code_in r ≡ refusal s.line s.station.now x
  pub next : IfOk r (Leads x s)

-- ---- A listing half way and at its end

unfoldable pub onto_all : List Span → Outcome → Outcome
onto_all [] o = o
onto_all (p ∷ l) o = onto p (onto_all l o)

-- of all lines after the header those before the ones that are left are accepted: the shots that they gave, their sums, and what the lines ahead add
pub record Going (between : Bool) (all rest : List (List ℕ)) (line : ℕ) (station : List ℕ) (east north : Ends) : Type 0 where
  pub done : List Span
  pub after_header : 2 ≤ line
  pub few : line ≤ last_line + 1
  pub sizes : SumsOf (line - 2) east × SumsOf (line - 2) north
  pub sines : east ≡ ends_of sine done
  pub cosines : north ≡ ends_of cosine done
  pub so_far : outcome between 2 [] all ≡ onto_all done (outcome between line station rest)

-- the answer but for the rounding
pub record Sums : Type 0 where
  pub code : ℕ
  pub line : ℕ
  pub east : Ends
  pub north : Ends

abbrev pub refused_sums : ℕ → ℕ → Sums
refused_sums code line = record { code = code; line = line; east = both_ends (pos 0); north = both_ends (pos 0) }

-- after the end: nothing follows, or one line more
abbrev pub end_sums : State → List (List ℕ) → Sums
end_sums s [] = record { code = 0; line = 0; east = s.east; north = s.north }
end_sums s (l ∷ rest) = refused_sums 6 (s.line + 1)

abbrev pub sums_of : Outcome → Sums
sums_of (refused code line) = refused_sums code line
sums_of (accepted l) = record { code = 0; line = 0; east = ends_of sine l; north = ends_of cosine l }

-- what is returned says
abbrev pub sums_in : Result Totals BadLine → Sums
sums_in (Ok t) = record { code = 0; line = 0; east = t.east; north = t.north }
sums_in (Err bad) = refused_sums (number_of bad.cause) bad.line

-- The refusals of calls on a set, each by its number, and the place that a search finds.
use Rattle.std.specs.Prelude.{ℕ, Option, Some, None, Result, Ok, Err, IfSome, ◌<◌}
use Rattle.streams.specs.Refusals.{number}
use Rattle.marks.specs.declared.call.Refusal.{Refusal}
use Rattle.marks.specs.declared.call.Refusal.TheVariants.{OfRecord, Malformed, NotHeld, NoPlace}
use Rattle.marks.specs.Marks.{places}

abbrev pub mark_number : Refusal → ℕ
mark_number (OfRecord refusal) = number refusal
mark_number Malformed = 18
mark_number NotHeld = 19
mark_number NoPlace = 20

-- The refusal code of a test or a call: 0 where it is passed or accepted.
abbrev pub mark_code : {A : Type 0} → Result A Refusal → ℕ
mark_code (Ok _) = 0
mark_code (Err refusal) = mark_number refusal

-- The place that was found, or the number of places.
abbrev pub or_places : Option ℕ → ℕ
or_places (Some place) = place
or_places None = places

-- What a search finds is a place of the set.
abbrev pub Within : Option ℕ → Type 0
Within found = IfSome found (λ place. place < places)

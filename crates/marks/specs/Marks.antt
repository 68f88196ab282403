-- Marks to come back to (document 02, Job 11): "Keep up to 16 marks, each a name of the station kind with a record."
use Rattle.std.specs.Prelude.{ℕ, suc, min, ◌≡◌, Bool, true, false, cond, not, ◌&&◌, List, [], ◌∷◌, leb, ltb, length, get_or, take, set, replicate}
use Rattle.streams.specs.declared.Generator.{Generator}
use Rattle.streams.specs.declared.RecordAnswer.{RecordAnswer}
use Rattle.streams.specs.Streams.{record_code, open_code, first_cause, if_accepted, seed_of}
use Rattle.text.specs.Limits.{name_length}
use Rattle.text.specs.Fields.{name, same}
use Rattle.text.specs.Buffer.{written}
use Rattle.marks.specs.declared.label.Label.{Label}
use Rattle.marks.specs.declared.call.Placed.{Placed}

-- "A set has 16 places"
abbrev pub places : ℕ
places = 16

-- The labels and the records of the places.
pub record Marks : Type 0 where
  pub labels : List Label
  pub records : List Generator

-- A refusal code, and the set that a call leaves.
pub record SetAnswer : Type 0 where
  pub code : ℕ
  pub next : Marks

-- ---- Labels

-- The place is used, and its name is these bytes. A length above 12 is no name's.
unfoldable pub has_name : List ℕ → Label → Bool
has_name bytes label =
    label.used && (leb label.length name_length && same (take label.length label.bytes) bytes)

abbrev pub is_free : Label → Bool
is_free label = not label.used

-- the label of a name: as many of its bytes as fit, and 0 after them
unfoldable pub label_of : List ℕ → Label
label_of bytes =
    record { used = true; length = min (length bytes) name_length; bytes = written (replicate name_length 0) 0 bytes }

-- ---- Free places

abbrev pub no_label : Label
no_label = record { used = false; length = 0; bytes = replicate name_length 0 }

-- the record that a refused seeding returns
unfoldable pub no_record : Generator
no_record = (seed_of 0 0 0 0 0 0).next

-- the set of free places
abbrev pub empty : Marks
empty = record { labels = replicate places no_label; records = replicate places no_record }

-- ---- Places

-- the first place whose label passes the test, or the number of places
unfoldable pub first_place : (Label → Bool) → List Label → ℕ
first_place test [] = 0
first_place test (label ∷ labels) = cond (test label) 0 (suc (first_place test labels))

-- "Where a set passed in holds a name twice, the first is meant"
abbrev pub place_of : List Label → List ℕ → ℕ
place_of labels bytes = first_place (has_name bytes) labels

-- "Saving under a held name replaces it", "a new name takes the first free one"
unfoldable pub save_place : List Label → List ℕ → ℕ
save_place labels bytes = cond (ltb (place_of labels bytes) places) (place_of labels bytes) (first_place is_free labels)

-- ---- Refusal codes

-- "Saving and returning wait until no request is open; 11 and 12 apply to the record passed in .. before 14"
unfoldable pub idle_code : Generator → ℕ
idle_code g = first_cause (record_code g ∷ open_code g ∷ [])

-- "18: name malformed"
unfoldable pub name_code : List ℕ → ℕ
name_code bytes = cond (name bytes) 0 18

-- that code where the set has no such place
unfoldable pub place_code : ℕ → ℕ → ℕ
place_code place code = cond (ltb place places) 0 code

-- the place with the first cause to refuse it: the record, the name, or, with that code, that the set has no such place
abbrev pub placed_of : ℕ → ℕ → ℕ → ℕ → Placed
placed_of place busy malformed code = record { code = first_cause (busy ∷ malformed ∷ place_code place code ∷ []); place = place }

-- "20: 16 held and the name is new"
unfoldable pub place_to_save : List Label → Generator → List ℕ → Placed
place_to_save labels g bytes = placed_of (save_place labels bytes) (idle_code g) (name_code bytes) 20

-- "19: name not held, on return or drop"
unfoldable pub place_to_return : List Label → Generator → List ℕ → Placed
place_to_return labels g bytes = placed_of (place_of labels bytes) (idle_code g) (name_code bytes) 19

unfoldable pub place_to_drop : List Label → List ℕ → Placed
place_to_drop labels bytes =
    record { code = first_cause (name_code bytes ∷ place_code (place_of labels bytes) 19 ∷ []); place = place_of labels bytes }

-- ---- The calls: "refused, all comes back as passed"

abbrev pub stored : Marks → ℕ → Label → Generator → Marks
stored marks place label g = record { labels = set marks.labels place label; records = set marks.records place g }

unfoldable pub saved_of : Marks → Generator → List ℕ → SetAnswer
saved_of marks g bytes =
    let placed : Placed = place_to_save marks.labels g bytes in
    record { code = placed.code; next = if_accepted placed.code (stored marks placed.place (label_of bytes) g) marks }

-- "Returning gives the saved record exactly"
unfoldable pub returned_of : Marks → Generator → List ℕ → RecordAnswer
returned_of marks g bytes =
    let placed : Placed = place_to_return marks.labels g bytes in
    record { code = placed.code; next = if_accepted placed.code (get_or marks.records placed.place no_record) g }

-- "dropping a mark makes its place usable again"
unfoldable pub dropped_of : Marks → List ℕ → SetAnswer
dropped_of marks bytes =
    let placed : Placed = place_to_drop marks.labels bytes in
    record { code = placed.code; next = if_accepted placed.code (stored marks placed.place no_label no_record) marks }

-- ---- For theorems

-- What a program's types say of a set.
pub record Sized (marks : Marks) : Type 0 where
  pub labels_size : length marks.labels ≡ places
  pub records_size : length marks.records ≡ places

-- A set of marks as the members of a struct that a maker keeps: used, length, names of 12 bytes each, and records of so many words each.
use Rattle.std.specs.Prelude.{ℕ, zero, suc, ◌*◌, not, List, [], ◌∷◌, eqb, take, drop, set, replicate}
use Rattle.streams.specs.declared.Generator.{Generator}
use Rattle.streams.specs.Streams.{if_accepted}
use Rattle.text.specs.Limits.{name_length}
use Rattle.text.specs.Buffer.{written}
use Rattle.jabulghi.specs.Words.{generator_of}
use Rattle.marks.specs.declared.label.Label.{Label}
use Rattle.marks.specs.declared.call.Placed.{Placed}
use Rattle.marks.specs.Marks.{Marks, places, label_of, no_label, place_to_save, place_to_return, place_to_drop}

-- the words of a record, and the sizes of the members
abbrev pub record_words : ℕ
record_words = 10

abbrev pub names_length : ℕ
names_length = places * name_length

abbrev pub records_length : ℕ
records_length = places * record_words

pub record Members : Type 0 where
  pub used : List ℕ
  pub lengths : List ℕ
  pub names : List ℕ
  pub records : List ℕ

abbrev pub members : List ℕ → List ℕ → List ℕ → List ℕ → Members
members used lengths names records = record { used = used; lengths = lengths; names = names; records = records }

-- ---- The set that they are

-- any word of `used` but 0 means used; the names one after another
unfoldable pub labels_of : List ℕ → List ℕ → List ℕ → List Label
labels_of [] lengths names = []
labels_of (u ∷ used) [] names = []
labels_of (u ∷ used) (n ∷ lengths) names =
    record { used = not (eqb u 0); length = n; bytes = take name_length names } ∷ labels_of used lengths (drop name_length names)

-- n records one after another
unfoldable pub records_of : ℕ → List ℕ → List Generator
records_of zero words = []
records_of (suc n) words = generator_of (take record_words words) ∷ records_of n (drop record_words words)

abbrev pub set_of : Members → Marks
set_of m = record { labels = labels_of m.used m.lengths m.names; records = records_of places m.records }

-- ---- The calls

-- the members with a label and the words of a record in a place
abbrev pub stored_in : Members → ℕ → ℕ → Label → List ℕ → Members
stored_in m place used label words =
    record {
      used = set m.used place used;
      lengths = set m.lengths place label.length;
      names = written m.names (place * name_length) label.bytes;
      records = written m.records (place * record_words) words;
    }

unfoldable pub saved_in : Members → List ℕ → List ℕ → Members
saved_in m words x =
    let placed : Placed = place_to_save (set_of m).labels (generator_of words) x in
    if_accepted placed.code (stored_in m placed.place 1 (label_of x) words) m

-- the words of the record after a return: those that were saved, or, refused, those passed in
unfoldable pub returned_words : Members → List ℕ → List ℕ → List ℕ
returned_words m words x =
    let placed : Placed = place_to_return (set_of m).labels (generator_of words) x in
    if_accepted placed.code (take record_words (drop (placed.place * record_words) m.records)) words

unfoldable pub dropped_in : Members → List ℕ → Members
dropped_in m x =
    let placed : Placed = place_to_drop (set_of m).labels x in
    if_accepted placed.code (stored_in m placed.place 0 no_label (replicate record_words 0)) m

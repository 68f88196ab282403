-- Runs of calls on a record and a set of marks, each passed what the one before returned.
use Rattle.std.specs.Prelude.{◌≡◌, List, [], ◌∷◌, ℕ, ◌+◌, get_or}
use Rattle.streams.specs.declared.Generator.{Generator}
use Rattle.streams.specs.Streams.{Call, if_accepted}
use Rattle.noise.specs.Runs.{returned, handed}
use Rattle.marks.specs.Marks.{Marks, no_record, place_of, saved_of, returned_of, dropped_of}

-- What a maker keeps.
pub record State : Type 0 where
  pub generator : Generator
  pub marks : Marks

-- A call on the record alone, or a save, a return or a drop under a name; between them the record may become another one: seeded anew, or another
-- rig's.
pub data MarkCall : Type 0 where
  on_record : Call → MarkCall
  becomes : Generator → MarkCall
  a_save a_return a_drop : List ℕ → MarkCall

-- Its refusal code, and what it leaves: a return leaves the set, a save and a drop leave the record. What record the next call is passed is never
-- refused by itself; the next call tests it.
unfoldable pub code_in : MarkCall → State → ℕ
code_in (on_record c) s = (returned c s.generator).code
code_in (becomes g) s = 0
code_in (a_save x) s = (saved_of s.marks s.generator x).code
code_in (a_return x) s = (returned_of s.marks s.generator x).code
code_in (a_drop x) s = (dropped_of s.marks x).code

unfoldable pub next_in : MarkCall → State → State
next_in (on_record c) s = record { generator = (returned c s.generator).next; marks = s.marks }
next_in (becomes g) s = record { generator = g; marks = s.marks }
next_in (a_save x) s = record { generator = s.generator; marks = (saved_of s.marks s.generator x).next }
next_in (a_return x) s = record { generator = (returned_of s.marks s.generator x).next; marks = s.marks }
next_in (a_drop x) s = record { generator = s.generator; marks = (dropped_of s.marks x).next }

-- What a run of calls leaves.
unfoldable pub run : List MarkCall → State → State
run [] s = s
run (c ∷ l) s = run l (next_in c s)

-- ---- The count ("The count of Job 4 is then the saved count plus what was drawn and skipped since the return.")

-- the count of the record that is saved under a name
abbrev pub saved_count : Marks → List ℕ → ℕ
saved_count marks x = (get_or marks.records (place_of marks.labels x) no_record).count

-- where the count began, and the pairs handed out or skipped since
pub record Tally : Type 0 where
  pub base : ℕ
  pub since : ℕ

-- A call hands out or skips pairs; another record begins anew at its own count, and an accepted return at the saved count; a save and a drop are no
-- part of it.
unfoldable pub tallied : MarkCall → State → Tally → Tally
tallied (on_record c) s t = record { base = t.base; since = t.since + handed c s.generator }
tallied (becomes g) s t = record { base = g.count; since = 0 }
tallied (a_save x) s t = t
tallied (a_return x) s t = if_accepted (code_in (a_return x) s) (record { base = saved_count s.marks x; since = 0 }) t
tallied (a_drop x) s t = t

unfoldable pub tally : List MarkCall → State → Tally → Tally
tally [] s t = t
tally (c ∷ l) s t = tally l (next_in c s) (tallied c s t)

-- ---- Calls that do not touch a mark

-- no save and no drop under that name
abbrev pub Untouched : List ℕ → List MarkCall → Type 0
Untouched x [] = Unit {0}
Untouched x (on_record c ∷ l) = Untouched x l
Untouched x (becomes g ∷ l) = Untouched x l
Untouched x (a_save y ∷ l) = (x ≡ y → ⊥) × Untouched x l
Untouched x (a_return y ∷ l) = Untouched x l
Untouched x (a_drop y ∷ l) = (x ≡ y → ⊥) × Untouched x l

-- ---- The records that come from elsewhere

-- each of them is such
abbrev pub Becomes : (Generator → Type 0) → MarkCall → Type 0
Becomes P (on_record c) = Unit {0}
Becomes P (becomes g) = P g
Becomes P (a_save x) = Unit {0}
Becomes P (a_return x) = Unit {0}
Becomes P (a_drop x) = Unit {0}

abbrev pub AllBecome : (Generator → Type 0) → List MarkCall → Type 0
AllBecome P [] = Unit {0}
AllBecome P (c ∷ l) = Becomes P c × AllBecome P l

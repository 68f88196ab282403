-- What is proved of runs of calls on a record and a set of marks (proofs/Runs.antt).
use Rattle.std.specs.Prelude.{◌≡◌, true, List, [], ◌∷◌, ℕ, ◌+◌, ℤ, get_or}
use Rattle.streams.specs.declared.Stream.{Stream}
use Rattle.streams.specs.declared.Generator.{Generator}
use Rattle.streams.specs.Streams.{Call, open_code, note_code, own_code, room_code, first_cause, if_accepted}
use Rattle.streams.specs.Recurrence.{InRange, Sound, seed_from}
use Rattle.noise.specs.Noise.{block_holds}
use Rattle.marks.specs.Marks.{Marks, no_label, no_record, empty, place_of, save_place, idle_code, name_code, place_code, returned_of, Sized}
use Rattle.marks.specs.Runs.{State, MarkCall, code_in, next_in, run, Tally, tally, Untouched, AllBecome}
use Rattle.marks.specs.Runs.MarkCall.{on_record, a_save, a_return, a_drop}

-- ---- What comes back

-- "Returning gives the saved record exactly, so the samples after it are those that followed the save": saved under x, then this run.
pub record ComesBack (s : State) (x : List ℕ) (l : List MarkCall) : Type 0 where
  -- a return is refused for the record passed in alone
  pub answer : (h : Generator) → returned_of (run l (next_in (a_save x) s)).marks h x
      ≡ record { code = idle_code h; next = if_accepted (idle_code h) s.generator h }
  -- accepted, it gives the record that was saved
  pub exactly : let later : State = run l (next_in (a_save x) s) in
      code_in (a_return x) later ≡ 0 → (next_in (a_return x) later).generator ≡ s.generator
  -- and every block from there, of either width, holds the samples that followed the save
  pub samples : let later : State = run l (next_in (a_save x) s) in
      code_in (a_return x) later ≡ 0 → (f : ℕ) (old : List ℤ) → block_holds f (next_in (a_return x) later).generator old ≡ block_holds f s.generator old

-- ---- The count

-- Registers of 32 bits, as every record of a program has.
pub record Ranged (g : Generator) : Type 0 where
  pub range_a : InRange g.a
  pub range_b : InRange g.b

-- Every record that is saved in the set is such.
abbrev pub AllSaved : (Generator → Type 0) → Marks → Type 0
AllSaved P marks = (i : ℕ) → (get_or marks.labels i no_label).used ≡ true → P (get_or marks.records i no_record)

-- "The count of Job 4 is then the saved count plus what was drawn and skipped since the return."
abbrev pub Counts : List MarkCall → State → Tally → Type 0
Counts l s t = (run l s).generator.count ≡ (tally l s t).base + (tally l s t).since

-- ---- Sets grown from the empty one

-- A saved record: fit, with no request open.
pub record Settled (g : Generator) : Type 0 where
  pub fits : Sound g
  pub none_open : open_code g ≡ 0

-- After a run from this record and the empty set:
pub record Grown (g : Generator) (l : List MarkCall) : Type 0 where
  -- every saved record is fit, with no request open
  pub saved_settled : AllSaved Settled (run l (record { generator = g; marks = empty })).marks
  -- a call on the record is refused for its note, for its own arguments, or for the count
  pub never_refused : (c : Call) → let s : State = run l (record { generator = g; marks = empty }) in
      code_in (on_record c) s
      ≡ first_cause (note_code c s.generator ∷ own_code c s.generator ∷ room_code c s.generator ∷ [])
  -- a save or a return for the note or the name, a drop for the name
  pub names_refused : (x : List ℕ) → let s : State = run l (record { generator = g; marks = empty }) in
      (code_in (a_save x) s
      ≡ first_cause (open_code s.generator ∷ name_code x ∷ place_code (save_place s.marks.labels x) 20 ∷ []))
      × (code_in (a_return x) s
      ≡ first_cause (open_code s.generator ∷ name_code x ∷ place_code (place_of s.marks.labels x) 19 ∷ []))
      × (code_in (a_drop x) s ≡ first_cause (name_code x ∷ place_code (place_of s.marks.labels x) 19 ∷ []))

-- ---- Runs as makers make them: between the calls the record may become another one, seeded anew or another rig's

pub record OfRuns : Type 0 where
  -- whatever record, fit or not, it becomes meanwhile, a mark that the run does not touch comes back
  pub comes_back : (s : State) (x : List ℕ) (l : List MarkCall) → Sized s.marks → code_in (a_save x) s ≡ 0 → Untouched x l → ComesBack s x l
  -- from seeding on, accepted or refused, with any set: the count is where it began and the pairs handed out or skipped since; it begins at 0, at the
  -- count of each record that comes from elsewhere, and at the saved count of each accepted return
  pub count_from_seeding : (a b : Stream) (marks : Marks) (l : List MarkCall) → InRange a → InRange b → AllBecome Ranged l
      → Sized marks → AllSaved Ranged marks
      → Counts l (record { generator = (seed_from a b).next; marks = marks }) (record { base = 0; since = 0 })
  -- a run from an accepted seeding and the empty set, where every record from elsewhere is fit
  pub grown : (a b : Stream) (l : List MarkCall) → InRange a → InRange b → (seed_from a b).code ≡ 0 → AllBecome Sound l
      → Grown (seed_from a b).next l
  -- one that an accepted seeding returns is fit
  pub seeded : (a b : Stream) → InRange a → InRange b → (seed_from a b).code ≡ 0 → Sound (seed_from a b).next

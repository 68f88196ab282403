-- What is proved of runs of calls on a record and a set.
use mathlib.Core.Path.{◌≡◌, refl, sym, ap, ◌∙◌}
use mathlib.Core.Bool.{Bool, true, false, false≢true}
use mathlib.Core.List.{List, [], ◌∷◌}
use Prim.Native.Nat.{ℕ, zero, suc, ◌+◌}
use native.Mathlib.Nat.{add-zero}
use native.Mathlib.Omega.{arith}
use lib.Dec.{eqb}
use lib.ListN.{length, get_or, set, replicate, length-replicate}
use borrow.Author.Tests.{eqb-true, eqb-false, ne_eqb}
use Rattle.streams.specs.declared.Stream.{Stream}
use Rattle.streams.specs.declared.Generator.{Generator}
use Rattle.streams.specs.declared.RecordAnswer.{RecordAnswer}
use Rattle.streams.specs.Streams.{Call, record_code, open_code, if_accepted}
use Rattle.streams.specs.Recurrence.{InRange, Sound, seed_from}
use Rattle.streams.proofs.Theorems.{sound, sound_accepted, seeded, seeded_range, fit_call}
use Rattle.streams.proofs.Causes.{lone_cause}
use Rattle.noise.specs.Noise.{block_holds}
use Rattle.noise.specs.Runs.{returned, handed, sum_over}
use Rattle.noise.specs.Runs.{run as run-on-record}
use Rattle.noise.proofs.Runs.{returned_code, next_is, call_sound, unfit_call, run_count}
use Rattle.marks.specs.declared.label.Label.{Label}
use Rattle.marks.specs.Marks.{Marks, places, has_name, label_of, no_label, no_record, empty, idle_code, place_to_save, place_to_return, place_to_drop, stored, saved_of, returned_of, dropped_of, Sized}
use Rattle.marks.specs.Runs.{State, MarkCall, code_in, next_in, run, Tally, tallied, tally, Untouched, Becomes, AllBecome}
use Rattle.marks.specs.Runs.MarkCall.{on_record, becomes, a_save, a_return, a_drop}
use Rattle.marks.specs.Theorems.{ComesBack, Ranged, AllSaved, Counts, Settled, Grown, OfRuns}
use Rattle.marks.proofs.Placing.{each_none}
use Rattle.marks.proofs.Names.{has}
use Rattle.marks.proofs.First.{first_passes}
use Rattle.marks.proofs.Theorems.{save_sized, save_return, save_leaves, save_either, drop_sized, drop_leaves, drop_either, return_accepted, return_refused, return_either}

-- ---- A mark that is not touched

pub next_sized : (c : MarkCall) (s : State) → Sized s.marks → Sized (next_in c s).marks
unfolding next_in
next_sized (on_record c) s h = h
next_sized (becomes g) s h = h
next_sized (a_save x) s h = save_sized s.marks h s.generator x
next_sized (a_return x) s h = h
next_sized (a_drop x) s h = drop_sized s.marks h x

pub run_sized : (l : List MarkCall) (s : State) → Sized s.marks → Sized (run l s).marks
unfolding run
run_sized [] s h = h
run_sized (c ∷ l) s h = run_sized l (next_in c s) (next_sized c s h)

-- Returning to a mark gives the same after any run that does not touch it.
pub untouched : (l : List MarkCall) (s : State) (x : List ℕ) (h : Generator) → Sized s.marks → Untouched x l
    → returned_of (run l s).marks h x ≡ returned_of s.marks h x
unfolding run next_in
untouched [] s x h sized u = refl
untouched (on_record c ∷ l) s x h sized u = untouched l (next_in (on_record c) s) x h sized u
untouched (becomes g ∷ l) s x h sized u = untouched l (next_in (becomes g) s) x h sized u
untouched (a_save y ∷ l) s x h sized (other, u) =
    untouched l (next_in (a_save y) s) x h (save_sized s.marks sized s.generator y) u
    ∙ save_leaves s.marks sized s.generator y h x other
untouched (a_return y ∷ l) s x h sized u = untouched l (next_in (a_return y) s) x h sized u
untouched (a_drop y ∷ l) s x h sized (other, u) =
    untouched l (next_in (a_drop y) s) x h (drop_sized s.marks sized y) u ∙ drop_leaves s.marks sized y h x other

-- Save, then any run that does not touch that mark, then return: the saved record.
module _ (s : State) (x : List ℕ) (l : List MarkCall) (sized : Sized s.marks) (e : code_in (a_save x) s ≡ 0) (u : Untouched x l) where
  answer : (h : Generator) → returned_of (run l (next_in (a_save x) s)).marks h x
      ≡ record { code = idle_code h; next = if_accepted (idle_code h) s.generator h }
  unfolding code_in next_in
  answer h =
      untouched l (next_in (a_save x) s) x h (save_sized s.marks sized s.generator x) u
      ∙ save_return s.marks sized s.generator x h e

  exactly : let later : State = run l (next_in (a_save x) s) in
      code_in (a_return x) later ≡ 0 → (next_in (a_return x) later).generator ≡ s.generator
  unfolding code_in next_in
  exactly k =
      let later = run l (next_in (a_save x) s) in
      let fits : idle_code later.generator ≡ 0 = sym (ap (λ (r : RecordAnswer). r.code) (answer later.generator)) ∙ k in
      ap (λ (r : RecordAnswer). r.next) (answer later.generator) ∙ rw fits

  pub comes_back : ComesBack s x l
  comes_back = record { answer = answer; exactly = exactly; samples = λ k f old. ap (λ (g : Generator). block_holds f g old) (exactly k) }

-- ---- What holds of every record

-- Now holds of the record, and saved of every record under a mark.
pub record Each (Now Saved : Generator → Type 0) (s : State) : Type 0 where
  pub sized : Sized s.marks
  pub current : Now s.generator
  pub kept : (i : ℕ) → (get_or s.marks.labels i no_label).used ≡ true → Saved (get_or s.marks.records i no_record)

-- a label and a record put in one place
put_both : (P : Label → Generator → Type 0) (l : List Label) (r : List Generator) (p : ℕ) (m : Label) (g : Generator)
    → length l ≡ length r → P m g → ((i : ℕ) → P (get_or l i no_label) (get_or r i no_record))
    → (i : ℕ) → P (get_or (set l p m) i no_label) (get_or (set r p g) i no_record)
put_both P [] [] p m g e new old i = old i
put_both P [] (y ∷ r) p m g e new old i = absurd (omega arith)
put_both P (x ∷ l) [] p m g e new old i = absurd (omega arith)
put_both P (x ∷ l) (y ∷ r) zero m g e new old zero = new
put_both P (x ∷ l) (y ∷ r) zero m g e new old (suc i) = old (suc i)
put_both P (x ∷ l) (y ∷ r) (suc p) m g e new old zero = old zero
put_both P (x ∷ l) (y ∷ r) (suc p) m g e new old (suc i) = put_both P l r p m g (omega arith) new (λ j. old (suc j)) i

module _ (Now Saved : Generator → Type 0)
    (goes_on : (c : Call) (g : Generator) → Now g → Now (returned c g).next)
    (is-saved : (g : Generator) → idle_code g ≡ 0 → Now g → Saved g)
    (comes : (g : Generator) → Saved g → Now g) where
  abbrev Under : Label → Generator → Type 0
  Under label g = label.used ≡ true → Saved g

  abbrev Kept : Marks → Type 0
  Kept marks = (i : ℕ) → Under (get_or marks.labels i no_label) (get_or marks.records i no_record)

  stored_each : (marks : Marks) (p : ℕ) (m : Label) (g : Generator) → Sized marks → Under m g → Kept marks
      → Kept (stored marks p m g)
  stored_each marks p m g sized new old =
      put_both Under marks.labels marks.records p m g (sized.labels_size ∙ sym sized.records_size) new old

  -- Where a call on the record keeps it, what is saved is so, what is returned to is so, and so is a record from elsewhere, every call keeps both.
  pub next_each : (c : MarkCall) (s : State) → Becomes Now c → Each Now Saved s → Each Now Saved (next_in c s)
  unfolding next_in
  next_each (becomes g) s b h = record { sized = h.sized; current = b; kept = h.kept }
  next_each (on_record c) s b h = record { sized = h.sized; current = goes_on c s.generator h.current; kept = h.kept }
  next_each (a_save x) s b h =
      record {
        sized = save_sized s.marks h.sized s.generator x;
        current = h.current;
        kept =
            save_either s.marks h.sized s.generator x Kept h.kept
            (λ fits good at. stored_each s.marks _ (label_of x) s.generator h.sized
            (λ used. is-saved s.generator fits h.current) h.kept);
      }
  next_each (a_return x) s b h =
      record {
        sized = h.sized;
        current =
            return_either s.marks s.generator x Now h.current
            (λ at. comes _ (h.kept _ (has x _ (first_passes (has_name x) s.marks.labels no_label
            (omega (arith, at, h.sized.labels_size)))).used));
        kept = h.kept;
      }
  next_each (a_drop x) s b h =
      record {
        sized = drop_sized s.marks h.sized x;
        current = h.current;
        kept =
            drop_either s.marks h.sized x Kept h.kept
            (λ at. stored_each s.marks _ no_label no_record h.sized (λ used. absurd (false≢true used)) h.kept);
      }

  pub run_each : (l : List MarkCall) (s : State) → AllBecome Now l → Each Now Saved s → Each Now Saved (run l s)
  unfolding run
  run_each [] s b h = h
  run_each (c ∷ l) s (b, bs) h = run_each l (next_in c s) bs (next_each c s b h)

-- ---- The count

call_ranged : (c : Call) (g : Generator) → Ranged g → Ranged (returned c g).next
call_ranged c g h = by_test (eqb (record_code g) 0) refl
  where
    by_test : (t : Bool) → eqb (record_code g) 0 ≡ t → Ranged (returned c g).next
    by_test true e =
        let fits = call_sound c g (sound g h.range_a h.range_b (eqb-true _ _ e)) in
        record { range_a = fits.range_a; range_b = fits.range_b }
    by_test false e =
        let unfit = eqb-false (record_code g) 0 e in
        rw (next_is c g, unfit_call c g unfit, ne_eqb _ _ unfit) h

call_count : (c : Call) (g : Generator) → Ranged g → (returned c g).next.count ≡ g.count + handed c g
unfolding run-on-record sum_over
call_count c g h = run_count (c ∷ []) g h.range_a h.range_b ∙ rw (add-zero (handed c g))

step : (c : MarkCall) (s : State) (t : Tally) → Each Ranged Ranged s → s.generator.count ≡ t.base + t.since
    → (next_in c s).generator.count ≡ (tallied c s t).base + (tallied c s t).since
unfolding next_in tallied code_in
step (on_record c) s t h e = call_count c s.generator h.current ∙ omega (arith, e)
step (becomes g) s t h e = sym (add-zero g.count)
step (a_save x) s t h e = e
step (a_return x) s t h e = by_test (eqb (returned_of s.marks s.generator x).code 0) refl
  where
    by_test : (b : Bool) → eqb (returned_of s.marks s.generator x).code 0 ≡ b
        → (next_in (a_return x) s).generator.count ≡ (tallied (a_return x) s t).base + (tallied (a_return x) s t).since
    by_test true u =
        let (at, is) = return_accepted s.marks s.generator x (eqb-true _ _ u) in
        rw (tallied, code_in, u) (ap (λ (g : Generator). g.count) is ∙ sym (add-zero _))
    by_test false u =
        rw (tallied, code_in, u)
        (ap (λ (g : Generator). g.count) (return_refused s.marks s.generator x (eqb-false _ _ u)) ∙ e)
step (a_drop x) s t h e = e

-- A run keeps the count: where it began and the pairs handed out or skipped since.
pub run_tally : (l : List MarkCall) (s : State) (t : Tally) → AllBecome Ranged l → Each Ranged Ranged s → s.generator.count ≡ t.base + t.since
    → Counts l s t
unfolding run tally
run_tally [] s t b h e = e
run_tally (c ∷ l) s t (b, bs) h e =
    run_tally l (next_in c s) (tallied c s t) bs
    (next_each Ranged Ranged call_ranged (λ g fits r. r) (λ g r. r) c s b h) (step c s t h e)

pub count_from_seeding : (a b : Stream) (marks : Marks) (l : List MarkCall) → InRange a → InRange b → AllBecome Ranged l
    → Sized marks → AllSaved Ranged marks
    → Counts l (record { generator = (seed_from a b).next; marks = marks }) (record { base = 0; since = 0 })
count_from_seeding a b marks l ra rb others sized saved =
    let (na, nb, zero-count, _, _) = seeded_range a b ra rb in
    run_tally l (record { generator = (seed_from a b).next; marks = marks }) (record { base = 0; since = 0 }) others
    (record { sized = sized; current = record { range_a = na; range_b = nb }; kept = saved }) zero-count

-- ---- Sets grown from the empty one

each_free : {A : Type 0} (n i : ℕ) (x : A) → get_or (replicate n x) i x ≡ x
each_free zero i x = refl
each_free (suc n) zero x = refl
each_free (suc n) (suc i) x = each_free n i x

empty_sized : Sized empty
empty_sized = record { labels_size = length-replicate places no_label; records_size = length-replicate places no_record }

idle : (g : Generator) → idle_code g ≡ 0 → Sound g → Settled g
unfolding idle_code
idle g e h = record { fits = h; none_open = each_none (record_code g ∷ open_code g ∷ []) e 1 }

-- fit streams are refused for the note alone
fit_idle : (g : Generator) → Sound g → idle_code g ≡ open_code g
unfolding idle_code
fit_idle g h = rw (sound_accepted g h) (lone_cause (open_code g))

-- a run of a fit record in which every record from elsewhere is fit
module _ (g : Generator) (fits : Sound g) (l : List MarkCall) (others : AllBecome Sound l) where
  held : Each Sound Settled (run l (record { generator = g; marks = empty }))
  held =
      run_each Sound Settled call_sound idle (λ r h. h.fits) l (record { generator = g; marks = empty }) others
      (record {
        sized = empty_sized;
        current = fits;
        kept = λ i used. absurd (false≢true (sym (ap (λ (label : Label). label.used) (each_free places i no_label)) ∙ used));
      })

  pub grown : Grown g l
  unfolding code_in saved_of place_to_save returned_of place_to_return dropped_of place_to_drop
  grown =
      record {
        saved_settled = held.kept;
        never_refused = λ c. returned_code c _ ∙ fit_call c _ held.current;
        names_refused = λ x. (rw (fit_idle _ held.current), rw (fit_idle _ held.current), refl);
      }

seeded_sound : (a b : Stream) → InRange a → InRange b → (seed_from a b).code ≡ 0 → Sound (seed_from a b).next
seeded_sound a b ra rb e = let (is-fresh, is-sound) = seeded a b ra rb e in rw is-fresh is-sound

pub of_runs : OfRuns
of_runs =
    record {
      comes_back = comes_back;
      count_from_seeding = count_from_seeding;
      grown = λ a b l ra rb e others. grown (seed_from a b).next (seeded_sound a b ra rb e) l others;
      seeded = seeded_sound;
    }

-- The reading of a line by a form, byte by byte of the form.
use Prim.Native.Nat.{ℕ, suc, ◌+◌, ◌-◌, ◌≤◌, ◌<◌}
use native.Mathlib.Omega.{arith}
use native.Mathlib.Numerals.{add-one}
use native.Mathlib.Decide.{dec_lt, dec_le}
use mathlib.Core.Path.{◌≡◌, refl, sym, ap, ◌∙◌}
use mathlib.Core.Bool.{Bool, true, false}
use mathlib.Core.List.{List, [], ◌∷◌, ◌++◌, append_assoc, append-nil}
use mathlib.Core.Option.{Option, some, none, some-ne-none}
use lib.Dec.{eqb}
use lib.ListN.{length, get_or, take, drop, set, replicate, length-drop, length-set, drop_of_length-le}
use lib.Seq.{drop-drop, take-suc-set}
use borrow.Author.Tests.{le-leb, lt-leb, le-ltb, lt-ltb, eq-eqb, ne_eqb}
use Rattle.std.proofs.Common.{Result, Ok, Err, add-zero}
use Rattle.std.proofs.lemmas.List.{take-append-drop, take_at, drop-set-lt, drop-replicate, length-replicate}
use Rattle.text.specs.Scan.{separator, field}
use Rattle.text.specs.Fields.{part_of}
use Rattle.text.specs.Forms.{read_form, read_few, fields_at, found_in, lead, marks, starts_with, is_empty, form_step, found_from, no_place, found_of, places_from}
use Rattle.text.specs.declared.field.Place.{Place}
use Rattle.text.specs.declared.form.Found.{Found}
use Rattle.text.proofs.Forms.{read_mark, read_byte, marks_mark, marks_byte, lead_some, byte_some, end_some}
use Rattle.text.proofs.Scan.{ahead, run_length, run_take}

-- the place from `at` to the end of the field that begins there holds that field
part_field : (line : List ℕ) (at : ℕ) → at ≤ length line
    → part_of line (record { from = at; to = at + length (field (drop at line)) }) ≡ field (drop at line)
unfolding part_of
part_field line at h =
    let n = run_length separator (drop at line) in
    let e : at + length (field (drop at line)) - at ≡ length (field (drop at line)) = omega arith in
    rw (le-leb (at + length (field (drop at line))) (length line) (omega (arith, simp length-drop at n)), e)
    (run_take separator (drop at line))

-- the places of the fields, one byte of the form later
module _ (f : ℕ) (form line : List ℕ) (at : ℕ) where
  places_mark : eqb f 35 ≡ true
      → places_from at (f ∷ form) line ≡ record { from = at; to = at + length (field (drop at line)) } ∷ places_from (at + length (field (drop at line))) form line
  unfolding places_from
  places_mark e = rw (e, places_from)

  places_byte : eqb f 35 ≡ false → places_from at (f ∷ form) line ≡ places_from (at + 1) form line
  unfolding places_from
  places_byte e = rw (e, places_from)

-- what is left to read, one byte of the form later
module _ (f : ℕ) (form line : List ℕ) (at : ℕ) where
  read_at_mark : eqb f 35 ≡ true → read_form (f ∷ form) (drop at line) ≡ lead (field (drop at line)) (read_form form (drop (at + length (field (drop at line))) line))
  read_at_mark e = rw (read_mark f form (drop at line) e, drop-drop (length (field (drop at line))) at line)

  read_at_byte : eqb f 35 ≡ false → at < length line → eqb (get_or line at 0) f ≡ true → read_form (f ∷ form) (drop at line) ≡ read_form form (drop (at + 1) line)
  unfolding starts_with
  read_at_byte e h u = rw (read_byte f form (drop at line) e, ahead line at h, starts_with, u)

-- a step at a # and at any other byte
module _ {n : ℕ} (b : ℕ) (line : List ℕ) (c : Found n) where
  abbrev taken : Found n
  taken = record {
    at = c.at + length (field (drop c.at line));
    count = c.count + 1;
    places = set c.places c.count (record { from = c.at; to = c.at + length (field (drop c.at line)) });
  }

  abbrev next : Found n
  next = record { at = c.at + 1; count = c.count; places = c.places }

  step_full : eqb b 35 ≡ true → n ≤ c.count → form_step b line c ≡ Err c
  unfolding form_step
  step_full e h = rw (e, le-leb n c.count h)

  step_mark : eqb b 35 ≡ true → c.count < n → form_step b line c ≡ Ok taken
  unfolding form_step
  step_mark e h = rw (e, lt-leb n c.count h)

  step_end : eqb b 35 ≡ false → length line ≤ c.at → form_step b line c ≡ Err c
  unfolding form_step
  step_end e h = rw (e, le-leb (length line) c.at h)

  step_unlike : eqb b 35 ≡ false → c.at < length line → eqb (get_or line c.at 0) b ≡ false → form_step b line c ≡ Err next
  unfolding form_step
  step_unlike e h u = rw (e, lt-leb (length line) c.at h, u)

  step_byte : eqb b 35 ≡ false → c.at < length line → eqb (get_or line c.at 0) b ≡ true → form_step b line c ≡ Ok next
  unfolding form_step
  step_byte e h u = rw (e, lt-leb (length line) c.at h, u)

  -- the rest of a form after it
  module _ (form : List ℕ) where
    pub found_on : (d : Found n) → form_step b line c ≡ Ok d → found_from (b ∷ form) line c ≡ found_from form line d
    unfolding found_from
    found_on d e = rw (e, found_from)

    pub found_off : (d : Found n) → form_step b line c ≡ Err d → found_from (b ∷ form) line c ≡ Err d
    unfolding found_from
    found_off d e = rw (e, found_from)

-- the end of a form: the line is read, or something is left of it
module _ {n : ℕ} (line : List ℕ) (c : Found n) where
  found_end : length line ≤ c.at → found_from [] line c ≡ Ok c
  unfolding found_from
  found_end h = rw (le-ltb c.at (length line) h)

  found_left : c.at < length line → found_from [] line c ≡ Err c
  unfolding found_from
  found_left h = rw (lt-ltb c.at (length line) h)

-- no fields after the first, no fields
lead_none : (v : List ℕ) (o : Option (List (List ℕ))) → lead v o ≡ none → o ≡ none
lead_none v none e = refl
lead_none v (some vs) e = absurd (some-ne-none _ e)

ok_same : {A : Type 0} (x y : A) → ◌≡◌ {A = Result A A} (Ok x) (Ok y) → x ≡ y
ok_same {A} x y e = ap inside e
  where
    inside : Result A A → A
    inside (Ok z) = z
    inside (Err z) = z

-- a line that a form fits is read to its end, and the places of the fields follow those that were found before
module _ {n : ℕ} (line : List ℕ) where
  abbrev filled : List ℕ → Found n → Found n
  filled form c = record {
    at = length line;
    count = c.count + marks form;
    places = take c.count c.places ++ (places_from c.at form line ++ drop (c.count + marks form) c.places);
  }

  whole : (form : List ℕ) (c : Found n) (vs : List (List ℕ)) → length c.places ≡ n → c.at ≤ length line → c.count + marks form ≤ n
      → read_form form (drop c.at line) ≡ some vs → found_from form line c ≡ Ok (filled form c)
  unfolding marks places_from
  whole [] c vs l w k e =
      let at : length line ≡ c.at = omega (arith, w, length-drop c.at line, ap length (end_some (drop c.at line) vs e).0) in
      found_end line c (omega (arith, at)) ∙ rw (at, add-zero c.count, take-append-drop c.count c.places)
  whole (f ∷ form) c vs l w k e = split (λ d us m v j i. whole form d us m v j i) (eqb f 35) refl
    where
      split : ((c : Found n) (vs : List (List ℕ)) → length c.places ≡ n → c.at ≤ length line → c.count + marks form ≤ n
          → read_form form (drop c.at line) ≡ some vs → found_from form line c ≡ Ok (filled form c))
          → (b : Bool) → eqb f 35 ≡ b → found_from (f ∷ form) line c ≡ Ok (filled (f ∷ form) c)
      split ih true m =
          let (ws, p, q) = lead_some (field (drop c.at line)) (read_form form (drop (c.at + length (field (drop c.at line))) line)) vs (sym (read_at_mark f form line c.at m) ∙ e) in
          let r = run_length separator (drop c.at line) in
          let v : Place = record { from = c.at; to = c.at + length (field (drop c.at line)) } in
          let few : c.count < n = omega (arith, k, marks_mark f form m) in
          let more : c.count + marks (f ∷ form) ≡ c.count + 1 + marks form = omega (arith, marks_mark f form m) in
          let rest = ih (taken f line c) ws (rw length-set l) (omega (arith, simp length-drop at r, w)) (omega (arith, k, marks_mark f form m)) p in
          let puts : take (c.count + 1) (set c.places c.count v) ≡ take c.count c.places ++ (v ∷ []) = rw (add-one c.count) (take-suc-set c.places c.count v (omega (arith, l, few))) in
          found_on f line c form _ (step_mark f line c m few) ∙ rest
          ∙ rw (more, puts, places_mark f form line c.at m, drop-set-lt (c.count + 1 + marks form) c.places c.count v (omega arith), append_assoc (take c.count c.places) (v ∷ []) (places_from v.to form line ++ drop (c.count + 1 + marks form) c.places))
      split ih false m =
          let (xs, p, q) = byte_some f form (drop c.at line) vs (sym (read_byte f form (drop c.at line) m) ∙ e) in
          let one : drop (c.at + 1) line ≡ xs = sym (drop-drop 1 c.at line) ∙ ap (drop 1) p in
          let more : c.at < length line = omega (arith, simp length-drop at (ap length p)) in
          let same : get_or line c.at 0 ≡ f = ap (λ (x : List ℕ). get_or x 0 0) (sym (ahead line c.at more) ∙ p) in
          found_on f line c form _ (step_byte f line c m more (eq-eqb _ _ same)) ∙ ih (next f line c) vs l (omega arith) (omega (arith, k, marks_byte f form m)) (rw one q)
          ∙ rw (marks_byte f form m, places_byte f form line c.at m)

  -- and any other is refused
  abbrev Refused : List ℕ → Found n → Type 0
  Refused form c = (d : Found n) × (found_from form line c ≡ Err d)

  refused : (form : List ℕ) (c : Found n) → c.count ≤ n → (c.count + marks form ≤ n → read_form form (drop c.at line) ≡ none) → Refused form c
  unfolding read_form is_empty marks
  refused [] c l e = split (dec_lt c.at (length line))
    where
      split : Dec (c.at < length line) → Refused [] c
      split (yes h) = (c, found_left line c h)
      split (no h) = absurd (some-ne-none [] (sym (rw (drop_of_length-le line {i = c.at} (omega (arith, h)))) ∙ e (omega (arith, l))))
  refused (f ∷ form) c l e = split (λ d m i. refused form d m i) (eqb f 35) refl (dec_lt c.count n) (dec_lt c.at (length line)) (eqb (get_or line c.at 0) f) refl
    where
      on : (d : Found n) → form_step f line c ≡ Ok d → Refused form d → Refused (f ∷ form) c
      on d s r = (r.0, found_on f line c form d s ∙ r.1)

      off : (d : Found n) → form_step f line c ≡ Err d → Refused (f ∷ form) c
      off d s = (d, found_off f line c form d s)

      split : ((c : Found n) → c.count ≤ n → (c.count + marks form ≤ n → read_form form (drop c.at line) ≡ none) → Refused form c)
          → (m : Bool) → eqb f 35 ≡ m → Dec (c.count < n) → Dec (c.at < length line) → (u : Bool) → eqb (get_or line c.at 0) f ≡ u → Refused (f ∷ form) c
      split ih true m (yes k) h u s =
          on _ (step_mark f line c m k)
          (ih (taken f line c) (omega (arith, k)) (λ q. lead_none _ _ (sym (read_at_mark f form line c.at m) ∙ e (omega (arith, q, marks_mark f form m)))))
      split ih true m (no k) h u s = off _ (step_full f line c m (omega (arith, k)))
      split ih false m k (no h) u s = off _ (step_end f line c m (omega (arith, h)))
      split ih false m k (yes h) false s = off _ (step_unlike f line c m h s)
      split ih false m k (yes h) true s =
          on _ (step_byte f line c m h s)
          (ih (next f line c) l (λ q. sym (read_at_byte f form line c.at m h s) ∙ e (omega (arith, q, marks_byte f form m))))

-- ---- Where the fields stand

-- and hold what is read
module _ (line : List ℕ) where
  pub hold_from : (form : List ℕ) (at : ℕ) (vs : List (List ℕ)) → at ≤ length line → read_form form (drop at line) ≡ some vs → fields_at line (places_from at form line) ≡ vs
  unfolding read_form places_from is_empty
  hold_from [] at vs h e = sym (end_some (drop at line) vs e).1
  hold_from (f ∷ form) at vs h e = split (λ at vs h e. hold_from form at vs h e) (eqb f 35) refl
    where
      split : ((at : ℕ) (vs : List (List ℕ)) → at ≤ length line → read_form form (drop at line) ≡ some vs → fields_at line (places_from at form line) ≡ vs)
          → (b : Bool) → eqb f 35 ≡ b → fields_at line (places_from at (f ∷ form) line) ≡ vs
      split ih true m =
          let (ws, p, q) = lead_some (field (drop at line)) (read_form form (drop (length (field (drop at line))) (drop at line))) vs (sym (read_mark f form (drop at line) m) ∙ e) in
          let k = run_length separator (drop at line) in
          let rest = ih (at + length (field (drop at line))) ws (omega (arith, simp length-drop at k)) (rw (← drop-drop (length (field (drop at line))) at line) p) in
          rw (places_mark f form line at m, part_field line at h, rest) (sym q)
      split ih false m =
          let (xs, p, q) = byte_some f form (drop at line) vs (sym (read_byte f form (drop at line) m) ∙ e) in
          let one : drop (at + 1) line ≡ xs = sym (drop-drop 1 at line) ∙ ap (drop 1) p in
          let more : at < length line = omega (arith, simp length-drop at (ap length p)) in
          rw (places_byte f form line at m) (ih (at + 1) vs (omega arith) (rw one q))

pub places_hold : (form line : List ℕ) (vs : List (List ℕ)) → read_form form line ≡ some vs → fields_at line (places_from 0 form line) ≡ vs
places_hold form line vs e = hold_from line form 0 vs (omega arith) e

-- one place for each field of a form
pub one_each : (form : List ℕ) (at : ℕ) (line : List ℕ) → length (places_from at form line) ≡ marks form
unfolding places_from marks
one_each [] at line = refl
one_each (f ∷ form) at line = split (λ at. one_each form at line) (eqb f 35) refl
  where
    split : ((at : ℕ) → length (places_from at form line) ≡ marks form) → (b : Bool) → eqb f 35 ≡ b → length (places_from at (f ∷ form) line) ≡ marks (f ∷ form)
    split ih true m = rw (places_mark f form line at m, marks_mark f form m) (ap suc (ih (at + length (field (drop at line)))))
    split ih false m = rw (places_byte f form line at m, marks_byte f form m) (ih (at + 1))

-- what is found from the beginning of a line on
module _ (n : ℕ) (form line : List ℕ) where
  abbrev start : Found n
  start = record { at = 0; count = 0; places = replicate n no_place }

  -- a form of few enough fields has them wherever it is read, a place for each
  pub found_there : (vs : List (List ℕ)) → marks form ≤ n → read_form form line ≡ some vs
      → found_of n form line ≡ Ok (record { at = length line; count = marks form; places = places_from 0 form line ++ replicate (n - marks form) no_place })
  unfolding found_of
  found_there vs h e =
      let all : 0 + marks form ≡ marks form = omega arith in
      whole line form start vs (length-replicate n no_place) (omega arith) (omega (arith, h)) e ∙ rw (all, drop-replicate (marks form) n no_place)

  pub all_there : (vs : List (List ℕ)) → marks form ≡ n → read_form form line ≡ some vs
      → found_of n form line ≡ Ok (record { at = length line; count = n; places = places_from 0 form line })
  all_there vs m e =
      let none : n - n ≡ 0 = omega arith in
      found_there vs (omega (arith, m)) e ∙ rw (m, none, append-nil (places_from 0 form line))

  none_there : (marks form ≤ n → read_form form line ≡ none) → Refused line form start
  none_there e = refused line form start (omega arith) (λ h. e (omega (arith, h)))

  -- a line is of the form, and its places are found; or it is refused
  settled : (P : Result (Found n) (Found n) → Type 0)
      → ((vs : List (List ℕ)) → marks form ≤ n → read_form form line ≡ some vs → P (found_of n form line))
      → ((d : Found n) → (marks form ≤ n → read_form form line ≡ none) → P (Err d)) → P (found_of n form line)
  unfolding found_of
  settled P is not = split (dec_le (marks form) n) (read_form form line) refl
    where
      off : (marks form ≤ n → read_form form line ≡ none) → P (found_of n form line)
      off e = let (d, r) = none_there e in rw r (not d e)

      split : Dec (marks form ≤ n) → (o : Option (List (List ℕ))) → read_form form line ≡ o → P (found_of n form line)
      split (yes h) (some vs) e = is vs h e
      split (yes h) none e = off (λ q. e)
      split (no h) o e = off (λ q. absurd (h q))

  -- these are the fields
  pub told : read_few n form line ≡ found_in form line (found_of n form line)
  unfolding read_few found_in
  told = settled (λ r. read_few n form line ≡ found_in form line r) is not
    where
      is : (vs : List (List ℕ)) → marks form ≤ n → read_form form line ≡ some vs → read_few n form line ≡ found_in form line (found_of n form line)
      is vs h e = rw (le-leb (marks form) n h, found_there vs h e, take_at (places_from 0 form line) (replicate (n - marks form) no_place) (marks form) (one_each form 0 line), places_hold form line vs e) e

      not : (d : Found n) → (marks form ≤ n → read_form form line ≡ none) → read_few n form line ≡ none
      not d e = split (dec_le (marks form) n)
        where
          split : Dec (marks form ≤ n) → read_few n form line ≡ none
          split (yes h) = rw (le-leb (marks form) n h) (e h)
          split (no h) = rw (lt-leb (marks form) n (omega (arith, h)))

  -- where a line is of the form, its places are those of the form's fields
  pub places_found : (c : Found n) → found_of n form line ≡ Ok c → take (marks form) c.places ≡ places_from 0 form line
  places_found c = settled (λ r. r ≡ Ok c → take (marks form) c.places ≡ places_from 0 form line) is (λ d e f. cc)
    where
      is : (vs : List (List ℕ)) → marks form ≤ n → read_form form line ≡ some vs → found_of n form line ≡ Ok c → take (marks form) c.places ≡ places_from 0 form line
      is vs h e f =
          let p = ok_same _ _ (sym f ∙ found_there vs h e) in
          rw p (take_at (places_from 0 form line) (replicate (n - marks form) no_place) (marks form) (one_each form 0 line))

  pub all_found : (c : Found n) → marks form ≡ n → found_of n form line ≡ Ok c → c.places ≡ places_from 0 form line
  all_found c m = settled (λ r. r ≡ Ok c → c.places ≡ places_from 0 form line) is (λ d e f. cc)
    where
      is : (vs : List (List ℕ)) → marks form ≤ n → read_form form line ≡ some vs → found_of n form line ≡ Ok c → c.places ≡ places_from 0 form line
      is vs h e f = ap (λ (d : Found n). d.places) (ok_same _ _ (sym f ∙ all_there vs m e))

-- ---- The loop of `read_form`

-- the first i bytes of the form fit the line up to `at`: what was found, and what is left to read
pub record Fits (n : ℕ) (form line : List ℕ) (at count : ℕ) (places : List Place) (i : ℕ) : Type 0 where
  pub exact : found_of n form line ≡ found_from (drop i form) line (record { at = at; count = count; places = places })

-- what the reader answers
pub record Answered (n : ℕ) (form line : List ℕ) (r : Result (Found n) (Found n)) : Type 0 where
  pub fields : read_few n form line ≡ found_in form line r
  pub exact : r ≡ found_of n form line

answered : (n : ℕ) (form line : List ℕ) (r : Result (Found n) (Found n)) → found_of n form line ≡ r → Answered n form line r
answered n form line r e = record { fields = rw (← e) (told n form line); exact = sym e }

pub fit_start : (n : ℕ) (form line : List ℕ) → Fits n form line 0 0 (replicate n no_place) 0
unfolding found_of
fit_start n form line = record { exact = refl }

module _ (n : ℕ) (form line : List ℕ) (at count : ℕ) (places : List Place) (i : ℕ) (fit : Fits n form line at count places i) where
  abbrev c : Found n
  c = record { at = at; count = count; places = places }

  module _ (more : i < length form) where
    abbrev b : ℕ
    b = get_or form i 0

    on : (d : Found n) → form_step b line c ≡ Ok d → found_of n form line ≡ found_from (drop (i + 1) form) line d
    on d e = fit.exact ∙ rw (ahead form i more) (found_on b line c (drop (i + 1) form) d e)

    off : (d : Found n) → form_step b line c ≡ Err d → Answered n form line (Err d)
    off d e = answered n form line (Err d) (fit.exact ∙ rw (ahead form i more) (found_off b line c (drop (i + 1) form) d e))

    module _ (e : eqb b 35 ≡ true) where
      -- a field more than are read
      pub fit_full : n ≤ count → Answered n form line (Err c)
      fit_full h = off c (step_full b line c e h)

      pub fit_mark : (end : ℕ) → end ≡ at + length (field (drop at line)) → count < n → Fits n form line end (count + 1) (set places count (record { from = at; to = end })) (i + 1)
      fit_mark end w h = rw w (record { exact = on (taken b line c) (step_mark b line c e h) })

    module _ (e : eqb b 35 ≡ false) where
      pub fit_end : length line ≤ at → Answered n form line (Err c)
      fit_end h = off c (step_end b line c e h)

      pub fit_unlike : at < length line → (get_or line at 0 ≡ b → ⊥) → Answered n form line (Err (record { at = at + 1; count = count; places = places }))
      fit_unlike h d = off (next b line c) (step_unlike b line c e h (ne_eqb (get_or line at 0) b d))

      pub fit_byte : at < length line → get_or line at 0 ≡ b → Fits n form line (at + 1) count places (i + 1)
      fit_byte h d = record { exact = on (next b line c) (step_byte b line c e h (eq-eqb (get_or line at 0) b d)) }

  -- at the end of the form: the line is read, or something is left of it
  module _ (past : length form ≤ i) where
    pub fit_left : at < length line → Answered n form line (Err c)
    fit_left h = answered n form line (Err c) (fit.exact ∙ rw (drop_of_length-le form {i = i} past) (found_left line c h))

    pub fit_whole : length line ≤ at → Answered n form line (Ok c)
    fit_whole h = answered n form line (Ok c) (fit.exact ∙ rw (drop_of_length-le form {i = i} past) (found_end line c h))

-- What is proved of sets of marks. `Sized marks` says that a set has its 16 places, as every set of a program has. Runs of calls are in
-- `Runs`.
use mathlib.Core.Path.{◌≡◌, refl, sym, ap, ap₂, ◌∙◌}
use mathlib.Core.Bool.{Bool, true, false, false≢true}
use mathlib.Core.List.{List, [], ◌∷◌}
use Prim.Native.Nat.{ℕ, ◌≤◌, ◌<◌}
use native.Mathlib.Omega.{arith}
use lib.Dec.{ltb, eqb}
use lib.ListN.{length, get_or, set, take, length-set}
use lib.Seq.{get_or-set_same, get_or-set_other, set-set}
use borrow.Author.Tests.{ne_eqb, eqb-true, eqb-false, ltb-true, ltb-false, lt-ltb, le-ltb, not-true}
use Rattle.streams.specs.declared.Generator.{Generator}
use Rattle.streams.specs.declared.RecordAnswer.{RecordAnswer}
use Rattle.streams.specs.Streams.{first_cause, if_accepted}
use Rattle.streams.proofs.Causes.{lone_cause}
use Rattle.text.specs.Fields.{name}
use Rattle.text.proofs.Plain.{name_length_lem}
use Rattle.marks.specs.declared.label.Label.{Label}
use Rattle.marks.specs.Marks.{
  Marks,
  places,
  has_name,
  is_free,
  label_of,
  no_label,
  no_record,
  first_place,
  place_of,
  save_place,
  idle_code,
  name_code,
  place_code,
  place_to_save,
  place_to_return,
  place_to_drop,
  stored,
  saved_of,
  returned_of,
  dropped_of,
  Sized,
}
use Rattle.marks.proofs.Placing.{each_none, save_inside, return_inside, drop_inside}
use Rattle.marks.proofs.Names.{has, own_name, one_name, free_name}
use Rattle.marks.proofs.First.{first_passes, first_before, first_put, first_stays}

-- ---- Names in a set

-- A malformed name in a set matches none: what a well-formed name matches is that name, well-formed.
pub malformed_matches_none : (x : List ℕ) (label : Label) → name x ≡ true
    → name (take label.length label.bytes) ≡ false → has_name x label ≡ false
malformed_matches_none x label good bad = by_test (has_name x label) refl
  where
    use_it : has_name x label ≡ true → name (take label.length label.bytes) ≡ true
    use_it e = rw (has x label e).is good

    by_test : (t : Bool) → has_name x label ≡ t → t ≡ false
    by_test true e = sym (use_it e) ∙ bad
    by_test false e = refl

-- Where a set holds a name twice, the first is meant: no place before the one meant has it.
pub first_is_meant : (labels : List Label) (x : List ℕ) (i : ℕ) → i < place_of labels x → has_name x (get_or labels i no_label) ≡ false
first_is_meant labels x i h = first_before (has_name x) labels i no_label h

-- ---- A stored place

-- what a return gives, of its place and the record there
answer_at : Generator → List ℕ → ℕ → Generator → RecordAnswer
unfolding place_code
answer_at h x place kept =
    let code : ℕ = first_cause (idle_code h ∷ name_code x ∷ place_code place 19 ∷ []) in
    record { code = code; next = if_accepted code kept h }

return_is : (marks : Marks) (h : Generator) (x : List ℕ)
    → returned_of marks h x ≡ answer_at h x (place_of marks.labels x) (get_or marks.records (place_of marks.labels x) no_record)
unfolding returned_of place_to_return answer_at
return_is marks h x = refl

-- a well-formed name that is held is refused for the record alone
accepted_at : (h : Generator) (x : List ℕ) (p : ℕ) (kept : Generator) → name x ≡ true → p < places
    → answer_at h x p kept ≡ record { code = idle_code h; next = if_accepted (idle_code h) kept h }
unfolding answer_at name_code place_code
accepted_at h x p kept good at =
    let code_is : first_cause (idle_code h ∷ name_code x ∷ place_code p 19 ∷ []) ≡ idle_code h
    = rw (name_code, place_code, good, lt-ltb p places at) (lone_cause (idle_code h)) in
    ap (λ (n : ℕ). record { code = n; next = if_accepted n kept h }) code_is

module _ (marks : Marks) (sized : Sized marks) (p : ℕ) (at : p < places) (label : Label) (g : Generator) where
  pub stored_sized : Sized (stored marks p label g)
  stored_sized =
      record {
        labels_size = length-set marks.labels p label ∙ sized.labels_size;
        records_size = length-set marks.records p g ∙ sized.records_size;
      }

  -- no other place changes
  pub stored_others : (j : ℕ) → (j ≡ p → ⊥)
      → (get_or (stored marks p label g).labels j no_label ≡ get_or marks.labels j no_label)
      × (get_or (stored marks p label g).records j no_record ≡ get_or marks.records j no_record)
  stored_others j other =
      (get_or-set_other marks.labels p j label no_label other, get_or-set_other marks.records p j g no_record other)

  -- where neither the label that was there nor the new one has the name, returning to it gives what it gave
  pub stored_elsewhere : (h : Generator) (x : List ℕ) → has_name x (get_or marks.labels p no_label) ≡ false
      → has_name x label ≡ false → returned_of (stored marks p label g) h x ≡ returned_of marks h x
  stored_elsewhere h x old new =
      return_is (stored marks p label g) h x
      ∙ ap (λ (n : ℕ). answer_at h x n (get_or (set marks.records p g) n no_record)) stays
      ∙ ap (answer_at h x place) (stored_others place away).1
      ∙ sym (return_is marks h x)
    where
      place : ℕ
      place = place_of marks.labels x

      stays : place_of (set marks.labels p label) x ≡ place
      stays = first_stays (has_name x) marks.labels p label no_label old new

      away : place ≡ p → ⊥
      away e =
          let here : has_name x (get_or marks.labels place no_label) ≡ true
          = first_passes (has_name x) marks.labels no_label (omega (arith, e, at, sized.labels_size)) in
          false≢true (sym old ∙ (rw e at here))

  -- where the name is put no later than it stands, returning to it gives the record that was put there
  pub stored_here : (h : Generator) (x : List ℕ) → name x ≡ true → p ≤ place_of marks.labels x → has_name x label ≡ true
      → returned_of (stored marks p label g) h x ≡ record { code = idle_code h; next = if_accepted (idle_code h) g h }
  stored_here h x good early new =
      return_is (stored marks p label g) h x
      ∙ ap (λ (n : ℕ). answer_at h x n (get_or (set marks.records p g) n no_record)) meant
      ∙ ap (answer_at h x p) (get_or-set_same marks.records p g no_record (omega (arith, at, sized.records_size)))
      ∙ accepted_at h x p g good at
    where
      meant : place_of (set marks.labels p label) x ≡ p
      meant = first_put (has_name x) marks.labels p label early (omega (arith, at, sized.labels_size)) new

-- ---- Saving

-- Where an accepted save puts a mark: inside the set, no later than its name stands, and where no other name stands.
pub record SavedAt (labels : List Label) (x : List ℕ) (p : ℕ) : Type 0 where
  pub within : p < places
  pub early : p ≤ place_of labels x
  pub others : (y : List ℕ) → (y ≡ x → ⊥) → has_name y (get_or labels p no_label) ≡ false

saved_at : (labels : List Label) (x : List ℕ) → length labels ≡ places → save_place labels x < places
    → SavedAt labels x (save_place labels x)
unfolding save_place
saved_at labels x size at = by_test (ltb (place_of labels x) places) refl
  where
    by_test : (t : Bool) → ltb (place_of labels x) places ≡ t → SavedAt labels x (save_place labels x)
    by_test true e =
        let is : save_place labels x ≡ place_of labels x = rw (save_place, e) in
        let held = ltb-true (place_of labels x) places e in
        rw is
        (record {
          within = held;
          early = omega arith;
          others = λ y other. one_name y x _ other (first_passes (has_name x) labels no_label (omega (arith, size, held)));
        })
    by_test false e =
        let is : save_place labels x ≡ first_place is_free labels = rw (save_place, e) in
        let free : first_place is_free labels < places = rw is at at in
        let new = ltb-false (place_of labels x) places e in
        rw is
        (record {
          within = free;
          early = omega (arith, free, new);
          others =
              λ y other. free_name y _ (not-true _ (first_passes is_free labels no_label (omega (arith, size, free))));
        })

name_good : (x : List ℕ) → name_code x ≡ 0 → name x ≡ true
unfolding name_code
name_good x h = by_test (name x) refl
  where
    by_test : (t : Bool) → name x ≡ t → t ≡ true
    by_test true e = refl
    by_test false e =
        let none : ◌≡◌ {A = ℕ} 18 0 = rw (name_code, e) at h in
        absurd (omega (arith, none))

module _ (marks : Marks) (g : Generator) (x : List ℕ) where
  -- An accepted save puts the mark in its place, and nothing else is changed;
  pub save_accepted : (saved_of marks g x).code ≡ 0
      → (idle_code g ≡ 0) × (name x ≡ true) × (save_place marks.labels x < places)
      × ((saved_of marks g x).next ≡ stored marks (save_place marks.labels x) (label_of x) g)
  unfolding saved_of place_to_save
  save_accepted h =
      let none = each_none (idle_code g ∷ name_code x ∷ place_code (save_place marks.labels x) 20 ∷ []) h in
      (none 0, name_good x (none 1), save_inside marks.labels g x h, rw (saved_of, h))

  -- refused, all comes back as passed.
  pub save_refused : ((saved_of marks g x).code ≡ 0 → ⊥) → (saved_of marks g x).next ≡ marks
  unfolding saved_of
  save_refused h = rw (saved_of, ne_eqb _ 0 h)

module _ (marks : Marks) (sized : Sized marks) (g : Generator) (x : List ℕ) where
  -- What holds of the set passed in and of one with the mark in its place holds of the set that a save returns.
  pub save_either : (P : Marks → Type 0) → P marks
      → (idle_code g ≡ 0 → name x ≡ true → SavedAt marks.labels x (save_place marks.labels x)
      → P (stored marks (save_place marks.labels x) (label_of x) g))
      → P (saved_of marks g x).next
  save_either P before after = by_test (eqb (saved_of marks g x).code 0) refl
    where
      by_test : (t : Bool) → eqb (saved_of marks g x).code 0 ≡ t → P (saved_of marks g x).next
      by_test true e =
          let (fits, good, at, is) = save_accepted marks g x (eqb-true _ _ e) in
          rw is (after fits good (saved_at marks.labels x sized.labels_size at))
      by_test false e = rw (save_refused marks g x (eqb-false _ _ e)) before

  pub save_sized : Sized (saved_of marks g x).next
  save_sized = save_either Sized sized (λ fits good at. stored_sized marks sized _ at.within (label_of x) g)

  -- Save, then return: the record is the saved one, refused for the record passed in alone.
  pub save_return : (h : Generator) → (saved_of marks g x).code ≡ 0
      → returned_of (saved_of marks g x).next h x ≡ record { code = idle_code h; next = if_accepted (idle_code h) g h }
  save_return h e =
      let (fits, good, at, is) = save_accepted marks g x e in
      let placed = saved_at marks.labels x sized.labels_size at in
      rw is (stored_here marks sized _ at (label_of x) g h x good placed.early (own_name x (name_length_lem x good)))

  -- A save changes no other mark: returning to any other name gives what it gave,
  pub save_leaves : (h : Generator) (y : List ℕ) → (y ≡ x → ⊥)
      → returned_of (saved_of marks g x).next h y ≡ returned_of marks h y
  save_leaves h y other =
      save_either (λ next. returned_of next h y ≡ returned_of marks h y) refl
      (λ fits good at. stored_elsewhere marks sized _ at.within (label_of x) g h y (at.others y other)
      (one_name y x (label_of x) other (own_name x (name_length_lem x good))))

  -- and every other place is as it was.
  pub save_others : (j : ℕ) → (j ≡ save_place marks.labels x → ⊥)
      → (get_or (saved_of marks g x).next.labels j no_label ≡ get_or marks.labels j no_label)
      × (get_or (saved_of marks g x).next.records j no_record ≡ get_or marks.records j no_record)
  save_others j other =
      save_either
      (λ next. (get_or next.labels j no_label ≡ get_or marks.labels j no_label)
      × (get_or next.records j no_record ≡ get_or marks.records j no_record))
      (refl, refl)
      (λ fits good at. stored_others marks sized _ at.within (label_of x) g j other)

-- ---- Dropping

module _ (marks : Marks) (x : List ℕ) where
  pub drop_accepted : (dropped_of marks x).code ≡ 0
      → (name x ≡ true) × (place_of marks.labels x < places)
      × ((dropped_of marks x).next ≡ stored marks (place_of marks.labels x) no_label no_record)
  unfolding dropped_of place_to_drop
  drop_accepted h =
      let none = each_none (name_code x ∷ place_code (place_of marks.labels x) 19 ∷ []) h in
      (name_good x (none 0), drop_inside marks.labels x h, rw (dropped_of, h))

  pub drop_refused : ((dropped_of marks x).code ≡ 0 → ⊥) → (dropped_of marks x).next ≡ marks
  unfolding dropped_of
  drop_refused h = rw (dropped_of, ne_eqb _ 0 h)

module _ (marks : Marks) (sized : Sized marks) (x : List ℕ) where
  pub drop_either : (P : Marks → Type 0) → P marks
      → (place_of marks.labels x < places → P (stored marks (place_of marks.labels x) no_label no_record))
      → P (dropped_of marks x).next
  drop_either P before after = by_test (eqb (dropped_of marks x).code 0) refl
    where
      by_test : (t : Bool) → eqb (dropped_of marks x).code 0 ≡ t → P (dropped_of marks x).next
      by_test true e =
          let (good, at, is) = drop_accepted marks x (eqb-true _ _ e) in
          rw is (after at)
      by_test false e = rw (drop_refused marks x (eqb-false _ _ e)) before

  pub drop_sized : Sized (dropped_of marks x).next
  drop_sized = drop_either Sized sized (λ at. stored_sized marks sized _ at no_label no_record)

  -- A drop changes no other mark, and no other place.
  pub drop_leaves : (h : Generator) (y : List ℕ) → (y ≡ x → ⊥)
      → returned_of (dropped_of marks x).next h y ≡ returned_of marks h y
  drop_leaves h y other =
      drop_either (λ next. returned_of next h y ≡ returned_of marks h y) refl
      (λ at. stored_elsewhere marks sized _ at no_label no_record h y
      (one_name y x _ other (first_passes (has_name x) marks.labels no_label (omega (arith, at, sized.labels_size))))
      (free_name y no_label refl))

  pub drop_others : (j : ℕ) → (j ≡ place_of marks.labels x → ⊥)
      → (get_or (dropped_of marks x).next.labels j no_label ≡ get_or marks.labels j no_label)
      × (get_or (dropped_of marks x).next.records j no_record ≡ get_or marks.records j no_record)
  drop_others j other =
      drop_either
      (λ next. (get_or next.labels j no_label ≡ get_or marks.labels j no_label)
      × (get_or next.records j no_record ≡ get_or marks.records j no_record))
      (refl, refl)
      (λ at. stored_others marks sized _ at no_label no_record j other)

  -- Drop, then save under a new name: the freed place is used where no place before it is free.
  pub drop_save : (g : Generator) (y : List ℕ) → (dropped_of marks x).code ≡ 0
      → place_of marks.labels x ≤ first_place is_free marks.labels
      → places ≤ place_of (dropped_of marks x).next.labels y → idle_code g ≡ 0 → name y ≡ true
      → saved_of (dropped_of marks x).next g y
      ≡ record { code = 0; next = stored marks (place_of marks.labels x) (label_of y) g }
  unfolding saved_of place_to_save save_place name_code place_code
  drop_save g y h first new fits good =
      let p = place_of marks.labels x in
      let (_, at, is) = drop_accepted marks x h in
      let freed : first_place is_free (set marks.labels p no_label) ≡ p
      = first_put is_free marks.labels p no_label first (omega (arith, at, sized.labels_size)) refl in
      let new' : places ≤ place_of (set marks.labels p no_label) y = rw is at new in
      rw (
        is,
        saved_of,
        place_to_save,
        save_place,
        le-ltb (place_of (set marks.labels p no_label) y) places new',
        freed,
        name_code,
        place_code,
        fits,
        good,
        lt-ltb p places at,
      )
      (ap₂ (λ (l : List Label) (r : List Generator). record { code = 0; next = record { labels = l; records = r } })
      (set-set marks.labels p no_label (label_of y))
      (set-set marks.records p no_record g))

-- ---- Returning

module _ (marks : Marks) (h : Generator) (x : List ℕ) where
  -- An accepted return gives the record in the place of the name,
  pub return_accepted : (returned_of marks h x).code ≡ 0
      → (place_of marks.labels x < places)
      × ((returned_of marks h x).next ≡ get_or marks.records (place_of marks.labels x) no_record)
  unfolding returned_of place_to_return
  return_accepted e = (return_inside marks.labels h x e, rw (returned_of, e))

  -- a refused one the record passed in.
  pub return_refused : ((returned_of marks h x).code ≡ 0 → ⊥) → (returned_of marks h x).next ≡ h
  unfolding returned_of
  return_refused e = rw (returned_of, ne_eqb _ 0 e)

  -- What holds of the record passed in and of the one in the place of the name holds of the record that a return returns.
  pub return_either : (P : Generator → Type 0) → P h
      → (place_of marks.labels x < places → P (get_or marks.records (place_of marks.labels x) no_record))
      → P (returned_of marks h x).next
  return_either P before after = by_test (eqb (returned_of marks h x).code 0) refl
    where
      by_test : (t : Bool) → eqb (returned_of marks h x).code 0 ≡ t → P (returned_of marks h x).next
      by_test true e =
          let (at, is) = return_accepted (eqb-true _ _ e) in
          rw is (after at)
      by_test false e = rw (return_refused (eqb-false _ _ e)) before

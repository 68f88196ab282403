-- The members that a call leaves are, to the next call, the set that it returned.
use mathlib.Core.Path.{◌≡◌, refl, sym, ap, ap₂, ◌∙◌}
use mathlib.Core.Bool.{Bool, true, false, not}
use mathlib.Core.List.{List, [], ◌∷◌, ◌++◌}
use Prim.Native.Nat.{ℕ, zero, suc, ◌+◌, ◌*◌, ◌≤◌, ◌<◌}
use native.Mathlib.Omega.{arith}
use native.Mathlib.Nat.{add-suc}
use lib.Dec.{eqb}
use lib.ListN.{length, get_or, take, drop, set, replicate, length-drop}
use lib.Seq.{sets, sets-eq, take-set-le, drop-set-add, take-append_seam, drop-append_seam, drop-drop}
use borrow.Author.Tests.{eqb-true}
use Rattle.streams.specs.declared.Generator.{Generator}
use Rattle.text.specs.Limits.{name_length}
use Rattle.text.specs.Buffer.{written}
use Rattle.streams.specs.Streams.{seed_of, record_code, fit}
use Rattle.text.proofs.Writing.{written_length}
use Rattle.jabulghi.specs.Words.{generator_of}
use Rattle.marks.specs.declared.label.Label.{Label}
use Rattle.marks.specs.Marks.{places, label_of, no_label, no_record, place_to_save, place_to_return, place_to_drop, stored, saved_of, returned_of, dropped_of}
use Rattle.marks.proofs.Placing.{save_inside, return_inside, drop_inside}
use Rattle.jabulghi_marks.specs.Members.{record_words, names_length, records_length, Members, labels_of, records_of, set_of, stored_in, saved_in, returned_words, dropped_in}

-- ---- Writes beyond the first n elements, and over them

module _ (n : ℕ) where
  later_take : (k : ℕ) (l s : List ℕ) → take n (sets l (n + k) s) ≡ take n l
  later_take k l [] = refl
  later_take k l (a ∷ s) =
      ap (λ (i : ℕ). take n (sets (set l (n + k) a) i s)) (sym (add-suc n k))
      ∙ later_take (suc k) (set l (n + k) a) s
      ∙ take-set-le n l (n + k) a (omega arith)

  later_drop : (k : ℕ) (l s : List ℕ) → drop n (sets l (n + k) s) ≡ sets (drop n l) k s
  later_drop k l [] = refl
  later_drop k l (a ∷ s) =
      ap (λ (i : ℕ). drop n (sets (set l (n + k) a) i s)) (sym (add-suc n k))
      ∙ later_drop (suc k) (set l (n + k) a) s
      ∙ ap (λ (r : List ℕ). sets r (suc k) s) (drop-set-add n l k a)

  module _ (l s : List ℕ) (size : length s ≡ n) (room : n ≤ length l) where
    front : sets l 0 s ≡ s ++ drop n l
    front = sets-eq s l 0 (omega (arith, size)) ∙ ap (λ (i : ℕ). s ++ drop i l) {x = 0 + length s} {y = n} (omega (arith, size))

    front_take : take n (sets l 0 s) ≡ s
    front_take = ap (take n) front ∙ rw (← size) (take-append_seam s (drop (length s) l))

    front_drop : drop n (sets l 0 s) ≡ drop n l
    front_drop = ap (drop n) front ∙ rw (← size) (drop-append_seam s (drop (length s) l))

-- ---- Members with one place written

labels_put : (p : ℕ) (used lengths names : List ℕ) (u : ℕ) (label : Label)
    → p < length used → length lengths ≡ length used → length names ≡ length used * name_length
    → length label.bytes ≡ name_length → label.used ≡ not (eqb u 0)
    → labels_of (set used p u) (set lengths p label.length) (sets names (p * name_length) label.bytes)
    ≡ set (labels_of used lengths names) p label
unfolding labels_of
labels_put p [] lengths names u label h e n b t = absurd (omega arith)
labels_put p (x ∷ used) [] names u label h e n b t = absurd (omega arith)
labels_put zero (x ∷ used) (y ∷ lengths) names u label h e n b t =
    rw (
      front_take name_length names label.bytes b (omega (arith, n)),
      front_drop name_length names label.bytes b (omega (arith, n)),
      ← t,
    ) refl
labels_put (suc p) (x ∷ used) (y ∷ lengths) names u label h e n b t =
    let at : suc p * name_length ≡ name_length + p * name_length = omega arith in
    let rest = labels_put p used lengths (drop name_length names) u label (omega arith) (omega arith)
    (length-drop name_length names ∙ omega (arith, n)) b t in
    rw (at, later_take name_length (p * name_length) names label.bytes, later_drop name_length (p * name_length) names label.bytes)
    (ap (λ (l : List Label). record { used = not (eqb x 0); length = y; bytes = take name_length names } ∷ l) rest)

records_put : (p n : ℕ) (words w : List ℕ) → p < n → length words ≡ n * record_words → length w ≡ record_words
    → records_of n (sets words (p * record_words) w) ≡ set (records_of n words) p (generator_of w)
unfolding records_of
records_put p zero words w h e b = absurd (omega arith)
records_put zero (suc n) words w h e b =
    rw (front_take record_words words w b (omega (arith, e)), front_drop record_words words w b (omega (arith, e))) refl
records_put (suc p) (suc n) words w h e b =
    let at : suc p * record_words ≡ record_words + p * record_words = omega arith in
    let rest = records_put p n (drop record_words words) w (omega arith) (length-drop record_words words ∙ omega (arith, e)) b in
    rw (at, later_take record_words (p * record_words) words w, later_drop record_words (p * record_words) words w)
    (ap (λ (l : List Generator). generator_of (take record_words words) ∷ l) rest)

records_at : (p n : ℕ) (words : List ℕ) (d : Generator) → p < n
    → get_or (records_of n words) p d ≡ generator_of (take record_words (drop (p * record_words) words))
unfolding records_of
records_at p zero words d h = absurd (omega arith)
records_at zero (suc n) words d h = refl
records_at (suc p) (suc n) words d h =
    let at : record_words + p * record_words ≡ suc p * record_words = omega arith in
    records_at p n (drop record_words words) d (omega arith)
    ∙ ap (λ (l : List ℕ). generator_of (take record_words l)) (drop-drop (p * record_words) record_words words ∙ ap (λ (i : ℕ). drop i words) at)

-- ---- What a call leaves

-- What the types say of the members.
pub record Sizes (m : Members) : Type 0 where
  pub used_size : length m.used ≡ places
  pub lengths_size : length m.lengths ≡ places
  pub names_size : length m.names ≡ names_length
  pub records_size : length m.records ≡ records_length

stored_is : (m : Members) (p u : ℕ) (label : Label) (w : List ℕ) → Sizes m → p < places → length label.bytes ≡ name_length
    → label.used ≡ not (eqb u 0) → length w ≡ record_words
    → set_of (stored_in m p u label w) ≡ stored (set_of m) p label (generator_of w)
unfolding written
stored_is m p u label w s h b t k =
    ap₂ (λ (l : List Label) (r : List Generator). record { labels = l; records = r })
    (labels_put p m.used m.lengths m.names u label (omega (arith, h, s.used_size)) (s.lengths_size ∙ sym s.used_size)
    (s.names_size ∙ ap (λ (n : ℕ). n * name_length) (sym s.used_size)) b t)
    (records_put p places m.records w h s.records_size k)

-- Saving, returning and dropping, from the members, are the calls of `marks` on the set that they are; a code is the same by definition.
module _ (m : Members) (s : Sizes m) (words x : List ℕ) (size : length words ≡ record_words) where
  pub save_is : set_of (saved_in m words x) ≡ (saved_of (set_of m) (generator_of words) x).next
  unfolding saved_in saved_of label_of
  save_is = by_test (eqb code 0) refl
    where
      code : ℕ
      code = (place_to_save (set_of m).labels (generator_of words) x).code

      by_test : (t : Bool) → eqb code 0 ≡ t → set_of (saved_in m words x) ≡ (saved_of (set_of m) (generator_of words) x).next
      by_test true e =
          rw (saved_in, saved_of, e)
          (stored_is m _ 1 (label_of x) words s (save_inside (set_of m).labels (generator_of words) x (eqb-true _ _ e))
          (written_length (replicate name_length 0) 0 x) refl size)
      by_test false e = rw (saved_in, saved_of, e)

  pub return_is : generator_of (returned_words m words x) ≡ (returned_of (set_of m) (generator_of words) x).next
  unfolding returned_words returned_of
  return_is = by_test (eqb code 0) refl
    where
      code : ℕ
      code = (place_to_return (set_of m).labels (generator_of words) x).code

      by_test : (t : Bool) → eqb code 0 ≡ t
          → generator_of (returned_words m words x) ≡ (returned_of (set_of m) (generator_of words) x).next
      by_test true e =
          rw (returned_words, returned_of, e)
          (sym (records_at _ places m.records no_record (return_inside (set_of m).labels (generator_of words) x (eqb-true _ _ e))))
      by_test false e = rw (returned_words, returned_of, e)

pub drop_is : (m : Members) (s : Sizes m) (x : List ℕ) → set_of (dropped_in m x) ≡ (dropped_of (set_of m) x).next
unfolding dropped_in dropped_of no_record seed_of record_code fit
drop_is m s x = by_test (eqb code 0) refl
  where
    code : ℕ
    code = (place_to_drop (set_of m).labels x).code

    by_test : (t : Bool) → eqb code 0 ≡ t → set_of (dropped_in m x) ≡ (dropped_of (set_of m) x).next
    by_test true e =
        rw (dropped_in, dropped_of, e)
        (stored_is m _ 0 no_label (replicate record_words 0) s (drop_inside (set_of m).labels x (eqb-true _ _ e)) refl refl refl)
    by_test false e = rw (dropped_in, dropped_of, e)

-- Labels read place by place, and words written one after another.
use mathlib.Core.Path.{◌≡◌, refl, sym, ap, ◌∙◌}
use mathlib.Core.Bool.{not}
use mathlib.Core.List.{List, [], ◌∷◌, ◌++◌, append-nil}
use Prim.Native.Nat.{ℕ, ◌+◌, ◌*◌, ◌≤◌, ◌<◌}
use native.Mathlib.Omega.{arith}
use native.Mathlib.Numerals.{add-one}
use lib.Dec.{eqb}
use lib.ListN.{length, get_or, take, drop, set, length-set, drop_of_length-le}
use lib.Seq.{drop-cons, drop-drop, take-suc-set, take_all, append_snoc}
use borrow.Rule.Slice.PartMut.{put_mid}
use Rattle.std.proofs.Common.{append_assoc}
use Rattle.std.proofs.lemmas.List.Edits.{sets-eq, paste_all}
use Rattle.std.proofs.lemmas.Slice.{put_mid-paste}
use Rattle.text.specs.Limits.{name_length}
use Rattle.text.specs.Buffer.{written}
use Rattle.marks.specs.declared.label.Label.{Label}
use Rattle.marks.specs.Marks.{places}
use Rattle.jabulghi_marks.specs.Members.{labels_of}

-- a part that is written over
pub part_written : (out words : List ℕ) (at : ℕ) {new : List ℕ} {k : ℕ} → at + length words ≤ length out → new ≡ words → length words ≡ k
    → put_mid at k out new ≡ written out at words
unfolding written
part_written out words at {new} {k} room same size =
    put_mid-paste at k out new words (length words) same size refl
    ∙ paste_all out at words (length words) refl
    ∙ sym (append_assoc (take at out) words (drop (at + length words) out))
    ∙ sym (sets-eq words out at room)

-- the labels of i places are there
pub record Filled (used lengths names : List ℕ) (labels : List Label) (i : ℕ) : Type 0 where
  pub size : length labels ≡ places
  pub first : take i labels ++ labels_of (drop i used) (drop i lengths) (drop (i * name_length) names) ≡ labels_of used lengths names

module _ (used lengths names : List ℕ) (us : length used ≡ places) (ls : length lengths ≡ places) (labels : List Label) (i : ℕ)
    (so_far : Filled used lengths names labels i) where
  pub filled_next : (label : Label) → i < places
      → label ≡ record { used = not (eqb (get_or used i 0) 0); length = get_or lengths i 0; bytes = take name_length (drop (i * name_length) names) }
      → Filled used lengths names (set labels i label) (i + 1)
  unfolding labels_of
  filled_next label h e =
      let next : i * name_length + name_length ≡ (i + 1) * name_length = omega arith in
      let on : labels_of (drop i used) (drop i lengths) (drop (i * name_length) names)
      ≡ label ∷ labels_of (drop (i + 1) used) (drop (i + 1) lengths) (drop ((i + 1) * name_length) names)
      = rw (
        drop-cons used i 0 (omega (arith, us)),
        drop-cons lengths i 0 (omega (arith, ls)),
        labels_of,
        drop-drop name_length (i * name_length) names,
        next,
        add-one i,
        e,
      ) in
      record {
        size = length-set labels i label ∙ so_far.size;
        first =
            rw (add-one i, take-suc-set labels i label (omega (arith, so_far.size)))
            (append_snoc (take i labels) label _ ∙ sym (ap (λ (l : List Label). take i labels ++ l) (rw (add-one i) at on)) ∙ so_far.first);
      }

  pub filled_all : places ≤ i → labels ≡ labels_of used lengths names
  unfolding labels_of
  filled_all h =
      sym (take_all i labels (omega (arith, so_far.size))) ∙ sym (append-nil (take i labels))
      ∙ ap (λ (l : List Label). take i labels ++ l) (sym (none))
      ∙ so_far.first
    where
      none : labels_of (drop i used) (drop i lengths) (drop (i * name_length) names) ≡ []
      none = rw (drop_of_length-le used {i = i} (omega (arith, us)))

-- What `position` finds in the labels of a set is the first place that passes the test.
use Rattle.std.proofs.Common.{◌≡◌, refl, sym, ◌∙◌, ℕ, suc, ◌+◌, ◌<◌, Bool, true, false, List, [], ◌∷◌, length, Option, Some, None, position, IfSome, zero-add, arith}
use Rattle.std.specs.List.{position_from}
use Rattle.std.proofs.lemmas.Iterator.Adapters.{position_from-zero}
use Rattle.marks.specs.declared.label.Label.{Label}
use Rattle.marks.specs.Marks.{places, first_place}
use Rattle.marks.specs.Codes.{or_places, Within}

-- the place that was found, or the end
abbrev or_end : ℕ → Option ℕ → ℕ
or_end end (Some place) = place
or_end end None = end

or_places_is : (found : Option ℕ) → or_places found ≡ or_end places found
or_places_is (Some place) = refl
or_places_is None = refl

record Located (found : Option ℕ) (first end : ℕ) : Type 0 where
  is : or_end end found ≡ first
  within : IfSome found (λ place. place < end)

module _ (test : Label → Bool) where
  located : (i : ℕ) (l : List Label) (end : ℕ) → i + length l ≡ end → Located (position_from test i l) (i + first_place test l) end
  unfolding first_place
  located i [] end e = record { is = sym e; within = tt }
  located i (x ∷ l) end e = by_test (test x) refl (located (i + 1) l end (omega arith))
    where
      by_test : (t : Bool) → test x ≡ t → Located (position_from test (i + 1) l) (i + 1 + first_place test l) end
          → Located (position_from test i (x ∷ l)) (i + first_place test (x ∷ l)) end
      by_test true t later = rw t (record { is = omega arith; within = omega arith })
      by_test false t later =
          let on : i + 1 + first_place test l ≡ i + suc (first_place test l) = omega arith in
          rw (t, ← on) later

  at_0 : (l : List Label) → length l ≡ places → Located (position test l) (first_place test l) places
  at_0 l size = rw (position_from-zero test l, ← zero-add (first_place test l)) (located 0 l places (zero-add _ ∙ size))

  pub found_first : (l : List Label) → length l ≡ places → or_places (position test l) ≡ first_place test l
  found_first l size = or_places_is (position test l) ∙ (at_0 l size).is

  pub found_within : (l : List Label) → length l ≡ places → Within (position test l)
  found_within l size = (at_0 l size).within

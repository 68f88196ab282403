-- The first place of a test, and what a change of one place does to it.
use mathlib.Core.Path.{◌≡◌, refl, sym, ap, ◌∙◌}
use mathlib.Core.Bool.{Bool, true, false, cond}
use mathlib.Core.List.{List, [], ◌∷◌}
use Prim.Native.Nat.{ℕ, zero, suc, ◌≤◌, ◌<◌}
use native.Mathlib.Omega.{arith}
use lib.ListN.{length, get_or, set}
use Rattle.marks.specs.declared.label.Label.{Label}
use Rattle.marks.specs.Marks.{first_place}

module _ (test : Label → Bool) where
  passes : (x : Label) (l : List Label) → test x ≡ true → first_place test (x ∷ l) ≡ 0
  unfolding first_place
  passes x l e = rw (first_place, e)

  fails : (x : Label) (l : List Label) → test x ≡ false → first_place test (x ∷ l) ≡ suc (first_place test l)
  unfolding first_place
  fails x l e = rw (first_place, e)

  -- the first place of a test passes it,
  pub first_passes : (l : List Label) (d : Label) → first_place test l < length l → test (get_or l (first_place test l) d) ≡ true
  unfolding first_place
  first_passes [] d h = absurd (omega arith)
  first_passes (x ∷ l) d h = by_test (test x) refl (first_passes l d)
    where
      by_test : (t : Bool) → test x ≡ t → (first_place test l < length l → test (get_or l (first_place test l) d) ≡ true)
          → test (get_or (x ∷ l) (first_place test (x ∷ l)) d) ≡ true
      by_test true e again = rw (passes x l e) e
      by_test false e again = rw (fails x l e) (again (omega (arith, fails x l e)))

  -- and no place before it does
  pub first_before : (l : List Label) (i : ℕ) (d : Label) → i < first_place test l → test (get_or l i d) ≡ false
  unfolding first_place
  first_before [] i d h = absurd (omega arith)
  first_before (x ∷ l) zero d h = by_test (test x) refl
    where
      by_test : (t : Bool) → test x ≡ t → test x ≡ false
      by_test true e = absurd (omega (arith, passes x l e))
      by_test false e = e
  first_before (x ∷ l) (suc i) d h = by_test (test x) refl (first_before l i d)
    where
      by_test : (t : Bool) → test x ≡ t → (i < first_place test l → test (get_or l i d) ≡ false) → test (get_or l i d) ≡ false
      by_test true e again = absurd (omega (arith, passes x l e))
      by_test false e again = again (omega (arith, fails x l e))

  -- a label that passes, put no later than the first, is the first
  pub first_put : (l : List Label) (i : ℕ) (m : Label) → i ≤ first_place test l → i < length l → test m ≡ true
      → first_place test (set l i m) ≡ i
  first_put [] i m h k e = absurd (omega arith)
  first_put (x ∷ l) zero m h k e = passes m l e
  first_put (x ∷ l) (suc i) m h k e = by_test (test x) refl (first_put l i m)
    where
      by_test : (t : Bool) → test x ≡ t
          → (i ≤ first_place test l → i < length l → test m ≡ true → first_place test (set l i m) ≡ i)
          → first_place test (x ∷ set l i m) ≡ suc i
      by_test true u again = absurd (omega (arith, passes x l u))
      by_test false u again = fails x (set l i m) u ∙ ap suc (again (omega (arith, fails x l u)) (omega arith) e)

  -- one that fails, put where one failed, changes nothing
  pub first_stays : (l : List Label) (i : ℕ) (m d : Label) → test (get_or l i d) ≡ false → test m ≡ false
      → first_place test (set l i m) ≡ first_place test l
  unfolding first_place
  first_stays [] i m d h e = refl
  first_stays (x ∷ l) zero m d h e = fails m l e ∙ sym (fails x l h)
  first_stays (x ∷ l) (suc i) m d h e =
      ap (λ (n : ℕ). cond (test x) 0 (suc n)) (first_stays l i m d h e)

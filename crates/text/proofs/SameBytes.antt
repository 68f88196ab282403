-- Two byte strings, and what it says that they are the same.
use Prim.Native.Nat.{ℕ}
use mathlib.Core.Path.{◌≡◌, refl, sym, ap, ap₂, ◌∙◌}
use mathlib.Core.Bool.{Bool, true, false, cond, ◌&&◌, and-eq-true_iff, false≢true}
use mathlib.Core.List.{List, [], ◌∷◌}
use mathlib.Core.Option.{Option, some, none}
use lib.Dec.{eqb}
use borrow.Author.Tests.{eq-eqb, eqb-true}
use Rattle.std.specs.Str.{bytes_eq}
use Rattle.std.proofs.lemmas.Slice.Eq.{bytes_eq-Decides}
use Rattle.text.specs.Fields.{same}
use Rattle.text.specs.Forms.{marks, read_form}
use Rattle.text.specs.Theorems.{all_plain}
use Rattle.text.proofs.Forms.{unmarked, read_printed, printed_read}

pub same_refl : (a : List ℕ) → same a a ≡ true
unfolding same
same_refl [] = refl
same_refl (x ∷ a) = (and-eq-true_iff (eqb x x) (same a a)).1 (eq-eqb x x refl, same_refl a)

-- the test is true just where the bytes are the same
pub same_bytes : (a b : List ℕ) → same a b ≡ true → a ≡ b
unfolding same
same_bytes [] [] h = refl
same_bytes [] (y ∷ b) h = absurd (false≢true h)
same_bytes (x ∷ a) [] h = absurd (false≢true h)
same_bytes (x ∷ a) (y ∷ b) h =
    let t = (and-eq-true_iff (eqb x y) (same a b)).0 h in
    ap₂ (λ (n : ℕ) (l : List ℕ). n ∷ l) (eqb-true x y t.0) (same_bytes a b t.1)

-- what `==` of std says of two byte strings
pub same_is : (a b : List ℕ) → bytes_eq a b ≡ same a b
unfolding same
same_is [] [] = refl
same_is [] (y ∷ b) = refl
same_is (x ∷ a) [] = refl
same_is (x ∷ a) (y ∷ b) = ap (λ (t : Bool). eqb x y && t) (same_is a b)

-- a form without fields has the one line that it is
pub unmarked_read : (form l : List ℕ) → 0 ≡ marks form → read_form form l ≡ cond (bytes_eq l form) (some []) none
unfolding all_plain
unmarked_read form l e = split (bytes_eq l form) refl
  where
    d : (bytes_eq l form ≡ true → l ≡ form) × (l ≡ form → bytes_eq l form ≡ true)
    d = bytes_eq-Decides l form

    itself : read_form form form ≡ some []
    itself = ap (read_form form) (sym (unmarked form [] e).0) ∙ read_printed form [] (unmarked form [] e).1 refl e

    other : bytes_eq l form ≡ false → (o : Option (List (List ℕ))) → read_form form l ≡ o → o ≡ none
    other b none r = refl
    other b (some vs) r = absurd (false≢true (sym b ∙ d.1 (sym (printed_read form l vs r) ∙ (unmarked form vs e).0)))

    split : (b : Bool) → bytes_eq l form ≡ b → read_form form l ≡ cond b (some []) none
    split true b = rw (d.0 b) itself
    split false b = other b (read_form form l) refl

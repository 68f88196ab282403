-- The three forms mean what document 01 shows: a line that is printed is read as itself, and a line that is read is the one
-- that would be printed.
use Prim.Native.Nat.{ℕ}
use native.Mathlib.Omega.{arith}
use mathlib.Core.Path.{◌≡◌, refl, ◌∙◌}
use mathlib.Core.Bool.{Bool, true, false, cond}
use mathlib.Core.List.{List, [], ◌∷◌}
use mathlib.Core.Option.{Option, some, none}
use lib.Dec.{eqb}
use lib.ListN.{get_or}
use Rattle.text.specs.Fields.{name, digit_string}
use Rattle.text.specs.Scan.{one_of}
use Rattle.text.specs.Forms.{print_form, marks, read_form}
use Rattle.text.specs.Theorems.{formed, starts_separate}
use Rattle.text.proofs.Decimal.{digit_string_decimal, value_decimal}
use Rattle.text.proofs.Forms.{read_byte, print_byte, starts_same, starts_other, printed_read as printed-form}
use Rattle.text.proofs.Tests.{Tests, test, ◌and◌, holds, Each, each}
use Rattle.text.proofs.TypedFields.{Field, named, counted, all_shown, read_back, a_name, a_number, printed_back}
use Rattle.job_lines.specs.Forms.{
  Form,
  seeds,
  sigma,
  shot,
  no_form,
  seeds_form,
  sigma_form,
  shot_form,
  seeds_of,
  sigma_of,
  shot_of,
  read_line,
  print_line,
  Printable,
}

-- how a line is read, once it is known which form it has
module _ (l : List ℕ) where
  pub read_seeds : (vs : List (List ℕ)) → read_form seeds_form l ≡ some vs → read_line l ≡ seeds_of vs
  unfolding read_line
  read_seeds vs e = rw (e, read_line)

  pub read_sigma : (vs : List (List ℕ)) → read_form seeds_form l ≡ none → read_form sigma_form l ≡ some vs → read_line l ≡ sigma_of vs
  unfolding read_line
  read_sigma vs p e = rw (p, e, read_line)

  pub read_shot : (vs : List (List ℕ)) → read_form seeds_form l ≡ none → read_form sigma_form l ≡ none → read_form shot_form l ≡ some vs →
      read_line l ≡ shot_of vs
  unfolding read_line
  read_shot vs p q e = rw (p, q, e, read_line)

  pub read_none : read_form seeds_form l ≡ none → read_form sigma_form l ≡ none → read_form shot_form l ≡ none → read_line l ≡ no_form
  unfolding read_line
  read_none p q e = rw (p, q, e, read_line)

-- no line is of two forms: they differ in their third byte
third : (f g : ℕ) (form other : List ℕ) (vs : List (List ℕ)) → eqb f 35 ≡ false → eqb g 35 ≡ false → eqb g f ≡ false
    → read_form (40 ∷ 115 ∷ f ∷ form) (print_form (40 ∷ 115 ∷ g ∷ other) vs) ≡ none
third f g form other vs p q r =
    rw (print_byte 40 (115 ∷ g ∷ other) vs refl, print_byte 115 (g ∷ other) vs refl, print_byte g other vs q)
    (same 40 (115 ∷ f ∷ form) (115 ∷ g ∷ print_form other vs) refl ∙ same 115 (f ∷ form) (g ∷ print_form other vs) refl ∙ differ)
  where
    same : (x : ℕ) (form l : List ℕ) → eqb x 35 ≡ false → read_form (x ∷ form) (x ∷ l) ≡ read_form form l
    same x form l e = read_byte x form (x ∷ l) e ∙ rw (starts_same x l)

    differ : read_form (f ∷ form) (g ∷ print_form other vs) ≡ none
    differ = read_byte f form (g ∷ print_form other vs) p ∙ rw (starts_other f g (print_form other vs) r)

seeds_sigma : (vs : List (List ℕ)) → read_form seeds_form (print_form sigma_form vs) ≡ none
unfolding seeds_form sigma_form
seeds_sigma vs = third 101 105 _ _ vs refl refl refl

seeds_shot : (vs : List (List ℕ)) → read_form seeds_form (print_form shot_form vs) ≡ none
unfolding seeds_form shot_form
seeds_shot vs = third 101 104 _ _ vs refl refl refl

sigma_shot : (vs : List (List ℕ)) → read_form sigma_form (print_form shot_form vs) ≡ none
unfolding sigma_form shot_form
sigma_shot vs = third 105 104 _ _ vs refl refl refl

-- so a line of the shot form is of neither other form
pub shot_alone : (l : List ℕ) (vs : List (List ℕ)) → read_form shot_form l ≡ some vs → (read_form seeds_form l ≡ none) × (read_form sigma_form l ≡ none)
shot_alone l vs e = rw (← printed-form shot_form l vs e) (seeds_shot vs, sigma_shot vs)

all_formed : (formed seeds_form ≡ true) × (formed sigma_form ≡ true) × (formed shot_form ≡ true)
unfolding formed starts_separate seeds_form sigma_form shot_form one_of
all_formed = (refl, refl, refl)

pub all_marks : (6 ≡ marks seeds_form) × (2 ≡ marks sigma_form) × (4 ≡ marks shot_form)
unfolding marks seeds_form sigma_form shot_form
all_marks = (refl, refl, refl)

-- What is printed is read as itself.
pub read_printed : (x : Form) → Printable x → read_line (print_line x) ≡ x
unfolding Printable print_line seeds_of sigma_of shot_of
read_printed (seeds a0 a1 a2 b0 b1 b2) h =
    let xs : List Field = counted a0 ∷ counted a1 ∷ counted a2 ∷ counted b0 ∷ counted b1 ∷ counted b2 ∷ [] in
    read_seeds (print_form seeds_form (all_shown xs)) (all_shown xs) (read_back seeds_form xs all_formed.0 tt all_marks.0)
    ∙ rw (
      digit_string_decimal a0 h.0,
      digit_string_decimal a1 h.1,
      digit_string_decimal a2 h.2,
      digit_string_decimal b0 h.3,
      digit_string_decimal b1 h.4,
      digit_string_decimal b2 h.5,
      value_decimal a0,
      value_decimal a1,
      value_decimal a2,
      value_decimal b0,
      value_decimal b1,
      value_decimal b2,
    )
read_printed (sigma d b) h =
    let xs : List Field = counted d ∷ counted b ∷ [] in
    read_sigma (print_form sigma_form (all_shown xs)) (all_shown xs) (seeds_sigma (all_shown xs)) (read_back sigma_form xs all_formed.1 tt all_marks.1)
    ∙ rw (digit_string_decimal d h.0, digit_string_decimal b h.1, value_decimal d, value_decimal b)
read_printed (shot from to d b) h =
    let xs : List Field = named from ∷ named to ∷ counted d ∷ counted b ∷ [] in
    read_shot (print_form shot_form (all_shown xs)) (all_shown xs) (seeds_shot (all_shown xs)) (sigma_shot (all_shown xs))
    (read_back shot_form xs all_formed.2 (h.0, (h.1, tt)) all_marks.2)
    ∙ rw (h.0, h.1, digit_string_decimal d h.2, digit_string_decimal b h.3, value_decimal d, value_decimal b)
read_printed no_form h = absurd h

-- what was read is printed as the line
Printed : List ℕ → Form → Type 0
Printed l x = Printable x × (print_line x ≡ l)

-- where the tests of a form's fields hold, its kinds say what was read
by_tests : (l : List ℕ) (t : Tests) (x : Form) → (cond (holds t) x no_form ≡ no_form → ⊥) → (Each t → Printed l x) → Printed l (cond (holds t) x no_form)
by_tests l t x k f = split (holds t) refl k
  where
    split : (b : Bool) → holds t ≡ b → (cond b x no_form ≡ no_form → ⊥) → Printed l (cond b x no_form)
    split false e k = absurd (k refl)
    split true e k = f (each t e)

module _ (l : List ℕ) (vs : List (List ℕ)) where
  abbrev v : ℕ → List ℕ
  v i = get_or vs i []

  abbrev number : ℕ → Tests
  number i = test (digit_string (v i))

  seeds_read : read_form seeds_form l ≡ some vs → (seeds_of vs ≡ no_form → ⊥) → Printed l (seeds_of vs)
  unfolding seeds_of Printed Printable print_line
  seeds_read h k = by_tests l (number 0 and number 1 and number 2 and (number 3 and number 4 and number 5)) _ k (λ t.
      let (((a, b), c), ((d, e), f)) = t in
      let ((a0, (a1, (a2, (b0, (b1, b2))))), same) = printed_back seeds_form l vs (a_number ∷ a_number ∷ a_number ∷ a_number ∷ a_number ∷ a_number ∷ []) all_marks.0 h (a, (b, (c, (d, (e, (f, tt)))))) in
      ((a0, a1, a2, b0, b1, b2), same))

  sigma_read : read_form sigma_form l ≡ some vs → (sigma_of vs ≡ no_form → ⊥) → Printed l (sigma_of vs)
  unfolding sigma_of Printed Printable print_line
  sigma_read h k = by_tests l (number 0 and number 1) _ k (λ t.
      let (a, b) = t in printed_back sigma_form l vs (a_number ∷ a_number ∷ []) all_marks.1 h (a, (b, tt)))

  shot_read : read_form shot_form l ≡ some vs → (shot_of vs ≡ no_form → ⊥) → Printed l (shot_of vs)
  unfolding shot_of Printed Printable print_line
  shot_read h k = by_tests l (test (name (v 0)) and test (name (v 1)) and number 2 and number 3) _ k (λ t.
      let (((a, b), c), d) = t in
      let ((from, (to, (distance, bearing))), same) = printed_back shot_form l vs (a_name ∷ a_name ∷ a_number ∷ a_number ∷ []) all_marks.2 h (a, (b, (c, (d, tt)))) in
      ((from, to, distance, bearing), same))

pub shot_not_none : (from to : List ℕ) (d b : ℕ) → shot from to d b ≡ no_form → ⊥
shot_not_none from to d b e = let z : ◌≡◌ {A = ℕ} 0 1 = cc in omega arith

-- What is read is what would be printed.
pub printed_read : (l : List ℕ) → (read_line l ≡ no_form → ⊥) → Printable (read_line l) × (print_line (read_line l) ≡ l)
unfolding Printed
printed_read l k = on_seeds (read_form seeds_form l) refl
  where
    moved : (x : Form) → read_line l ≡ x → ((x ≡ no_form → ⊥) → Printed l x) → Printed l (read_line l)
    moved x e f = rw e (f (λ t. k (e ∙ t)))

    on_shot : read_form seeds_form l ≡ none → read_form sigma_form l ≡ none → (o : Option (List (List ℕ))) → read_form shot_form l ≡ o → Printed l
        (read_line l)
    on_shot p q (some vs) e = moved (shot_of vs) (read_shot l vs p q e) (shot_read l vs e)
    on_shot p q none e = absurd (k (read_none l p q e))

    on_sigma : read_form seeds_form l ≡ none → (o : Option (List (List ℕ))) → read_form sigma_form l ≡ o → Printed l (read_line l)
    on_sigma p (some vs) e = moved (sigma_of vs) (read_sigma l vs p e) (sigma_read l vs e)
    on_sigma p none e = on_shot p e (read_form shot_form l) refl

    on_seeds : (o : Option (List (List ℕ))) → read_form seeds_form l ≡ o → Printed l (read_line l)
    on_seeds (some vs) e = moved (seeds_of vs) (read_seeds l vs e) (seeds_read l vs e)
    on_seeds none e = on_sigma e (read_form sigma_form l) refl

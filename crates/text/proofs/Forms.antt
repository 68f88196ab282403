-- Forms and their fields: reading a line undoes the printing of its form, and the other way round.
use Prim.Native.Nat.{ℕ, suc}
use native.Mathlib.Omega.{arith}
use mathlib.Core.Path.{◌≡◌, refl, sym, ap, ◌∙◌}
use mathlib.Core.Bool.{Bool, true, false, cond, not, ◌&&◌, and-eq-true_iff, false≢true, true≢false}
use mathlib.Core.List.{List, [], ◌∷◌, ◌++◌}
use mathlib.Core.Option.{Option, some, none, none-ne-some, some-injective}
use lib.Dec.{eqb}
use lib.ListN.{length, get_or, drop}
use lib.Seq.{drop-append_seam}
use borrow.Author.Tests.{ne_eqb, eqb-true, eq-eqb, not-true}
use Rattle.text.specs.Fields.{all}
use Rattle.text.specs.Scan.{one_of, up_to, separator, field}
use Rattle.text.specs.Forms.{print_form, starts_with, is_empty, lead, read_form, marks}
use Rattle.text.specs.Theorems.{plain, all_plain, starts_separate, formed}
use Rattle.text.proofs.Scan.{run_rest}

not_mark : (x : ℕ) → separator x ≡ true → eqb x 35 ≡ false
unfolding one_of
not_mark x h = ne_eqb x 35 (λ e. true≢false (sym (rw e at h)))

-- a field without separators, followed by one, is what `field` finds
pub field_is : (v : List ℕ) (x : ℕ) (l : List ℕ) → plain v ≡ true → separator x ≡ true → field (v ++ x ∷ l) ≡ v
unfolding up_to plain all
field_is [] x l p s = rw (s, up_to)
field_is (y ∷ v) x l p s =
    let t = (and-eq-true_iff (not (separator y)) (all (λ b. not (separator b)) v)).0 p in
    rw (not-true (separator y) t.0, up_to) (ap (λ (w : List ℕ). y ∷ w) (field_is v x l t.1 s))

-- the definitions at a # and at any other byte of the form
module _ (f : ℕ) (form : List ℕ) where
  pub read_mark : (l : List ℕ) → eqb f 35 ≡ true → read_form (f ∷ form) l ≡ lead (field l) (read_form form (drop (length (field l)) l))
  unfolding read_form
  read_mark l e = rw (e, read_form)

  pub read_byte : (l : List ℕ) → eqb f 35 ≡ false → read_form (f ∷ form) l ≡ cond (starts_with f l) (read_form form (drop 1 l)) none
  unfolding read_form
  read_byte l e = rw (e, read_form)

  pub print_mark : (vs : List (List ℕ)) → eqb f 35 ≡ true → print_form (f ∷ form) vs ≡ get_or vs 0 [] ++ print_form form (drop 1 vs)
  unfolding print_form
  print_mark vs e = rw (e, print_form)

  pub print_byte : (vs : List (List ℕ)) → eqb f 35 ≡ false → print_form (f ∷ form) vs ≡ f ∷ print_form form vs
  unfolding print_form
  print_byte vs e = rw (e, print_form)

  pub marks_mark : eqb f 35 ≡ true → marks (f ∷ form) ≡ suc (marks form)
  unfolding marks
  marks_mark e = rw (e, marks)

  pub marks_byte : eqb f 35 ≡ false → marks (f ∷ form) ≡ marks form
  unfolding marks
  marks_byte e = rw (e, marks)

  formed_mark : eqb f 35 ≡ true → formed (f ∷ form) ≡ starts_separate form && formed form
  unfolding formed
  formed_mark e = rw (e, formed)

  formed_byte : eqb f 35 ≡ false → formed (f ∷ form) ≡ formed form
  unfolding formed
  formed_byte e = rw (e, formed)

-- a form without fields is printed as it stands
pub unmarked : (form : List ℕ) (vs : List (List ℕ)) → 0 ≡ marks form → (print_form form vs ≡ form) × (formed form ≡ true)
unfolding print_form formed
unmarked [] vs e = (refl, refl)
unmarked (f ∷ form) vs e = split (unmarked form vs) (eqb f 35) refl
  where
    split : (0 ≡ marks form → (print_form form vs ≡ form) × (formed form ≡ true)) → (b : Bool) → eqb f 35 ≡ b
        → (print_form (f ∷ form) vs ≡ f ∷ form) × (formed (f ∷ form) ≡ true)
    split ih true t = absurd (omega (arith, e, marks_mark f form t))
    split ih false t =
        let (p, q) = ih (e ∙ marks_byte f form t) in
        (print_byte f form vs t ∙ ap (λ (l : List ℕ). f ∷ l) p, formed_byte f form t ∙ q)

-- a field at the start of a printed form
field_printed : (v : List ℕ) (form : List ℕ) (vs : List (List ℕ)) → starts_separate form ≡ true → plain v ≡ true → field
    (v ++ print_form form vs) ≡ v
unfolding starts_separate
field_printed v [] vs s p = absurd (false≢true s)
field_printed v (x ∷ form) vs s p = rw (print_byte x form vs (not_mark x s)) (field_is v x (print_form form vs) p s)

pub starts_same : (f : ℕ) (l : List ℕ) → starts_with f (f ∷ l) ≡ true
unfolding starts_with
starts_same f l = eq-eqb f f refl

pub starts_other : (f x : ℕ) (l : List ℕ) → eqb x f ≡ false → starts_with f (x ∷ l) ≡ false
unfolding starts_with
starts_other f x l e = e

-- Reading a printed form gives its fields.
pub read_printed : (form : List ℕ) (vs : List (List ℕ)) → formed form ≡ true → all_plain vs ≡ true → length vs ≡ marks form → read_form
    form (print_form form vs) ≡ some vs
unfolding all_plain marks is_empty read_form print_form
read_printed [] [] w p n = refl
read_printed [] (v ∷ vs) w p n = absurd (omega (arith, n))
read_printed (f ∷ form) vs w p n = split (read_printed form) (eqb f 35) refl vs p n
  where
    split : ((ws : List (List ℕ)) → formed form ≡ true → all_plain ws ≡ true → length ws ≡ marks form → read_form form
        (print_form form ws) ≡ some ws)
        → (b : Bool) → eqb f 35 ≡ b → (vs : List (List ℕ)) → all_plain vs ≡ true → length vs ≡ marks (f ∷ form)
        → read_form (f ∷ form) (print_form (f ∷ form) vs) ≡ some vs
    split ih true e [] p n = let m = rw (marks_mark f form e) at n in absurd (omega (arith, m))
    split ih true e (v ∷ vs) p n =
        let t = (and-eq-true_iff (plain v) (all_plain vs)).0 p in
        let u = (and-eq-true_iff (starts_separate form) (formed form)).0 (rw (formed_mark f form e) at w) in
        let m : length vs ≡ marks form = omega (arith, n ∙ marks_mark f form e) in
        let g : field (v ++ print_form form vs) ≡ v = field_printed v form vs u.0 t.0 in
        rw (
          print_mark f form (v ∷ vs) e,
          read_mark f form (v ++ print_form form vs) e,
          g,
          drop-append_seam v (print_form form vs),
          ih vs
              u.1 t.1 m,
        )
    split ih false e vs p n =
        rw (print_byte f form vs e, read_byte f form (f ∷ print_form form vs) e, starts_same f (print_form form vs))
        (ih vs (rw (formed_byte f form e) at w) p (n ∙ marks_byte f form e))

-- what a line of the form shows: its first field and the fields of the rest, or its first byte
pub lead_some : (v : List ℕ) (o : Option (List (List ℕ))) (vs : List (List ℕ)) → lead v o ≡ some vs
    → (ws : List (List ℕ)) × (o ≡ some ws) × (vs ≡ v ∷ ws)
lead_some v none vs h = absurd (none-ne-some vs h)
lead_some v (some ws) vs h = (ws, refl, sym (some-injective (v ∷ ws) vs h))

pub byte_some : (f : ℕ) (form line : List ℕ) (vs : List (List ℕ)) → cond (starts_with f line) (read_form form (drop 1 line)) none ≡ some vs
    → (xs : List ℕ) × (line ≡ f ∷ xs) × (read_form form xs ≡ some vs)
unfolding starts_with
byte_some f form [] vs h = absurd (none-ne-some vs h)
byte_some f form (x ∷ xs) vs h = split (eqb x f) refl h
  where
    split : (b : Bool) → eqb x f ≡ b → cond b (read_form form xs) none ≡ some vs
        → (ys : List ℕ) × (x ∷ xs ≡ f ∷ ys) × (read_form form ys ≡ some vs)
    split true e h = (xs, ap (λ (n : ℕ). n ∷ xs) (eqb-true x f e), h)
    split false e h = absurd (none-ne-some vs h)

pub end_some : (line : List ℕ) (vs : List (List ℕ)) → read_form [] line ≡ some vs → (line ≡ []) × (vs ≡ [])
unfolding read_form is_empty
end_some [] vs h = (refl, sym (some-injective [] vs h))
end_some (x ∷ l) vs h = absurd (none-ne-some vs h)

-- Printing the form with a line's fields gives the line back.
pub printed_read : (form line : List ℕ) (vs : List (List ℕ)) → read_form form line ≡ some vs → print_form form vs ≡ line
unfolding print_form
printed_read [] line vs h = sym (end_some line vs h).0
printed_read (f ∷ form) line vs h = split (λ l ws k. printed_read form l ws k) (eqb f 35) refl
  where
    split : ((l : List ℕ) (ws : List (List ℕ)) → read_form form l ≡ some ws → print_form form ws ≡ l) → (b : Bool) → eqb f 35 ≡ b → print_form
        (f ∷ form) vs ≡ line
    split ih true e =
        let (ws, p, q) = lead_some (field line) (read_form form (drop (length (field line)) line)) vs
        (sym (read_mark f form line e) ∙ h) in
        rw (q, print_mark f form (field line ∷ ws) e, ih (drop (length (field line)) line) ws p) (run_rest separator line)
    split ih false e =
        let (xs, p, q) = byte_some f form line vs (sym (read_byte f form line e) ∙ h) in
        rw (p, print_byte f form vs e, ih xs vs q)

-- a line of the form has as many fields as the form has places
pub read_count : (form line : List ℕ) (vs : List (List ℕ)) → read_form form line ≡ some vs → length vs ≡ marks form
unfolding marks
read_count [] line vs h = ap length (end_some line vs h).1
read_count (f ∷ form) line vs h = split (λ l ws k. read_count form l ws k) (eqb f 35) refl
  where
    split : ((l : List ℕ) (ws : List (List ℕ)) → read_form form l ≡ some ws → length ws ≡ marks form) → (b : Bool) → eqb f 35 ≡ b →
        length vs ≡ marks (f ∷ form)
    split ih true e =
        let (ws, p, q) = lead_some (field line) (read_form form (drop (length (field line)) line)) vs
        (sym (read_mark f form line e) ∙ h) in
        rw (q, marks_mark f form e) (ap suc (ih (drop (length (field line)) line) ws p))
    split ih false e =
        let (xs, p, q) = byte_some f form line vs (sym (read_byte f form line e) ∙ h) in
        rw (marks_byte f form e) (ih xs vs q)

-- A line whose fields are names and numbers: what is printed is read back, and what is read is what is printed.
use Prim.Native.Nat.{ℕ, suc, ◌+◌, ◌<◌}
use native.Mathlib.Omega.{arith}
use mathlib.Core.Path.{◌≡◌, refl, sym, ap, ◌∙◌}
use mathlib.Core.Bool.{Bool, true}
use mathlib.Core.List.{List, [], ◌∷◌}
use mathlib.Core.Option.{some}
use lib.ListN.{length, get_or, drop, drop_of_length-le}
use lib.Seq.{drop-cons}
use Rattle.text.specs.Limits.{decimal_bound}
use Rattle.text.specs.Fields.{name, digit_string, value, decimal}
use Rattle.text.specs.Forms.{print_form, marks, read_form}
use Rattle.text.specs.Theorems.{all_plain, formed}
use Rattle.text.proofs.Decimal.{decimal_value, digit_string_below}
use Rattle.text.proofs.Plain.{plains, no_plains, decimal_plain, name_plain}
use Rattle.text.proofs.Forms.{read_count, read_printed, printed_read}

pub data Field : Type 0 where
  named : List ℕ → Field
  counted : ℕ → Field

-- as it is printed
abbrev pub shown : Field → List ℕ
shown (named l) = l
shown (counted n) = decimal n

abbrev pub all_shown : List Field → List (List ℕ)
all_shown [] = []
all_shown (x ∷ xs) = shown x ∷ all_shown xs

-- ---- what is printed is read back

-- names that are names
abbrev pub Named : List Field → Type 0
Named [] = Unit {0}
Named (named l ∷ xs) = (name l ≡ true) × Named xs
Named (counted n ∷ xs) = Named xs

pub all_plain_lem : (xs : List Field) → Named xs → all_plain (all_shown xs) ≡ true
all_plain_lem [] h = no_plains
all_plain_lem (named l ∷ xs) h = plains _ _ (name_plain l h.0) (all_plain_lem xs h.1)
all_plain_lem (counted n ∷ xs) h = plains _ _ (decimal_plain n) (all_plain_lem xs h)

pub read_back : (form : List ℕ) (xs : List Field) → formed form ≡ true → Named xs → length (all_shown xs) ≡ marks form
    → read_form form (print_form form (all_shown xs)) ≡ some (all_shown xs)
read_back form xs f h n = read_printed form (all_shown xs) f (all_plain_lem xs h) n

-- ---- what is read is what is printed

-- a field that has its form
abbrev pub FitOne : Field → Type 0
FitOne (named l) = name l ≡ true
FitOne (counted n) = n < decimal_bound

abbrev pub Fit : List Field → Type 0
Fit [] = Unit {0}
Fit (x ∷ []) = FitOne x
Fit (x ∷ y ∷ xs) = FitOne x × Fit (y ∷ xs)

pub data Kind : Type 0 where
  a_name : Kind
  a_number : Kind

abbrev pub has : Kind → List ℕ → Bool
has a_name l = name l
has a_number l = digit_string l

abbrev pub field_of : Kind → List ℕ → Field
field_of a_name l = named l
field_of a_number l = counted (value 0 l)

-- the fields from place j on, by their kinds
abbrev pub typed : List Kind → List (List ℕ) → ℕ → List Field
typed [] vs j = []
typed (k ∷ ks) vs j = field_of k (get_or vs j []) ∷ typed ks vs (suc j)

-- each is of its kind
abbrev pub Are : List Kind → List (List ℕ) → ℕ → Type 0
Are [] vs j = Unit {0}
Are (k ∷ ks) vs j = (has k (get_or vs j []) ≡ true) × Are ks vs (suc j)

one_fits : (k : Kind) (l : List ℕ) → has k l ≡ true → FitOne (field_of k l)
one_fits a_name l h = h
one_fits a_number l h = digit_string_below l h

one_shown : (k : Kind) (l : List ℕ) → has k l ≡ true → shown (field_of k l) ≡ l
one_shown a_name l h = refl
one_shown a_number l h = decimal_value l h

fits : (vs : List (List ℕ)) (ks : List Kind) (j : ℕ) → Are ks vs j → Fit (typed ks vs j)
fits vs [] j h = tt
fits vs (k ∷ []) j h = one_fits k (get_or vs j []) h.0
fits vs (k ∷ m ∷ ks) j h = (one_fits k (get_or vs j []) h.0, fits vs (m ∷ ks) (suc j) h.1)

all_shown_lem : (vs : List (List ℕ)) (ks : List Kind) (j : ℕ) → length vs ≡ length ks + j → Are ks vs j → all_shown (typed ks vs j) ≡ drop j vs
all_shown_lem vs [] j n h = sym (drop_of_length-le vs {i = j} (omega (arith, n)))
all_shown_lem vs (k ∷ ks) j n h =
    rw (one_shown k (get_or vs j []) h.0, all_shown_lem vs ks (suc j) (omega (arith, n)) h.1)
    (sym (drop-cons vs j [] (omega (arith, n))))

pub printed_back : (form l : List ℕ) (vs : List (List ℕ)) (ks : List Kind) → length ks ≡ marks form → read_form form l ≡ some vs
    → Are ks vs 0 → Fit (typed ks vs 0) × (print_form form (all_shown (typed ks vs 0)) ≡ l)
printed_back form l vs ks n e h = (
  fits vs ks 0 h,
  ap (print_form form) (all_shown_lem vs ks 0 (omega (arith, n, read_count form l vs e)) h) ∙ printed_read form l vs e,
)

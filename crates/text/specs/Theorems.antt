-- What the definitions of text say, as theorems: the record below has a proof in proofs/Theorems.antt.
use Rattle.std.specs.Prelude.{ℕ, ◌-◌, ◌<◌, ◌≤◌, ◌≡◌, Bool, true, false, cond, not, ◌&&◌, List, [], ◌∷◌, ◌++◌, length, get_or, take, replicate, Ok}
use Rattle.std.proofs.Math.Option.{some}
use Rattle.text.specs.Limits.{decimal_bound}
use Rattle.text.specs.Ascii.{byte}
use Rattle.text.specs.Scan.{separator, line_feed, lines}
use Rattle.text.specs.Fields.{all, digit_string, value, decimal}
use Rattle.text.specs.Forms.{mark, marks, print_form, read_form, read_few, fields_at, no_place, found_in, found_of, places_from}
use Rattle.text.specs.declared.form.Found.{Found}

-- a field that holds no separator
unfoldable pub plain : List ℕ → Bool
plain v = all (λ b. not (separator b)) v

unfoldable pub all_plain : List (List ℕ) → Bool
unfolding plain
all_plain [] = true
all_plain (v ∷ vs) = plain v && all_plain vs

unfoldable pub starts_separate : List ℕ → Bool
starts_separate [] = false
starts_separate (x ∷ xs) = separator x

-- each # of a form has a separator after it
unfoldable pub formed : List ℕ → Bool
unfolding starts_separate
formed [] = true
formed (f ∷ form) = cond (mark f) (starts_separate form && formed form) (formed form)

abbrev pub no_feed : List ℕ → Bool
no_feed l = all (λ b. not (line_feed b)) l

unfoldable pub join : List (List ℕ) → List ℕ
join [] = []
join (l ∷ ls) = l ++ join ls

pub record Theorems : Type 0 where
  -- "no leading zero except 0 itself": what is printed is a digit string and is read as itself, and what is read is what is printed
  pub numbers : (n : ℕ) → n < decimal_bound → (digit_string (decimal n) ≡ true) × (value 0 (decimal n) ≡ n)
  pub digits : (l : List ℕ) → digit_string l ≡ true → decimal (value 0 l) ≡ l
  pub no_leading_zero : (n : ℕ) → 0 < n → byte "0" < get_or (decimal n) 0 0
  -- a form that is printed is read as its fields, and a line that is read is the one that is printed
  pub read_printed : (form : List ℕ) (vs : List (List ℕ)) → formed form ≡ true → all_plain vs ≡ true → length vs ≡ marks form
      → read_form form (print_form form vs) ≡ some vs
  pub printed_read : (form line : List ℕ) (vs : List (List ℕ)) → read_form form line ≡ some vs → print_form form vs ≡ line
  -- where a form fits a line, the places that are found are those of the form's fields, and hold what is read
  pub places : (n : ℕ) (form line : List ℕ) (c : Found n) → found_of n form line ≡ Ok c → take (marks form) c.places ≡ places_from 0 form line
  pub all_places : (n : ℕ) (form line : List ℕ) (c : Found n) → marks form ≡ n → found_of n form line ≡ Ok c → c.places ≡ places_from 0 form line
  pub places_hold : (form line : List ℕ) (vs : List (List ℕ)) → read_form form line ≡ some vs → fields_at line (places_from 0 form line) ≡ vs
  -- a form of few enough fields has them wherever it is read, a place for each, and the line is read to its end
  pub found : (n : ℕ) (form line : List ℕ) (vs : List (List ℕ)) → marks form ≤ n → read_form form line ≡ some vs
      → found_of n form line ≡ Ok (record { at = length line; count = marks form; places = places_from 0 form line ++ replicate (n - marks form) no_place })
  pub found_all : (n : ℕ) (form line : List ℕ) (vs : List (List ℕ)) → marks form ≡ n → read_form form line ≡ some vs
      → found_of n form line ≡ Ok (record { at = length line; count = n; places = places_from 0 form line })
  -- and no other form has them: what is found is what the reader of forms reads
  pub fields : (n : ℕ) (form line : List ℕ) → read_few n form line ≡ found_in form line (found_of n form line)
  pub count : (form line : List ℕ) → length (places_from 0 form line) ≡ marks form
  -- a line ends with the first line feed, or with the text; the lines are the text
  pub line_first : (l rest : List ℕ) → no_feed l ≡ true → lines (l ++ byte "\n" ∷ rest) ≡ (l ++ (byte "\n" ∷ [])) ∷ lines rest
  pub line_last : (x : ℕ) (l : List ℕ) → no_feed (x ∷ l) ≡ true → lines (x ∷ l) ≡ (x ∷ l) ∷ []
  pub lines_whole : (text : List ℕ) → join (lines text) ≡ text

-- A row that is printed is read as itself, and a line that is read is the one that is printed.
use Prim.Native.Nat.{ℕ, ◌<◌}
use native.Mathlib.Omega.{arith}
use mathlib.Core.Path.{◌≡◌, refl, sym, ap, ◌∙◌}
use mathlib.Core.Bool.{Bool, true, false, cond, false≢true}
use mathlib.Core.List.{List, [], ◌∷◌, ◌++◌}
use mathlib.Core.Option.{Option, some, none}
use lib.ListN.{length, get_or}
use lib.Seq.{drop-append_seam}
use Rattle.text.specs.Limits.{decimal_bound}
use Rattle.text.specs.Ascii.{ascii}
use Rattle.text.specs.Fields.{all, name, digit_string, decimal}
use Rattle.text.specs.Scan.{one_of, lines}
use Rattle.text.specs.Forms.{print_form, read_form, marks, is_empty}
use Rattle.text.specs.Theorems.{plain, all_plain, formed, starts_separate}
use Rattle.text.proofs.Decimal.{digit_string_decimal, value_decimal}
use Rattle.text.proofs.Plain.{decimal_plain, feed_form, line_printed}
use Rattle.text.proofs.Forms.{unmarked, read_mark, read_byte, starts_same, starts_other, field_is, read_count, read_printed, printed_read}
use Rattle.text.proofs.Split.{line_first}
use Rattle.text.proofs.Tests.{Tests, test, ◌and◌, holds, Each, each}
use Rattle.text.proofs.TypedFields.{Field, named, counted, all_shown, Named, all_plain_lem, read_back, a_name, a_number, printed_back}
use Rattle.listing_rows.specs.Rows.{header, shot_row, end_row, header_of, row_form, end_form, row_of}
use Rattle.listing_rows.specs.Entries.{is_some, is_header, high_at, Said, leg, last, neither, leg_of, end_of, read_entry}
use Rattle.std.specs.Str.{bytes_eq}
use Rattle.text.proofs.SameBytes.{unmarked_read}
use Rattle.listing_rows.proofs.Reading.{header_marks, row_marks, end_marks, read_row, read_end, read_neither}

row_formed : (b : Bool) → (formed (row_form b) ≡ true) × (feed_form (row_form b) ≡ true)
unfolding formed starts_separate feed_form is_empty row_form one_of
row_formed true = (refl, refl)
row_formed false = (refl, refl)

end_formed : (formed end_form ≡ true) × (feed_form end_form ≡ true)
unfolding formed starts_separate feed_form is_empty end_form one_of
end_formed = (refl, refl)

-- ---- a shot

-- the fields of its row
abbrev fields_of : Bool → List ℕ → List ℕ → ℕ → ℕ → ℕ → List Field
fields_of true f t m n s = named f ∷ named t ∷ counted m ∷ counted n ∷ counted s ∷ []
fields_of false f t m n s = named f ∷ named t ∷ counted m ∷ counted s ∷ []

-- one distance is both
abbrev pub Alike : Bool → ℕ → ℕ → Type 0
Alike true low high = Unit {0}
Alike false low high = low ≡ high

module _ (f t : List ℕ) (m n s : ℕ) (hf : name f ≡ true) (ht : name t ≡ true) where
  are_named : (b : Bool) → Named (fields_of b f t m n s)
  are_named true = (hf, (ht, tt))
  are_named false = (hf, (ht, tt))

  row_is : (b : Bool) → row_of b f t m n s ≡ print_form (row_form b) (all_shown (fields_of b f t m n s))
  unfolding row_of shot_row row_form
  row_is true = refl
  row_is false = refl

  field_count : (b : Bool) → length (all_shown (fields_of b f t m n s)) ≡ marks (row_form b)
  unfolding marks row_form
  field_count true = refl
  field_count false = refl

  -- a row is one line, and is read as its shot
  pub row_line : (b : Bool) (rest : List ℕ) → lines (row_of b f t m n s ++ rest) ≡ row_of b f t m n s ∷ lines rest
  row_line b rest = rw (row_is b) (line_printed (row_form b) (all_shown (fields_of b f t m n s)) rest (row_formed b).1 (all_plain_lem (fields_of b f t m n s) (are_named b)) (field_count b))

  fields_leg : (b : Bool) → Alike b m n → m < decimal_bound → n < decimal_bound → s < decimal_bound → leg_of (high_at b) (all_shown (fields_of b f t m n s)) ≡ leg f t m n s
  unfolding leg_of high_at
  fields_leg true alike hm hn hs =
      rw (hf, ht, digit_string_decimal m hm, digit_string_decimal n hn, digit_string_decimal s hs, value_decimal m, value_decimal n, value_decimal s)
  fields_leg false alike hm hn hs = rw (hf, ht, digit_string_decimal m hm, digit_string_decimal s hs, value_decimal m, value_decimal s, ← alike)

  pub row_read : (b : Bool) → Alike b m n → m < decimal_bound → n < decimal_bound → s < decimal_bound → read_entry b (row_of b f t m n s) ≡ leg f t m n s
  row_read b alike hm hn hs =
      ap (read_entry b) (row_is b)
      ∙ read_row b (print_form (row_form b) (all_shown (fields_of b f t m n s))) (all_shown (fields_of b f t m n s))
      (read_back (row_form b) (fields_of b f t m n s) (row_formed b).0 (are_named b) (field_count b))
      ∙ fields_leg b alike hm hn hs

-- ---- the end

module _ (n : ℕ) where
  end_is : end_row n ≡ print_form end_form (decimal n ∷ [])
  unfolding end_row end_form
  end_is = refl

  pub end_line : (rest : List ℕ) → lines (end_row n ++ rest) ≡ end_row n ∷ lines rest
  end_line rest = rw end_is (line_printed end_form (decimal n ∷ []) rest end_formed.1 (all_plain_lem (counted n ∷ []) tt) end_marks)

  -- it has two fields and no more: after the second stands the line feed
  no_third : (form : List ℕ) → read_form (35 ∷ 32 ∷ form) (decimal n ++ (10 ∷ [])) ≡ none
  unfolding one_of
  no_third form =
      read_mark 35 (32 ∷ form) (decimal n ++ (10 ∷ [])) refl
      ∙ rw (
        field_is (decimal n) 10 [] (decimal_plain n) refl,
        drop-append_seam (decimal n) (10 ∷ []),
        read_byte 32 form (10 ∷ []) refl,
        starts_other 32 10 [] refl,
      )

  no_more : (form : List ℕ) → read_form (35 ∷ 32 ∷ 35 ∷ 32 ∷ form) (end_row n) ≡ none
  unfolding end_form end_row print_form plain all one_of
  no_more form =
      read_mark 35 (32 ∷ 35 ∷ 32 ∷ form) (ascii "END" ++ 32 ∷ (decimal n ++ (10 ∷ []))) refl
      ∙ rw (
        field_is (ascii "END") 32 (decimal n ++ (10 ∷ [])) refl refl,
        read_byte 32 (35 ∷ 32 ∷ form) (32 ∷ (decimal n ++ (10 ∷ []))) refl,
        starts_same 32 (decimal n ++ (10 ∷ [])),
        no_third form,
      )

  no_row : (b : Bool) → read_form (row_form b) (end_row n) ≡ none
  unfolding row_form
  no_row true = no_more (ascii "# # #\n")
  no_row false = no_more (ascii "# #\n")

  pub end_said : (b : Bool) → read_entry b (end_row n) ≡ end_of (decimal n ∷ [])
  end_said b =
      read_end b (end_row n) (decimal n ∷ []) (no_row b)
      (ap (read_form end_form) end_is ∙ read_back end_form (counted n ∷ []) end_formed.0 tt end_marks)

  pub end_read : (b : Bool) → n < decimal_bound → read_entry b (end_row n) ≡ last n
  unfolding end_of
  end_read b h = end_said b ∙ rw (digit_string_decimal n h, value_decimal n)

-- ---- the header

pub header_line : (b : Bool) (rest : List ℕ) → lines (header_of b ++ rest) ≡ header_of b ∷ lines rest
unfolding header header_of all one_of
header_line true rest = line_first (ascii "FROM TO LOW HIGH STEP") rest refl
header_line false rest = line_first (ascii "FROM TO MM STEP") rest refl

pub header_lengths : (length (header_of false) ≡ 16) × (length (header_of true) ≡ 22)
unfolding header header_of
header_lengths = (refl, refl)

printed_header : (b : Bool) → print_form (header_of b) [] ≡ header_of b
printed_header b = (unmarked (header_of b) [] (header_marks b)).0

pub header_read : (b : Bool) → is_header b (header_of b) ≡ true
unfolding is_header is_some all_plain
header_read b =
    ap is_some
    (ap (read_form (header_of b)) (sym (printed_header b))
    ∙ read_printed (header_of b) [] (unmarked (header_of b) [] (header_marks b)).1 refl (header_marks b))

pub header_is : (b : Bool) (l : List ℕ) → is_header b l ≡ true → l ≡ header_of b
unfolding is_header is_some
header_is b l h = go (read_form (header_of b) l) refl h
  where
    go : (o : Option (List (List ℕ))) → read_form (header_of b) l ≡ o → is_some o ≡ true → l ≡ header_of b
    go none e h = absurd (false≢true h)
    go (some []) e h = sym (printed_read (header_of b) l [] e) ∙ printed_header b
    go (some (v ∷ vs)) e h = absurd (omega (arith, read_count (header_of b) l (v ∷ vs) e, header_marks b))

-- a line is the header just where it is the same bytes
pub header_same : (b : Bool) (l h : List ℕ) → h ≡ header_of b → bytes_eq l h ≡ is_header b l
unfolding is_header is_some
header_same b l h e = rw (e, unmarked_read (header_of b) l (header_marks b)) (go (bytes_eq l (header_of b)))
  where
    go : (t : Bool) → t ≡ is_some (cond t (some []) none)
    go true = refl
    go false = refl

-- ---- what is read is what is printed

abbrev pub Printed : Bool → List ℕ → Said → Type 0
Printed b l (leg f t m n s) =
    (name f ≡ true) × (name t ≡ true) × (m < decimal_bound) × (n < decimal_bound) × (s < decimal_bound) × Alike b m n × (l ≡ row_of b f t m n s)
Printed b l (last n) = (n < decimal_bound) × (l ≡ end_row n)
Printed b l neither = Unit {0}

module _ (l : List ℕ) (vs : List (List ℕ)) where
  abbrev v : ℕ → List ℕ
  v i = get_or vs i []

  -- where the tests of a line's fields hold, their kinds say what was read
  by_tests : (b : Bool) (t : Tests) (x : Said) → (Each t → Printed b l x) → Printed b l (cond (holds t) x neither)
  by_tests b t x f = split (holds t) refl
    where
      split : (y : Bool) → holds t ≡ y → Printed b l (cond y x neither)
      split false e = tt
      split true e = f (each t e)

  abbrev number : ℕ → Tests
  number i = test (digit_string (v i))

  row_printed : (b : Bool) → read_form (row_form b) l ≡ some vs → Printed b l (leg_of (high_at b) vs)
  unfolding leg_of high_at row_of shot_row row_form
  row_printed true h = by_tests true (test (name (v 0)) and test (name (v 1)) and (number 2 and number 3 and number 4)) _ (λ t.
      let ((f, g), ((m, n), s)) = t in
      let ((hf, (hg, (hm, (hn, hs)))), same) = printed_back (row_form true) l vs (a_name ∷ a_name ∷ a_number ∷ a_number ∷ a_number ∷ []) (row_marks true) h (f, (g, (m, (n, (s, tt))))) in
      (hf, hg, hm, hn, hs, tt, sym same))
  row_printed false h = by_tests false (test (name (v 0)) and test (name (v 1)) and (number 2 and number 2 and number 3)) _ (λ t.
      let ((f, g), ((m, n), s)) = t in
      let ((hf, (hg, (hm, hs))), same) = printed_back (row_form false) l vs (a_name ∷ a_name ∷ a_number ∷ a_number ∷ []) (row_marks false) h (f, (g, (m, (s, tt)))) in
      (hf, hg, hm, hm, hs, refl, sym same))

  end_printed : (b : Bool) → read_form end_form l ≡ some vs → Printed b l (end_of vs)
  unfolding end_of end_row end_form
  end_printed b h = by_tests b (number 0) _ (λ t. let (hn, same) = printed_back end_form l vs (a_number ∷ []) end_marks h (t, tt) in (hn, sym same))

pub entry_printed : (b : Bool) (l : List ℕ) → Printed b l (read_entry b l)
entry_printed b l = on_row (read_form (row_form b) l) refl
  where
    on_end : read_form (row_form b) l ≡ none → (o : Option (List (List ℕ))) → read_form end_form l ≡ o → Printed b l (read_entry b l)
    on_end p (some vs) e = rw (read_end b l vs p e) (end_printed l vs b e)
    on_end p none e = rw (read_neither b l p e) tt

    on_row : (o : Option (List (List ℕ))) → read_form (row_form b) l ≡ o → Printed b l (read_entry b l)
    on_row (some vs) e = rw (read_row b l vs e) (row_printed l vs b e)
    on_row none e = on_end e (read_form end_form l) refl

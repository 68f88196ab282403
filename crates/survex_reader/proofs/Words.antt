-- The fields of a line, one after another from a place on.
use Prim.Native.Nat.{ℕ, ◌+◌, ◌-◌, ◌≤◌, ◌<◌}
use native.Mathlib.Omega.{arith}
use native.Mathlib.Nat.{add-zero}
use mathlib.Core.Path.{◌≡◌, refl, sym, ap, subst, ◌∙◌}
use mathlib.Core.Bool.{Bool, true, false, cond, not, ◌&&◌}
use mathlib.Core.List.{List, [], ◌∷◌}
use lib.Dec.{leb, ltb, eqb}
use lib.ListN.{length, get_or, drop, length-drop}
use lib.Seq.{drop-drop, get_or-drop}
use native.Mathlib.Decide.{dec_lt}
use borrow.Author.Tests.{lt-ltb, le-ltb, le-leb, lt-leb, eq-eqb, ne_eqb, not-false}
use Rattle.text.specs.Scan.{up_to, before}
use Rattle.text.specs.Fields.{part_of}
use Rattle.text.specs.declared.field.Place.{Place}
use Rattle.text.proofs.Scan.{run_length, run_take}
use Rattle.survex_reader.specs.Lines.{blank, not_blank}
use Rattle.survex_reader.specs.Legs.{starts_word, words, word_at}
use Rattle.survex_reader.specs.Private.{FieldsAt}

-- past the blanks stands nothing, or a byte that is none
skipped : List ℕ → List ℕ
skipped l = drop (length (up_to not_blank l)) l

words_skipped : (l : List ℕ) → words (drop (length (up_to not_blank l)) l) ≡ words l
unfolding words up_to
words_skipped [] = refl
words_skipped (x ∷ l) = go (blank x) refl (words_skipped l)
  where
    go : (b : Bool) → blank x ≡ b → words (drop (length (up_to not_blank l)) l) ≡ words l
        → words (drop (length (cond (not b) [] (x ∷ up_to not_blank l))) (x ∷ l)) ≡ words (x ∷ l)
    go true e ih = ih ∙ rw (e, words)
    go false e ih = refl

pub data Starts : List ℕ → Type 0 where
  none : Starts []
  some : (x : ℕ) (l : List ℕ) → blank x ≡ false → Starts (x ∷ l)

starts_skipped : (l : List ℕ) → Starts (drop (length (up_to not_blank l)) l)
unfolding up_to
starts_skipped [] = none
starts_skipped (x ∷ l) = go (blank x) refl (starts_skipped l)
  where
    go : (b : Bool) → blank x ≡ b → Starts (drop (length (up_to not_blank l)) l)
        → Starts (drop (length (cond (not b) [] (x ∷ up_to not_blank l))) (x ∷ l))
    go true e ih = ih
    go false e ih = some x l e

-- the definitions at one byte
module _ (x : ℕ) (l : List ℕ) (e : blank x ≡ false) where
  word_alone : starts_word l ≡ false → words (x ∷ l) ≡ (x ∷ []) ∷ words l
  unfolding words
  word_alone f = rw (e, words, f)

  word_more : starts_word l ≡ true → words (x ∷ l) ≡ before x (words l)
  unfolding words
  word_more f = rw (e, words, f)

  run_more : up_to blank (x ∷ l) ≡ x ∷ up_to blank l
  unfolding up_to
  run_more = rw (e, up_to)

run_none : (l : List ℕ) → starts_word l ≡ false → up_to blank l ≡ []
unfolding up_to starts_word
run_none [] e = refl
run_none (x ∷ l) e = rw (not-false (blank x) e, up_to)

starts_blank : (y : ℕ) (l : List ℕ) → starts_word (y ∷ l) ≡ not (blank y)
unfolding starts_word
starts_blank y l = refl

starts_nothing : starts_word [] ≡ false
unfolding starts_word
starts_nothing = refl

-- a field, and those after it
words_first : (x : ℕ) (l : List ℕ) → blank x ≡ false
    → words (x ∷ l) ≡ up_to blank (x ∷ l) ∷ words (drop (length (up_to blank (x ∷ l))) (x ∷ l))
unfolding before
words_first x [] e = rw (run_more x [] e, run_none [] starts_nothing) (word_alone x [] e starts_nothing)
words_first x (y ∷ l) e = go (blank y) refl (words_first y l)
  where
    go : (b : Bool) → blank y ≡ b
        → (blank y ≡ false → words (y ∷ l) ≡ up_to blank (y ∷ l) ∷ words (drop (length (up_to blank (y ∷ l))) (y ∷ l)))
        → words (x ∷ y ∷ l) ≡ up_to blank (x ∷ y ∷ l) ∷ words (drop (length (up_to blank (x ∷ y ∷ l))) (x ∷ y ∷ l))
    go true f ih =
        let n : starts_word (y ∷ l) ≡ false = starts_blank y l ∙ ap not f in
        rw (run_more x (y ∷ l) e, run_none (y ∷ l) n) (word_alone x (y ∷ l) e n)
    go false f ih =
        let n : starts_word (y ∷ l) ≡ true = starts_blank y l ∙ ap not f in
        rw (run_more x (y ∷ l) e) (word_more x (y ∷ l) e n ∙ ap (λ (m : List (List ℕ)). before x m) (ih f))

-- the first field of what lies past the blanks
record First (m : List ℕ) : Type 0 where
  field_first : up_to blank m ≡ get_or (words m) 0 []
  field_rest : words (drop (length (up_to blank m)) m) ≡ drop 1 (words m)
  field_some : (a : ℕ) → ltb a (a + length (up_to blank m)) ≡ ltb 0 (length (words m))

first_word : (m : List ℕ) → Starts m → First m
unfolding words up_to
first_word [] none = record { field_first = refl; field_rest = refl; field_some = λ a. le-ltb a (a + 0) (omega arith) }
first_word (x ∷ l) (some y k e) =
    let w = words_first x l e in
    let n : 0 < length (up_to blank (x ∷ l)) = rw (run_more x l e) (omega arith) in
    record {
      field_first = sym (ap (λ (v : List (List ℕ)). get_or v 0 []) w);
      field_rest = sym (ap (λ (v : List (List ℕ)). drop 1 v) w);
      field_some = λ a. lt-ltb a (a + length (up_to blank (x ∷ l))) (omega (arith, n)) ∙ sym (lt-ltb 0 (length (words (x ∷ l))) (omega (arith, ap length w)));
    }

-- the field at a place of a line
module _ (line : List ℕ) (at : ℕ) (h : at ≤ length line) where
  abbrev ahead : List ℕ
  ahead = drop at line

  abbrev start : ℕ
  start = at + length (up_to not_blank ahead)

  start_within : start ≤ length line
  start_within = omega (arith, run_length not_blank ahead, length-drop at line)

  word_ahead : drop start line ≡ drop (length (up_to not_blank ahead)) ahead
  word_ahead = sym (drop-drop (length (up_to not_blank ahead)) at line)

  abbrev word : List ℕ
  word = up_to blank (drop start line)

  pub end_within : (word_at line at).to ≤ length line
  unfolding word_at
  end_within = omega (arith, start_within, run_length blank (drop start line), length-drop start line)

  part_word : part_of line (word_at line at) ≡ word
  unfolding part_of word_at
  part_word =
      let n : start + length word - start ≡ length word = omega arith in
      rw (le-leb (start + length word) (length line) end_within, n) (run_take blank (drop start line))

  words_ahead : words (drop start line) ≡ words ahead
  words_ahead = ap words word_ahead ∙ words_skipped ahead

  rest_ahead : drop (word_at line at).to line ≡ drop (length word) (drop start line)
  unfolding word_at
  rest_ahead = sym (drop-drop (length word) start line)

  first_ahead : First (drop start line)
  first_ahead = first_word (drop start line) (subst Starts (sym word_ahead) (starts_skipped ahead))

-- the fields before a place have been read
pub record Read (line : List ℕ) (n at : ℕ) : Type 0 where
  pub place : at ≤ length line
  pub left : words (drop at line) ≡ drop n (words line)

pub read_none : (line : List ℕ) → Read line 0 0
read_none line = record { place = omega arith; left = refl }

-- one field more: which it is, and whether there is one
module _ (line : List ℕ) (n at : ℕ) (r : Read line n at) where
  pub read_field : part_of line (word_at line at) ≡ get_or (words line) n []
  read_field = part_word line at r.place ∙ (first_ahead line at r.place).field_first ∙
      ap (λ (v : List (List ℕ)). get_or v 0 []) (words_ahead line at r.place ∙ r.left) ∙ get_or-drop n (words line) 0 [] ∙
      ap (λ (k : ℕ). get_or (words line) k []) (add-zero n)

  pub read_more : Read line (n + 1) (word_at line at).to
  read_more = record {
    place = end_within line at r.place;
    left =
        ap words (rest_ahead line at r.place) ∙ (first_ahead line at r.place).field_rest ∙
        ap (λ (v : List (List ℕ)). drop 1 v) (words_ahead line at r.place ∙ r.left) ∙ drop-drop 1 n (words line);
  }

  pub read_some : ltb (word_at line at).from (word_at line at).to ≡ ltb n (length (words line))
  unfolding word_at
  read_some = (first_ahead line at r.place).field_some _ ∙
      ap (λ (v : List (List ℕ)). ltb 0 (length v)) (words_ahead line at r.place ∙ r.left) ∙
      ap (λ (k : ℕ). ltb 0 k) (length-drop n (words line)) ∙ left_over n (length (words line))
    where
      left_over : (a b : ℕ) → ltb 0 (b - a) ≡ ltb a b
      left_over a b = split (dec_lt a b)
        where
          split : Dec (a < b) → ltb 0 (b - a) ≡ ltb a b
          split (yes h) = lt-ltb 0 (b - a) (omega arith) ∙ sym (lt-ltb a b h)
          split (no h) = le-ltb 0 (b - a) (omega (arith, h)) ∙ sym (le-ltb a b (omega (arith, h)))

-- a fifth field and no sixth
pub five_is : (n : ℕ) → ltb 4 n && not (ltb 5 n) ≡ eqb n 5
five_is n = split (dec_lt 4 n) (dec_lt 5 n)
  where
    split : Dec (4 < n) → Dec (5 < n) → ltb 4 n && not (ltb 5 n) ≡ eqb n 5
    split (no h) d = rw (le-ltb 4 n (omega (arith, h)), ne_eqb n 5 (λ e. omega (arith, e, h)))
    split (yes h) (yes k) = rw (lt-ltb 4 n h, lt-ltb 5 n k, ne_eqb n 5 (λ e. omega (arith, e, k)))
    split (yes h) (no k) = rw (lt-ltb 4 n h, le-ltb 5 n (omega (arith, k)), eq-eqb n 5 (omega (arith, h, k)))

pub leb_not : (a b : ℕ) → leb a b ≡ not (ltb b a)
leb_not a b = split (dec_lt b a)
  where
    split : Dec (b < a) → leb a b ≡ not (ltb b a)
    split (yes h) = rw (lt-leb a b h, lt-ltb b a h)
    split (no h) = rw (le-leb a b (omega (arith, h)), le-ltb b a (omega (arith, h)))

-- six places, one after another, are those of the five fields, and of a sixth that must not be there
module _ (line : List ℕ) (f t m c k s : Place) (ef : f ≡ word_at line 0) (et : t ≡ word_at line f.to) (em : m ≡ word_at line t.to)
    (ec : c ≡ word_at line m.to) (ek : k ≡ word_at line c.to) (es : s ≡ word_at line k.to)
  where
    r0 : Read line 0 0
    r0 = read_none line

    r1 : Read line 1 f.to
    r1 = rw ef (read_more line 0 0 r0)

    r2 : Read line 2 t.to
    r2 = rw et (read_more line 1 f.to r1)

    r3 : Read line 3 m.to
    r3 = rw em (read_more line 2 t.to r2)

    r4 : Read line 4 c.to
    r4 = rw ec (read_more line 3 m.to r3)

    r5 : Read line 5 k.to
    r5 = rw ek (read_more line 4 c.to r4)

    pub just_five : ltb k.from k.to && not (ltb s.from s.to) ≡ eqb (length (words line)) 5
    just_five = rw (es, read_some line 5 k.to r5) (rw (ek, read_some line 4 c.to r4) (five_is (length (words line))))

    pub fields_are : FieldsAt line (record { from = f; to = t; tape = m; compass = c; clino = k })
    fields_are = record {
      from_place = ef;
      to_place = et ∙ ap (λ (p : Place). word_at line p.to) ef;
      from = rw ef (read_field line 0 0 r0);
      to = rw et (read_field line 1 f.to r1);
      tape = rw em (read_field line 2 t.to r2);
      compass = rw ec (read_field line 3 m.to r3);
      clino = rw ek (read_field line 4 c.to r4);
    }

-- One step of a scan over a list by its index: tests, values and runs of what lies ahead.
use Prim.Native.Nat.{ℕ, zero, suc, ◌+◌, ◌-◌, ◌*◌, ◌^◌, ◌≤◌, ◌<◌, min}
use native.Mathlib.Omega.{arith}
use native.Mathlib.Numerals.{add-one}
use native.Mathlib.Nat.{pow-suc, pow-le-pow_right}
use mathlib.Core.Path.{◌≡◌, refl, sym, ap, ◌∙◌}
use mathlib.Core.Bool.{Bool, true, false, cond, not, ◌&&◌, ◌||◌, and-false, and-true, or-true, and-eq-true_iff, true≢false}
use mathlib.Core.List.{List, [], ◌∷◌, ◌++◌}
use lib.Dec.{leb, ltb, eqb}
use lib.ListN.{length, get_or, take, drop, length-append, length-drop, drop_of_length-le}
use lib.Seq.{drop-cons, take-append_seam, take_all}
use native.Mathlib.Decide.{dec_lt}
use borrow.Author.Tests.{lt-leb, le-leb, eq-eqb, ne_eqb, lt-ltb, le-ltb, eqb-true}
use mathlib.Core.Logic.{◌⊎◌, inl, inr}
use Rattle.std.proofs.Common.{Option, Some, None, Bor}
use Rattle.std.specs.Slice.{IsGetRangeResult}
use Rattle.text.specs.declared.field.Place.{Place}
use Rattle.std.proofs.lemmas.List.Recursion.{is_position_or_len}
use Rattle.std.specs.Char.{is_ascii_alphanumeric}
use Rattle.std.specs.List.{list_any, list_all, position_or_len}
use Rattle.std.specs.Option.{unwrap_or}
use Rattle.text.specs.Fields.{all, value, digit, letter, letter_or_digit, digit_string, few_digits, part_of}
use Rattle.text.specs.Scan.{one_of, up_to}

pub ahead : (l : List ℕ) (i : ℕ) → i < length l → drop i l ≡ get_or l i 0 ∷ drop (i + 1) l
ahead l i h = rw add-one (drop-cons l i 0 h)

module _ (p : ℕ → Bool) (l : List ℕ) (i : ℕ) where
  all_ahead : i < length l → all p (drop i l) ≡ p (get_or l i 0) && all p (drop (i + 1) l)
  unfolding all
  all_ahead h = rw (ahead l i h)

  pub all_stop : all p l ≡ all p (drop i l) → i < length l → p (get_or l i 0) ≡ false → false ≡ all p l
  all_stop e h t = sym (e ∙ all_ahead h ∙ rw t)

  pub all_step : all p l ≡ all p (drop i l) → i < length l → p (get_or l i 0) ≡ true → all p l ≡ all p (drop (i + 1) l)
  all_step e h t = e ∙ all_ahead h ∙ rw t

  pub all_end : all p l ≡ all p (drop i l) → length l ≤ i → true ≡ all p l
  unfolding all
  all_end e h = sym (e ∙ rw (drop_of_length-le l {i = i} h))

pub all_weaker : (p q : ℕ → Bool) → ((x : ℕ) → p x ≡ true → q x ≡ true) → (l : List ℕ) → all p l ≡ true → all q l ≡ true
unfolding all
all_weaker p q f [] h = refl
all_weaker p q f (x ∷ l) h =
    let t = (and-eq-true_iff (p x) (all p l)).0 h in
    (and-eq-true_iff (q x) (all q l)).1 (f x t.0, all_weaker p q f l t.1)

-- a byte that std's test finds among others
pub one_of_any : (l : List ℕ) (b : ℕ) → list_any (λ y. eqb y b) l ≡ one_of l b
unfolding one_of
one_of_any [] b = refl
one_of_any (x ∷ l) b = ap (λ (t : Bool). eqb x b || t) (one_of_any l b)

pub value_ahead : (l : List ℕ) (i n : ℕ) → i < length l → value n (drop i l) ≡ value (n * 10 + (get_or l i 0 - 48)) (drop (i + 1) l)
unfolding value
value_ahead l i n h = rw (ahead l i h)

pub value_end : (l : List ℕ) (i n : ℕ) → length l ≤ i → value n (drop i l) ≡ n
unfolding value
value_end l i n h = rw (drop_of_length-le l {i = i} h)

-- one more digit on a number of i digits
pub digits_below : (i n d : ℕ) → i < 10 → n < 10 ^ i → d < 10 → (n * 10 + d < 10 ^ (i + 1)) × (10 ^ i ≤ 10 ^ 9)
digits_below i n d h k l =
    let p : 10 ^ i ≤ 10 ^ 9 = pow-le-pow_right (omega arith) {i = i} {j = 9} (omega arith) in
    (rw (add-one i, pow-suc) (omega arith), p)

-- the bytes up to a stop, from a place on
module _ (stop : ℕ → Bool) where
  module _ (l : List ℕ) (i : ℕ) where
    pub run_ahead : i < length l → stop (get_or l i 0) ≡ false → up_to stop (drop i l) ≡ get_or l i 0 ∷ up_to stop (drop (i + 1) l)
    unfolding up_to
    run_ahead h t = rw (ahead l i h, t, up_to)

    pub run_stop : i < length l → stop (get_or l i 0) ≡ true → up_to stop (drop i l) ≡ []
    unfolding up_to
    run_stop h t = rw (ahead l i h, t, up_to)

    pub run_end : length l ≤ i → up_to stop (drop i l) ≡ []
    unfolding up_to
    run_end h = rw (drop_of_length-le l {i = i} h)

  -- a search for the first stop from `at` on that has come to i
  module _ (l : List ℕ) (at i : ℕ) (e : at + length (up_to stop (drop at l)) ≡ i + length (up_to stop (drop i l))) where
    pub search_stop : i < length l → stop (get_or l i 0) ≡ true → i ≡ at + length (up_to stop (drop at l))
    search_stop h t = omega (arith, e, ap length (run_stop l i h t))

    pub search_step : i < length l → stop (get_or l i 0) ≡ false → at + length (up_to stop (drop at l)) ≡ i + 1 + length (up_to stop (drop (i + 1) l))
    search_step h t = omega (arith, e, ap length (run_ahead l i h t))

    pub search_end : length l ≤ i → i ≡ at + length (up_to stop (drop at l))
    search_end h = omega (arith, e, ap length (run_end l i h))

  -- a list is those bytes and what follows them
  pub run_rest : (l : List ℕ) → up_to stop l ++ drop (length (up_to stop l)) l ≡ l
  unfolding up_to
  run_rest [] = refl
  run_rest (x ∷ l) = step (stop x) (run_rest l)
    where
      step : (b : Bool) → up_to stop l ++ drop (length (up_to stop l)) l ≡ l
          → cond b [] (x ∷ up_to stop l) ++ drop (length (cond b [] (x ∷ up_to stop l))) (x ∷ l) ≡ x ∷ l
      step true ih = refl
      step false ih = ap (λ (w : List ℕ). x ∷ w) ih

  pub run_length : (l : List ℕ) → length (up_to stop l) ≤ length l
  run_length l = omega (arith, simp length-append at (ap length (run_rest l)))

  pub run_take : (l : List ℕ) → take (length (up_to stop l)) l ≡ up_to stop l
  run_take l =
      ap (λ (m : List ℕ). take (length (up_to stop l)) m) (sym (run_rest l))
      ∙ take-append_seam (up_to stop l) (drop (length (up_to stop l)) l)

-- the place that std's search for a stop finds, or else the end
module _ (test stop : ℕ → Bool) (same : (x : ℕ) → test x ≡ stop x) where
  run_place : (l : List ℕ) → length (up_to stop l) ≡ position_or_len test l
  unfolding up_to
  run_place l = is_position_or_len (λ (l : List ℕ). length (up_to stop l)) test refl (λ x xs. rw (same x) (step x (stop x) (up_to stop xs))) l
    where
      step : (x : ℕ) (b : Bool) (m : List ℕ) → length (cond b [] (x ∷ m)) ≡ cond b 0 (1 + length m)
      step x true m = refl
      step x false m = omega arith

  pub place_or_end : (l : List ℕ) (r : Option ℕ)
      → r ≡ cond (ltb (position_or_len test l) (length l)) (Some (position_or_len test l)) None
      → unwrap_or r (length l) ≡ length (up_to stop l)
  place_or_end l r e = rw (e, ← run_place l) (go (dec_lt (length (up_to stop l)) (length l)))
    where
      go : Dec (length (up_to stop l) < length l) → unwrap_or (cond (ltb (length (up_to stop l)) (length l)) (Some (length (up_to stop l))) None) (length l) ≡ length (up_to stop l)
      go (yes h) = rw (lt-ltb _ _ h)
      go (no h) = rw (le-ltb (length (up_to stop l)) (length l) (omega (arith, h))) (omega (arith, h, run_length stop l))

-- the rest of a text from a place on, which may lie beyond its end
pub rest_from : (at : ℕ) (l : List ℕ) (n : ℕ) → n ≡ min at (length l) → take (length l - n) (drop n l) ≡ drop at l
rest_from at l n e = go (dec_lt at (length l))
  where
    whole : take (length l - n) (drop n l) ≡ drop n l
    whole = take_all (length l - n) (drop n l) (omega (arith, length-drop n l))

    go : Dec (at < length l) → take (length l - n) (drop n l) ≡ drop at l
    go (yes h) = let k : n ≡ at = omega arith in whole ∙ rw k
    go (no h) = whole ∙ rw (drop_of_length-le l {i = n} (omega (arith, h)), drop_of_length-le l {i = at} (omega (arith, h)))

-- a part that ends before it starts is empty
pub part_none : (b : Bool) (n : ℕ) (l : List ℕ) → n ≡ 0 → [] ≡ cond b (take n l) []
part_none true n l e = rw e
part_none false n l e = refl

-- the part that std's `get` gives, or else an empty one
pub part_got : (line : List ℕ) (p : Place) (r : Option (Bor (List ℕ))) (other : Bor (List ℕ)) → other.now ≡ [] → IsGetRangeResult line p.from p.to r
    → (unwrap_or r other).now ≡ part_of line p
unfolding part_of
part_got line p (Some x) other e g = g.0.2 ∙ sym (rw (le-leb p.to (length line) g.0.1))
part_got line p None other e g = e ∙ go g.0
  where
    go : (p.to < p.from) ⊎ (length line < p.to) → [] ≡ cond (leb p.to (length line)) (take (p.to - p.from) (drop p.from line)) []
    go (inl h) = part_none (leb p.to (length line)) (p.to - p.from) (drop p.from line) (omega arith)
    go (inr h) = rw (lt-leb p.to (length line) h)

-- a length that std's `is_empty` has tested
pub empty : (n : ℕ) → eqb n 0 ≡ true → n ≤ 0
empty n e = omega (arith, eqb-true n 0 e)

pub some : (n : ℕ) → eqb n 0 ≡ false → 0 < n
some zero e = absurd (true≢false e)
some (suc n) e = omega arith

-- when a field is a digit string: digits, and few enough, without a leading zero
module _ (l : List ℕ) where
  pub digit_string_none : eqb (length l) 0 ≡ true → false ≡ digit_string l
  unfolding digit_string
  digit_string_none h = rw (le-ltb 0 (length l) (empty (length l) h))

  pub digit_string_zero : (length l ≡ 1 → ⊥) → get_or l 0 0 ≡ 48 → false ≡ digit_string l
  unfolding digit_string
  digit_string_zero h e = rw (ne_eqb (length l) 1 h, e)
      (sym (and-false (ltb 0 (length l) && leb (length l) 10 && all digit l)))

  pub digit_string_few : eqb (length l) 0 ≡ false → ((length l ≡ 1 → ⊥) → get_or l 0 0 ≡ 48 → ⊥) → few_digits l ≡ digit_string l
  unfolding digit_string few_digits
  digit_string_few h z = rw (lt-ltb 0 (length l) (some (length l) h)) (lead (dec_lt 1 (length l)))
    where
      lead : Dec (1 < length l) → leb (length l) 10 && all digit l ≡ leb (length l) 10 && all digit l && (eqb (length l) 1 || not (eqb (get_or l 0 0) 48))
      lead (yes p) = rw (ne_eqb (get_or l 0 0) 48 (z (λ e. omega (arith, e))), or-true (eqb (length l) 1), and-true)
      lead (no p) = rw (eq-eqb (length l) 1 (omega (arith, p, some (length l) h)), and-true)

-- std's words for a test of all bytes, and for the letters and digits
pub all_is : (p q : ℕ → Bool) → ((x : ℕ) → p x ≡ q x) → (l : List ℕ) → list_all p l ≡ all q l
unfolding all
all_is p q same [] = refl
all_is p q same (x ∷ l) = rw (same x, all_is p q same l)

pub alphanumeric : (b : ℕ) → is_ascii_alphanumeric b ≡ letter_or_digit b
unfolding letter_or_digit letter digit
alphanumeric b = go (leb 48 b && leb b 57) (leb 65 b && leb b 90) (leb 97 b && leb b 122)
  where
    go : (d u l : Bool) → (d || u) || l ≡ (u || l) || d
    go true true l = refl
    go true false true = refl
    go true false false = refl
    go false true l = refl
    go false false true = refl
    go false false false = refl

-- Names and digit strings are fields: they hold no separator.
use Prim.Native.Nat.{ℕ, ◌≤◌}
use native.Mathlib.Omega.{arith}
use mathlib.Core.Path.{◌≡◌, refl, ◌∙◌}
use mathlib.Core.Bool.{Bool, true, false, cond, not, ◌&&◌, ◌||◌, and-eq-true_iff, false≢true}
use mathlib.Core.List.{List, [], ◌∷◌, ◌++◌, append_assoc}
use lib.Dec.{eqb, leb, ltb}
use lib.ListN.{length}
use borrow.Author.Tests.{ne_eqb, leb-true}
use Rattle.text.specs.Fields.{all, digit, letter, letter_or_digit, name, decimal}
use Rattle.text.specs.Scan.{one_of, separator, line_feed, lines}
use Rattle.text.specs.Forms.{print_form, marks, is_empty}
use Rattle.text.specs.Theorems.{plain, all_plain, no_feed}
use Rattle.text.proofs.Tests.{test, ◌and◌, each}
use Rattle.text.proofs.Scan.{all_weaker}
use Rattle.text.proofs.Decimal.{decimal_digits, digit_range}
use Rattle.text.proofs.Forms.{print_mark, print_byte, marks_mark, marks_byte}
use Rattle.text.proofs.Split.{lines_prefix}

-- letters and digits are no separators
above : (x : ℕ) → 48 ≤ x → not (separator x) ≡ true
unfolding one_of
above x h = rw (
  ne_eqb 10 x (λ e. omega (arith, e)),
  ne_eqb 32 x (λ e. omega (arith, e)),
  ne_eqb 40 x (λ e. omega (arith, e)),
  ne_eqb 41 x (λ e. omega (arith, e)),
)

letter_above : (x : ℕ) → letter_or_digit x ≡ true → 48 ≤ x
unfolding letter_or_digit letter digit
letter_above x h = first (leb 65 x) refl (leb 97 x) refl h
  where
    last : (c : Bool) → leb 48 x ≡ c → c && leb x 57 ≡ true → 48 ≤ x
    last true r h = leb-true 48 x r
    last false r h = absurd (false≢true h)

    first : (a : Bool) → leb 65 x ≡ a → (b : Bool) → leb 97 x ≡ b → a && leb x 90 || b && leb x 122 || leb 48 x && leb x 57 ≡
        true → 48 ≤ x
    first true p b q h = let t = leb-true 65 x p in omega arith
    first false p true q h = let t = leb-true 97 x q in omega arith
    first false p false q h = last (leb 48 x) refl h

pub name_plain : (v : List ℕ) → name v ≡ true → plain v ≡ true
unfolding plain name
name_plain v h =
    all_weaker letter_or_digit (λ b. not (separator b)) (λ x t. above x (letter_above x t)) v
    (each (test (ltb 0 (length v)) and test (leb (length v) 12) and test (all letter_or_digit v)) h).1

pub name_length_lem : (l : List ℕ) → name l ≡ true → length l ≤ 12
unfolding name
name_length_lem l h = leb-true (length l) 12 (each (test (ltb 0 (length l)) and test (leb (length l) 12) and test (all letter_or_digit l)) h).0.1

pub decimal_plain : (n : ℕ) → plain (decimal n) ≡ true
unfolding plain
decimal_plain n = all_weaker digit (λ b. not (separator b)) (λ x t. above x (digit_range x t).0) (decimal n) (decimal_digits n)

pub plains : (v : List ℕ) (vs : List (List ℕ)) → plain v ≡ true → all_plain vs ≡ true → all_plain (v ∷ vs) ≡ true
unfolding all_plain
plains v vs p q = (and-eq-true_iff (plain v) (all_plain vs)).1 (p, q)

pub no_plains : all_plain [] ≡ true
unfolding all_plain
no_plains = refl

-- a form whose one line feed is its last byte
unfoldable pub feed_form : List ℕ → Bool
feed_form [] = false
feed_form (f ∷ form) = cond (line_feed f) (is_empty form) (feed_form form)

-- the line feed is a separator
feed_plain : (x : ℕ) → not (separator x) ≡ true → not (line_feed x) ≡ true
unfolding one_of
feed_plain x t = go (eqb 10 x) (eqb 32 x) (eqb 40 x) (eqb 41 x) t
  where
    go : (a b c d : Bool) → not (a || (b || (c || (d || false)))) ≡ true → not (a || false) ≡ true
    go true b c d t = t
    go false b c d t = refl

plain_feed : (v : List ℕ) → plain v ≡ true → no_feed v ≡ true
unfolding plain
plain_feed v h = all_weaker (λ b. not (separator b)) (λ b. not (line_feed b)) feed_plain v h

end_feed : (f : ℕ) (form : List ℕ) (vs : List (List ℕ)) (rest : List ℕ) → line_feed f ≡ true → eqb f 35 ≡ false → is_empty form ≡ true
    → lines (print_form (f ∷ form) vs ++ rest) ≡ print_form (f ∷ form) vs ∷ lines rest
unfolding is_empty print_form lines
end_feed f [] vs rest d e w = rw (e, d, lines)
end_feed f (x ∷ form) vs rest d e w = absurd (false≢true w)

one_feed : (f : ℕ) → line_feed f ≡ false → no_feed (f ∷ []) ≡ true
unfolding all
one_feed f d = rw d

feed_mark : (f : ℕ) → line_feed f ≡ true → eqb f 35 ≡ false
unfolding one_of
feed_mark f d = ne_eqb f 35 (λ e. false≢true (rw e at d))

-- a printed form is one line
pub line_printed : (form : List ℕ) (vs : List (List ℕ)) (rest : List ℕ) → feed_form form ≡ true → all_plain vs ≡ true → length vs ≡
    marks form
    → lines (print_form form vs ++ rest) ≡ print_form form vs ∷ lines rest
unfolding feed_form all_plain
line_printed [] vs rest w p n = absurd (false≢true w)
line_printed (f ∷ form) vs rest w p n = split (line_printed form) (line_feed f) refl (eqb f 35) refl vs p n w
  where
    split : ((ws : List (List ℕ)) (rest : List ℕ) → feed_form form ≡ true → all_plain ws ≡ true → length ws ≡ marks form →
        lines (print_form form ws ++ rest) ≡ print_form form ws ∷ lines rest)
        → (a : Bool) → line_feed f ≡ a → (b : Bool) → eqb f 35 ≡ b → (vs : List (List ℕ)) → all_plain vs ≡ true → length vs ≡
        marks (f ∷ form)
        → cond a (is_empty form) (feed_form form) ≡ true → lines (print_form (f ∷ form) vs ++ rest) ≡ print_form (f ∷ form) vs ∷ lines rest
    split ih true d b e vs p n w = end_feed f form vs rest d (feed_mark f d) w
    split ih false d true e [] p n w = let m = rw (marks_mark f form e) at n in absurd (omega (arith, m))
    split ih false d true e (v ∷ vs) p n w =
        let t = (and-eq-true_iff (plain v) (all_plain vs)).0 p in
        let m : length vs ≡ marks form = omega (arith, n ∙ marks_mark f form e) in
        rw (print_mark f form (v ∷ vs) e, append_assoc v (print_form form vs) rest)
        (lines_prefix v (print_form form vs ++ rest) (print_form form vs) (lines rest) (plain_feed v t.0) (ih vs rest w t.1 m))
    split ih false d false e vs p n w =
        rw (print_byte f form vs e)
        (lines_prefix (f ∷ []) (print_form form vs ++ rest) (print_form form vs) (lines rest) (one_feed f d)
        (ih vs rest w p (n ∙ marks_byte f form e)))

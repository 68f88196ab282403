-- A text is its first line and the lines of the rest.
use Prim.Native.Nat.{ℕ, suc, ◌+◌, ◌-◌, ◌≤◌, ◌<◌}
use native.Mathlib.Omega.{arith}
use mathlib.Core.Path.{◌≡◌, refl, sym, ap, ◌∙◌}
use mathlib.Core.Bool.{Bool, true, false, cond, not, and-eq-true_iff, true≢false}
use mathlib.Core.List.{List, [], ◌∷◌, ◌++◌}
use lib.Dec.{eqb}
use lib.ListN.{length, get_or, take, drop, length-append, length-take, length-drop}
use lib.Seq.{drop-drop, take-append_seam}
use borrow.Author.Tests.{not-true, eqb-true}
use Rattle.text.specs.Fields.{all}
use Rattle.text.specs.Scan.{one_of, up_to, line_feed, before, lines, first_line}
use Rattle.text.specs.Theorems.{no_feed, join}
use Rattle.text.proofs.Scan.{ahead, run_length}

first_none : first_line [] ≡ []
unfolding first_line
first_none = refl

first_step : (x : ℕ) (l : List ℕ) → first_line (x ∷ l) ≡ cond (line_feed x) (x ∷ []) (x ∷ first_line l)
unfolding first_line up_to
first_step x l = go (line_feed x)
  where
    go : (b : Bool) → take (suc (length (cond b [] (x ∷ up_to line_feed l)))) (x ∷ l) ≡ cond b (x ∷ [])
        (x ∷ take (suc (length (up_to line_feed l))) l)
    go true = refl
    go false = refl

first_rest : (l : List ℕ) → first_line l ++ drop (length (first_line l)) l ≡ l
first_rest [] = rw first_none
first_rest (x ∷ l) = rw (first_step x l) (step (line_feed x) (first_rest l))
  where
    step : (b : Bool) → first_line l ++ drop (length (first_line l)) l ≡ l
        → cond b (x ∷ []) (x ∷ first_line l) ++ drop (length (cond b (x ∷ []) (x ∷ first_line l))) (x ∷ l) ≡ x ∷ l
    step true ih = refl
    step false ih = ap (λ (w : List ℕ). x ∷ w) ih

first_take : (l : List ℕ) → take (length (first_line l)) l ≡ first_line l
first_take l =
    ap (λ (m : List ℕ). take (length (first_line l)) m) (sym (first_rest l)) ∙ take-append_seam (first_line l)
    (drop (length (first_line l)) l)

pub first_length : (l : List ℕ) → length (first_line l) ≤ length l
first_length l = omega (arith, simp length-append at (ap length (first_rest l)))

first_some : (x : ℕ) (l : List ℕ) → 0 < length (first_line (x ∷ l))
first_some x l = rw (first_step x l) (step (line_feed x))
  where
    step : (b : Bool) → 0 < length (cond b (x ∷ []) (x ∷ first_line l))
    step true = omega arith
    step false = omega arith

-- the lines of a text that is not empty
lines_first : (x : ℕ) (l : List ℕ) → lines (x ∷ l) ≡ first_line (x ∷ l) ∷ lines (drop (length (first_line (x ∷ l))) (x ∷ l))
unfolding lines before
lines_first x [] = rw (first_step x [], first_none) (step (line_feed x))
  where
    step : (b : Bool) → cond b ((x ∷ []) ∷ lines []) (before x (lines [])) ≡ cond b (x ∷ []) (x ∷ []) ∷ lines
        (drop (length (cond b (x ∷ []) (x ∷ []))) (x ∷ []))
    step true = refl
    step false = refl
lines_first x (y ∷ l) = rw (first_step x (y ∷ l)) (step (line_feed x) (lines_first y l))
  where
    step : (b : Bool) → lines (y ∷ l) ≡ first_line (y ∷ l) ∷ lines (drop (length (first_line (y ∷ l))) (y ∷ l))
        → cond b ((x ∷ []) ∷ lines (y ∷ l)) (before x (lines (y ∷ l))) ≡ cond b (x ∷ []) (x ∷ first_line (y ∷ l)) ∷ lines
        (drop (length (cond b (x ∷ []) (x ∷ first_line (y ∷ l)))) (x ∷ y ∷ l))
    step true ih = refl
    step false ih = ap (λ (m : List (List ℕ)). before x m) ih

-- where a line ends: past its line feed, or at the end of the text
module _ (l : List ℕ) (at end : ℕ) (e : end ≡ at + length (up_to line_feed (drop at l))) where
  pub end_fed : end < length l → end + 1 ≡ at + length (first_line (drop at l))
  unfolding first_line
  end_fed h = omega (arith, e, length-take (suc (length (up_to line_feed (drop at l)))) (drop at l), length-drop at l)

  pub end_last : length l ≤ end → end ≡ at + length (first_line (drop at l))
  unfolding first_line
  end_last h = omega (
    arith,
    e,
    length-take (suc (length (up_to line_feed (drop at l)))) (drop at l),
    length-drop at l,
    run_length line_feed (drop at l),
  )

-- the lines from a place on: the line there, as a part of the text, and the lines after it
module _ (l : List ℕ) (at : ℕ) (h : at < length l) where
  abbrev end : ℕ
  end = at + length (first_line (drop at l))

  pub end_within : (at < end) × (end ≤ length l)
  end_within =
      let e = first_length (drop at l) in
      let s : 0 < length (first_line (drop at l)) = rw (ahead l at h) (first_some (get_or l at 0) (drop (at + 1) l)) in
      (omega arith, omega (arith, length-drop at l))

  pub part_line : take (end - at) (drop at l) ≡ first_line (drop at l)
  part_line =
      let e : end - at ≡ length (first_line (drop at l)) = omega arith in
      rw e (first_take (drop at l))

  pub lines_from : lines (drop at l) ≡ first_line (drop at l) ∷ lines (drop end l)
  lines_from =
      ap lines (ahead l at h)
      ∙ lines_first (get_or l at 0) (drop (at + 1) l)
      ∙ rw (← ahead l at h, drop-drop (length (first_line (drop at l))) at l)

-- a text without bytes has no lines; any other is its first line and the lines of the rest
pub no_lines : (l : List ℕ) → eqb (length l) 0 ≡ true → lines l ≡ []
unfolding lines
no_lines [] h = refl
no_lines (x ∷ l) h = absurd (omega (arith, eqb-true _ 0 h))

pub lines_next : (l : List ℕ) (n : ℕ) → eqb (length l) 0 ≡ false → n ≡ 0 + length (first_line l) → lines l ≡ take n l ∷ lines (drop n l)
lines_next [] n h e = absurd (true≢false h)
lines_next (x ∷ l) n h e =
    let k : n ≡ length (first_line (x ∷ l)) = omega (arith, e) in
    rw (k, first_take (x ∷ l)) (lines_first x l)

-- bytes without a line feed go before the first line
pub lines_prefix : (v m p : List ℕ) (ls : List (List ℕ)) → no_feed v ≡ true → lines m ≡ p ∷ ls → lines (v ++ m) ≡ (v ++ p) ∷ ls
unfolding all lines before
lines_prefix [] m p ls h e = e
lines_prefix (x ∷ v) m p ls h e =
    let t = (and-eq-true_iff (not (line_feed x)) (no_feed v)).0 h in
    rw (not-true (line_feed x) t.0, lines_prefix v m p ls t.1 e, lines)

pub line_first : (l rest : List ℕ) → no_feed l ≡ true → lines (l ++ 10 ∷ rest) ≡ (l ++ (10 ∷ [])) ∷ lines rest
unfolding lines one_of
line_first l rest h = lines_prefix l (10 ∷ rest) (10 ∷ []) (lines rest) h refl

pub line_last : (x : ℕ) (l : List ℕ) → no_feed (x ∷ l) ≡ true → lines (x ∷ l) ≡ (x ∷ l) ∷ []
unfolding all lines before
line_last x [] h =
    let t = (and-eq-true_iff (not (line_feed x)) true).0 h in
    rw (not-true (line_feed x) t.0, lines)
line_last x (y ∷ l) h =
    let t = (and-eq-true_iff (not (line_feed x)) (no_feed (y ∷ l))).0 h in
    lines_prefix (x ∷ []) (y ∷ l) (y ∷ l) [] ((and-eq-true_iff (not (line_feed x)) true).1 (t.0, refl)) (line_last y l t.1)

join_before : (x : ℕ) (ls : List (List ℕ)) → join (before x ls) ≡ x ∷ join ls
unfolding join before
join_before x [] = refl
join_before x (l ∷ ls) = refl

pub join_lines : (text : List ℕ) → join (lines text) ≡ text
unfolding join lines
join_lines [] = refl
join_lines (x ∷ l) = go (line_feed x) (join_lines l)
  where
    go : (b : Bool) → join (lines l) ≡ l → join (cond b ((x ∷ []) ∷ lines l) (before x (lines l))) ≡ x ∷ l
    go true ih = ap (λ (m : List ℕ). x ∷ m) ih
    go false ih = join_before x (lines l) ∙ ap (λ (m : List ℕ). x ∷ m) ih

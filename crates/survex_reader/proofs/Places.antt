-- Where what is left of a line stands in it, and the lines that are passed over before one that is handed out.
use Prim.Native.Nat.{ℕ, zero, suc, ◌+◌, ◌-◌, ◌≤◌, ◌<◌}
use native.Mathlib.Omega.{arith}
use mathlib.Core.Path.{◌≡◌, refl, sym, ap, ◌∙◌}
use mathlib.Core.Bool.{Bool, true, false, not, true≢false}
use mathlib.Core.List.{List, [], ◌∷◌}
use Rattle.std.specs.Prelude.{Option, Some, None}
use lib.Dec.{ltb}
use lib.ListN.{length, take, drop, length-drop, drop_of_length-le}
use lib.Seq.{length-take-le}
use borrow.Author.Tests.{lt-ltb, le-ltb}
use Rattle.text.specs.Ascii.{ascii}
use Rattle.text.specs.Scan.{one_of, up_to, line_feed, lines, first_line}
use Rattle.text.specs.Forms.{is_empty}
use Rattle.text.proofs.Scan.{run_length, run_take}
use Rattle.text.proofs.Split.{lines_from, end_within, part_line}
use Rattle.survex_reader.specs.Lines.{
  not_blank,
  uncommented,
  blanks_before,
  trim_start,
  trim_end,
  left_of,
  fed,
  remains,
  kept_of,
  is_left,
  remaining_in,
  remaining_from,
}
use Rattle.survex_reader.specs.declared.lines.Kept.{Kept}
use Rattle.survex_reader.proofs.Trim.{trim_length}

pub some_same : {x y : Kept} → ◌≡◌ {A = Option Kept} (Some x) (Some y) → x ≡ y
some_same {x} e = ap inside e
  where
    inside : Option Kept → Kept
    inside (Some z) = z
    inside None = x

pub some_not_none : {x : Kept} → ◌≡◌ {A = Option Kept} (Some x) None → ⊥
some_not_none e = true≢false (ap there e)
  where
    there : Option Kept → Bool
    there (Some z) = true
    there None = false

-- a list is empty just where its length is 0
pub some_empty : (l : List ℕ) → not (is_empty l) ≡ ltb 0 (length l)
unfolding is_empty
some_empty [] = refl
some_empty (x ∷ l) = sym (lt-ltb 0 (length (x ∷ l)) (omega arith))

from_ltb : (a n : ℕ) → ltb a (a + n) ≡ ltb 0 n
from_ltb a zero = le-ltb a (a + 0) (omega arith)
from_ltb a (suc n) = lt-ltb a (a + suc n) (omega arith) ∙ sym (lt-ltb 0 (suc n) (omega arith))

pub drop_of_take : (a n : ℕ) (l : List ℕ) → drop a (take n l) ≡ take (n - a) (drop a l)
drop_of_take zero n l = ap (λ (k : ℕ). take k l) {x = n} {y = n - 0} (omega arith)
drop_of_take (suc a) zero l = ap (λ (k : ℕ). take k (drop (suc a) l)) {x = 0} {y = 0 - suc a} (omega arith)
drop_of_take (suc a) (suc n) [] = sym (none (suc n - suc a))
  where
    none : (k : ℕ) → ◌≡◌ {A = List ℕ} (take k []) []
    none zero = refl
    none (suc k) = refl
drop_of_take (suc a) (suc n) (x ∷ l) =
    drop_of_take a n l ∙ ap (λ (k : ℕ). take k (drop a l)) {x = n - a} {y = suc n - suc a} (omega arith)

pub left_within : (l : List ℕ) → blanks_before (uncommented l) + length (left_of l) ≤ length l
unfolding left_of trim_start uncommented blanks_before
left_within l =
    let u = up_to (one_of (ascii ";\n")) l in
    omega (
      arith,
      trim_length (drop (length (up_to not_blank u)) u),
      length-drop (length (up_to not_blank u)) u,
      run_length not_blank u,
      run_length (one_of (ascii ";\n")) l,
    )

pub fed_is : (l : List ℕ) (n : ℕ) → n ≡ 0 + length (up_to line_feed (drop 0 l)) → ltb n (length l) ≡ fed l
unfolding fed
fed_is l n e =
    let m : n ≡ length (up_to line_feed l) = omega (arith, e) in ap (λ (k : ℕ). ltb k (length l)) m

-- the places that `kept_of` finds lie in the line, whatever stops it
module _ (stops l : List ℕ) (stop : ℕ) (e : stop ≡ 0 + length (up_to (one_of stops) (drop 0 l))) where
  pub stop_within : stop ≤ length l
  stop_within = omega (arith, e, run_length (one_of stops) l)

  module _ (from : ℕ) (f : from ≡ 0 + length (up_to not_blank (drop 0 (take (stop - 0) (drop 0 l))))) where
    pub from_within : from ≤ stop
    from_within = omega (arith, f, run_length not_blank (take (stop - 0) l), length-take-le (stop - 0) l (omega (arith, stop_within)))

    pub to_within : (n : ℕ) → n ≡ length (trim_end (take (stop - from) (drop from l))) → from + n ≤ length l
    to_within n g =
        let size : length (take (stop - from) (drop from l)) ≡ stop - from = length-take-le (stop - from) (drop from l) (omega (arith, length-drop from l, stop_within)) in
        omega (arith, g, trim_length (take (stop - from) (drop from l)), size, from_within, stop_within)

-- the places that `kept_of` finds, one after another
module _ (l : List ℕ) (stop : ℕ) (e : stop ≡ 0 + length (up_to (one_of (ascii ";\n")) (drop 0 l))) where
  part_uncommented : take (stop - 0) (drop 0 l) ≡ uncommented l
  unfolding uncommented
  part_uncommented =
      let n : stop - 0 ≡ length (up_to (one_of (ascii ";\n")) l) = omega (arith, e) in
      ap (λ (k : ℕ). take k l) n ∙ run_take (one_of (ascii ";\n")) l

  module _ (from : ℕ) (f : from ≡ 0 + length (up_to not_blank (drop 0 (take (stop - 0) (drop 0 l))))) where
    from_is : from ≡ blanks_before (uncommented l)
    unfolding blanks_before
    from_is = omega (arith, f, ap (λ (m : List ℕ). length (up_to not_blank m)) part_uncommented)

    part_trimmed : take (stop - from) (drop from l) ≡ trim_start (uncommented l)
    unfolding trim_start
    part_trimmed =
        sym (drop_of_take from stop l) ∙ ap (λ (m : List ℕ). drop from m) (ap (λ (k : ℕ). take k l) {x = stop} {y = stop - 0} (omega arith) ∙ part_uncommented) ∙ ap (λ (k : ℕ). drop k (uncommented l)) from_is

    module _ (n : ℕ) (g : n ≡ length (trim_end (take (stop - from) (drop from l)))) where
      n_is : n ≡ length (left_of l)
      unfolding left_of
      n_is = g ∙ ap (λ (m : List ℕ). length (trim_end m)) part_trimmed

      pub kept_is : (has : Bool) → has ≡ fed l → ◌≡◌ {A = Kept} (record { fed = has; from = from; to = from + n }) (kept_of l)
      unfolding kept_of
      kept_is has y = rw (y, n_is, from_is)

-- a line remains just where its place says so
pub left_lem : (l : List ℕ) → is_left (kept_of l) ≡ remains l
unfolding kept_of remains
left_lem l = rw (from_ltb (blanks_before (uncommented l)) (length (left_of l)), some_empty (left_of l))

-- half way: the lines so far were passed over
pub record Passing (text : List ℕ) (at place passed : ℕ) : Type 0 where
  pub few : passed ≤ place
  pub so_far : remaining_from text at ≡ remaining_in place passed (lines (drop place text))

pub passing_start : (text : List ℕ) (at : ℕ) → Passing text at at 0
unfolding remaining_from
passing_start text at = record { few = omega arith; so_far = refl }

module _ (text : List ℕ) (at place passed : ℕ) (p : Passing text at place passed) where
  pub passing_end : length text ≤ place → record { line = None; passed = passed; next = place } ≡ remaining_from text at
  unfolding remaining_in lines
  passing_end h = sym (p.so_far ∙ rw (drop_of_length-le text {i = place} h))

  module _ (h : place < length text) (end : ℕ) (e : end ≡ place + length (first_line (drop place text))) (k : Kept)
      (f : k ≡ kept_of (take (end - place) (drop place text))) where
    abbrev l : List ℕ
    l = first_line (drop place text)

    kept_line : k ≡ kept_of l
    kept_line = f ∙ ap kept_of (ap (λ (n : ℕ). take (n - place) (drop place text)) e ∙ part_line text place h)

    left_line : (b : Bool) → is_left k ≡ b → remains l ≡ b
    left_line b t = sym (left_lem l) ∙ ap is_left (sym kept_line) ∙ t

    lines_here : lines (drop place text) ≡ l ∷ lines (drop end text)
    lines_here = lines_from text place h ∙ ap (λ (n : ℕ). l ∷ lines (drop n text)) (sym e)

    pub line_within : (place < end) × (end ≤ length text)
    line_within = rw e (end_within text place h)

    pub passing_on : is_left k ≡ false → Passing text at end (passed + 1)
    unfolding remaining_in
    passing_on t = record {
      few = omega (arith, line_within.0, p.few);
      so_far = p.so_far ∙ rw (lines_here, left_line false t, remaining_in, e);
    }

    pub kept_within : (place + k.from ≤ length text) × (place + k.to ≤ length text)
    unfolding kept_of
    kept_within = rw kept_line (
      omega (arith, e, left_within l, line_within.1),
      omega (arith, e, left_within l, line_within.1),
    )

    pub handed_out : is_left k ≡ true → record { line = Some (record { fed = k.fed; from = place + k.from; to = place + k.to }); passed = passed; next = end } ≡ remaining_from text at
    unfolding remaining_in kept_of
    handed_out t = sym (p.so_far ∙ rw (lines_here, left_line true t, remaining_in, e, kept_line))

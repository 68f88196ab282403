-- What is handed out: a line of the text, what is left of it as a part of the text, and the lines passed over before it.
use Prim.Native.Nat.{ℕ, ◌+◌, ◌-◌, ◌≤◌, ◌<◌}
use native.Mathlib.Omega.{arith}
use native.Mathlib.Nat.{add_assoc}
use mathlib.Core.Path.{◌≡◌, refl, sym, ap, subst, ◌∙◌}
use mathlib.Core.Bool.{Bool, true, false}
use mathlib.Core.List.{List, [], ◌∷◌, head-eq_of_cons-eq, tail-eq_of_cons-eq}
use lib.ListN.{length, take, drop, length-drop, drop_of_length-le}
use lib.Seq.{drop-drop, take-take}
use native.Mathlib.Decide.{dec_lt}
use Rattle.std.specs.Prelude.{Option, Some, None}
use Rattle.text.specs.Ascii.{ascii}
use Rattle.text.specs.Scan.{one_of, up_to, lines, first_line}
use Rattle.text.proofs.Scan.{run_take}
use Rattle.text.proofs.Split.{lines_from, end_within, part_line}
use Rattle.survex_reader.specs.Lines.{uncommented, blanks_before, trim_start, trim_end, left_of, fed, remains, kept_of, in_text, remaining_in}
use Rattle.survex_reader.specs.declared.lines.Kept.{Kept}
use Rattle.survex_reader.specs.declared.lines.Remaining.{Remaining}
use Rattle.survex_reader.proofs.Trim.{trim_take, trim_length}
use Rattle.survex_reader.proofs.Places.{some_same, some_not_none, drop_of_take, left_within}

-- what is left of a line is a part of it
left_part : (l : List ℕ) → left_of l ≡ take (length (left_of l)) (drop (blanks_before (uncommented l)) l)
unfolding left_of trim_start uncommented
left_part l =
    let u = up_to (one_of (ascii ";\n")) l in
    let b = blanks_before u in
    let t = trim_end (drop b u) in
    let e : drop b u ≡ take (length u - b) (drop b l) = ap (λ (m : List ℕ). drop b m) (sym (run_take (one_of (ascii ";\n")) l)) ∙ drop_of_take b (length u) l in
    sym (trim_take (drop b u)) ∙ ap (λ (m : List ℕ). take (length t) m) e ∙
    take-take (length t) (length u - b) (drop b l) (omega (arith, trim_length (drop b u), length-drop b u))

-- the line at a place
module _ (text : List ℕ) (at : ℕ) (h : at < length text) where
  abbrev l : List ℕ
  l = first_line (drop at text)

  abbrev b : ℕ
  b = blanks_before (uncommented l)

  here_part : take (at + (b + length (left_of l)) - (at + b)) (drop (at + b) text) ≡ left_of l
  here_part =
      let w = left_within l in
      let n : at + (b + length (left_of l)) - (at + b) ≡ length (left_of l) = omega arith in
      let s : take (length l) (drop at text) ≡ l = ap (λ (k : ℕ). take k (drop at text)) {x = length l} {y = at + length l - at} (omega arith) ∙ part_line text at h in
      rw (n, ← drop-drop b at text)
      (sym (left_part l ∙ ap (λ (m : List ℕ). take (length (left_of l)) (drop b m)) (sym s)
      ∙ ap (λ (m : List ℕ). take (length (left_of l)) m) (drop_of_take b (length l) (drop at text))
      ∙ take-take (length (left_of l)) (length l - b) (drop b (drop at text)) (omega (arith, w))))

-- What is handed out is a line of the text that remains. Whatever goes over the lines and passes over those that do not remain comes to it, so many
-- lines on.
pub record HandedOut {A : Type 0} (F : ℕ → List (List ℕ) → A) (text : List ℕ) (at n : ℕ) (k : Kept) (r : Remaining) : Type 0 where
  pub line : List ℕ
  pub is_fed : k.fed ≡ fed line
  pub left : remains line ≡ true
  pub part : take (k.to - k.from) (drop k.from text) ≡ left_of line
  pub order : k.from ≤ k.to
  pub within : k.to ≤ length text
  pub ahead : r.passed + at < r.next + n
  pub next : r.next ≤ length text
  pub onward : (i : ℕ) → F (i + n) (lines (drop at text)) ≡ F (i + r.passed) (line ∷ lines (drop r.next text))

module _ {A : Type 0} (F : ℕ → List (List ℕ) → A)
    (skip : (k : ℕ) (l : List ℕ) (ls : List (List ℕ)) → remains l ≡ false → F k (l ∷ ls) ≡ F (k + 1) ls) where
  some_line : (text : List ℕ) (at : ℕ) (l : List ℕ) (ls : List (List ℕ)) → lines (drop at text) ≡ l ∷ ls → at < length text
  unfolding lines
  some_line text at l ls e = split (dec_lt at (length text))
    where
      split : Dec (at < length text) → at < length text
      split (yes h) = h
      split (no h) = absurd (nothing (lines []) l ls (sym (ap lines (drop_of_length-le text {i = at} (omega (arith, h)))) ∙ e) refl)
        where
          nothing : (v : List (List ℕ)) (x : List ℕ) (xs : List (List ℕ)) → v ≡ x ∷ xs → v ≡ [] → ⊥
          nothing v x xs p q = absurd (omega (arith, ap length p, ap length q))

  -- the definition at a line that remains, and at one that does not
  module _ (at n : ℕ) (l : List ℕ) (ls : List (List ℕ)) where
    kept_here : remains l ≡ true
        → remaining_in at n (l ∷ ls) ≡ record { line = Some (in_text at (kept_of l)); passed = n; next = at + length l }
    unfolding remaining_in
    kept_here e = rw (e, remaining_in)

    passed_here : remains l ≡ false → remaining_in at n (l ∷ ls) ≡ remaining_in (at + length l) (n + 1) ls
    unfolding remaining_in
    passed_here e = rw (e, remaining_in)

  abbrev line_of : Remaining → Option Kept
  line_of r = r.line

  -- no line remains: all that are left are passed over
  pub none_found : (ls : List (List ℕ)) (at n : ℕ) → (remaining_in at n ls).line ≡ None → (k : ℕ)
      → F (k + n) ls ≡ F (k + (remaining_in at n ls).passed) []
  unfolding remaining_in
  none_found [] at n e k = refl
  none_found (l ∷ ls) at n e k = go (remains l) refl (none_found ls (at + length l) (n + 1))
    where
      go : (t : Bool) → remains l ≡ t
          → ((remaining_in (at + length l) (n + 1) ls).line ≡ None → (j : ℕ) → F (j + (n + 1)) ls ≡ F (j + (remaining_in (at + length l) (n + 1) ls).passed) [])
          → F (k + n) (l ∷ ls) ≡ F (k + (remaining_in at n (l ∷ ls)).passed) []
      go true u ih = absurd (some_not_none (sym (ap line_of (kept_here at n l ls u)) ∙ e))
      go false u ih =
          let p = passed_here at n l ls u in
          skip (k + n) l ls u ∙ ap (λ (i : ℕ). F i ls) (add_assoc k n 1) ∙ ih (sym (ap line_of p) ∙ e) k ∙
          ap (λ (r : Remaining). F (k + r.passed) []) (sym p)

  pub some_found : (text : List ℕ) (ls : List (List ℕ)) (at n : ℕ) → lines (drop at text) ≡ ls → (k : Kept) → (remaining_in at n ls).line ≡ Some k
      → HandedOut F text at n k (remaining_in at n ls)
  unfolding remaining_in kept_of
  some_found text [] at n e k f = absurd (some_not_none (sym f))
  some_found text (l ∷ ls) at n e k f = go (remains l) refl (some_found text ls (at + length l) (n + 1))
    where
      h : at < length text
      h = some_line text at l ls e

      here : first_line (drop at text) ∷ lines (drop (at + length (first_line (drop at text))) text) ≡ l ∷ ls
      here = sym (lines_from text at h) ∙ e

      is_l : first_line (drop at text) ≡ l
      is_l = head-eq_of_cons-eq here

      is_ls : lines (drop (at + length l) text) ≡ ls
      is_ls = ap (λ (m : List ℕ). lines (drop (at + length m) text)) (sym is_l) ∙ tail-eq_of_cons-eq here

      go : (t : Bool) → remains l ≡ t
          → (lines (drop (at + length l) text) ≡ ls → (x : Kept) → (remaining_in (at + length l) (n + 1) ls).line ≡ Some x
          → HandedOut F text (at + length l) (n + 1) x (remaining_in (at + length l) (n + 1) ls))
          → HandedOut F text at n k (remaining_in at n (l ∷ ls))
      go true u ih =
          let w = rw is_l at (end_within text at h) in
          let v = left_within l in
          let q : k ≡ in_text at (kept_of l) = sym (some_same (sym (ap line_of (kept_here at n l ls u)) ∙ f)) in
          rw (q, kept_here at n l ls u)
          (record {
            line = l;
            is_fed = refl;
            left = u;
            part = subst (λ (m : List ℕ). take (at + (blanks_before (uncommented m) + length (left_of m)) - (at + blanks_before (uncommented m)))
                (drop (at + blanks_before (uncommented m)) text) ≡ left_of m) is_l (here_part text at h);
            order = omega arith;
            within = omega (arith, v, w.1);
            ahead = omega (arith, w.0);
            next = w.1;
            onward = λ i. ap (λ (v : List (List ℕ)). F (i + n) v) (e ∙ ap (λ (v : List (List ℕ)). l ∷ v) (sym is_ls));
          })
      go false u ih =
          let p = passed_here at n l ls u in
          let s = ih is_ls k (sym (ap line_of p) ∙ f) in
          let w = rw is_l at (end_within text at h) in
          rw p
          (record {
            line = s.line;
            is_fed = s.is_fed;
            left = s.left;
            part = s.part;
            order = s.order;
            within = s.within;
            ahead = omega (arith, s.ahead, w.0);
            next = s.next;
            onward = λ i. ap (λ (v : List (List ℕ)). F (i + n) v) e ∙ skip (i + n) l ls u ∙
                ap (λ (j : ℕ). F j ls) (add_assoc i n 1) ∙ ap (λ (v : List (List ℕ)). F (i + (n + 1)) v) (sym is_ls) ∙ s.onward i;
          })

  -- each line that is passed over has a byte
  pub passed_few : (text : List ℕ) (ls : List (List ℕ)) (at n : ℕ) → lines (drop at text) ≡ ls → at ≤ length text
      → (remaining_in at n ls).passed + at ≤ length text + n
  unfolding remaining_in
  passed_few text [] at n e p = omega arith
  passed_few text (l ∷ ls) at n e p = go (remains l) refl (passed_few text ls (at + length l) (n + 1))
    where
      h : at < length text
      h = some_line text at l ls e

      here : first_line (drop at text) ∷ lines (drop (at + length (first_line (drop at text))) text) ≡ l ∷ ls
      here = sym (lines_from text at h) ∙ e

      is_l : first_line (drop at text) ≡ l
      is_l = head-eq_of_cons-eq here

      go : (t : Bool) → remains l ≡ t
          → (lines (drop (at + length l) text) ≡ ls → at + length l ≤ length text
          → (remaining_in (at + length l) (n + 1) ls).passed + (at + length l) ≤ length text + (n + 1))
          → (remaining_in at n (l ∷ ls)).passed + at ≤ length text + n
      go true u ih = rw (kept_here at n l ls u) (omega (arith, h))
      go false u ih =
          let w = rw is_l at (end_within text at h) in
          let i = ih (ap (λ (m : List ℕ). lines (drop (at + length m) text)) (sym is_l) ∙ tail-eq_of_cons-eq here) w.1 in
          rw (passed_here at n l ls u) (omega (arith, i, w.0))

  -- where none remains, the text is at its end
  pub none_next : (text : List ℕ) (ls : List (List ℕ)) (at n : ℕ) → lines (drop at text) ≡ ls → (remaining_in at n ls).line ≡ None
      → lines (drop (remaining_in at n ls).next text) ≡ []
  unfolding remaining_in
  none_next text [] at n e f = e
  none_next text (l ∷ ls) at n e f = go (remains l) refl (none_next text ls (at + length l) (n + 1))
    where
      h : at < length text
      h = some_line text at l ls e

      here : first_line (drop at text) ∷ lines (drop (at + length (first_line (drop at text))) text) ≡ l ∷ ls
      here = sym (lines_from text at h) ∙ e

      is_l : first_line (drop at text) ≡ l
      is_l = head-eq_of_cons-eq here

      go : (t : Bool) → remains l ≡ t
          → (lines (drop (at + length l) text) ≡ ls → (remaining_in (at + length l) (n + 1) ls).line ≡ None
          → lines (drop (remaining_in (at + length l) (n + 1) ls).next text) ≡ [])
          → lines (drop (remaining_in at n (l ∷ ls)).next text) ≡ []
      go true u ih = absurd (some_not_none (sym (ap line_of (kept_here at n l ls u)) ∙ f))
      go false u ih =
          let p = passed_here at n l ls u in
          ap (λ (r : Remaining). lines (drop r.next text)) p ∙
          ih (ap (λ (m : List ℕ). lines (drop (at + length m) text)) (sym is_l) ∙ tail-eq_of_cons-eq here) (sym (ap line_of p) ∙ f)

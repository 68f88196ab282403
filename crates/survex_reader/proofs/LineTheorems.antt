-- The theorems of specs/LineTheorems.antt.
use Prim.Native.Nat.{ℕ, zero, suc, ◌+◌, ◌≤◌, ◌<◌}
use native.Mathlib.Omega.{arith}
use native.Mathlib.Nat.{add-zero}
use mathlib.Core.Path.{◌≡◌, refl, sym, ap, ◌∙◌}
use mathlib.Core.List.{List, [], ◌∷◌}
use lib.ListN.{length, get_or, drop}
use Rattle.std.specs.Prelude.{true, false, Option, Some, None}
use Rattle.text.specs.Scan.{lines}
use Rattle.survex_reader.specs.declared.lines.Kept.{Kept}
use Rattle.survex_reader.specs.Lines.{remains, remaining_from}
use Rattle.survex_reader.specs.LineTheorems.{remaining, line_numbers, place_after, handed_after, count_after, Hands, Theorems}
use Rattle.survex_reader.proofs.Places.{left_lem}
use Rattle.survex_reader.proofs.Onward.{none_found, some_found, none_next}

remaining_skip : (k : ℕ) (l : List ℕ) (ls : List (List ℕ)) → remains l ≡ false → remaining (l ∷ ls) ≡ remaining ls
unfolding remaining
remaining_skip k l ls e = rw (e, remaining)

remaining_here : (l : List ℕ) (ls : List (List ℕ)) → remains l ≡ true → remaining (l ∷ ls) ≡ l ∷ remaining ls
unfolding remaining
remaining_here l ls e = rw (e, remaining)

numbers_skip : (k : ℕ) (l : List ℕ) (ls : List (List ℕ)) → remains l ≡ false → line_numbers k (l ∷ ls) ≡ line_numbers (k + 1) ls
unfolding line_numbers
numbers_skip k l ls e = rw (e, line_numbers)

numbers_here : (k : ℕ) (l : List ℕ) (ls : List (List ℕ)) → remains l ≡ true → line_numbers k (l ∷ ls) ≡ k ∷ line_numbers (k + 1) ls
unfolding line_numbers
numbers_here k l ls e = rw (e, line_numbers)

-- one line is handed out: the first of those that remain, and the others are ahead
record Next (text : List ℕ) (at : ℕ) : Type 0 where
  line : List ℕ
  hands : Hands text line (remaining_from text at)
  first : remaining (lines (drop at text)) ≡ line ∷ remaining (lines (drop (remaining_from text at).next text))
  number : (k : ℕ) → line_numbers k (lines (drop at text)) ≡
      (k + (remaining_from text at).passed) ∷ line_numbers (k + (remaining_from text at).passed + 1) (lines (drop (remaining_from text at).next text))

next_line : (text : List ℕ) (at : ℕ) (x : Kept) → (remaining_from text at).line ≡ Some x → Next text at
unfolding remaining_from
next_line text at x f =
    let h = some_found (λ (k : ℕ) (ls : List (List ℕ)). remaining ls) remaining_skip text (lines (drop at text)) at 0 refl x f in
    let g = some_found line_numbers numbers_skip text (lines (drop at text)) at 0 refl x f in
    record {
      line = h.line;
      hands = record { kept = x; found = f; fed = h.is_fed; order = h.order; within = h.within; bytes = h.part };
      first = h.onward 0 ∙ remaining_here h.line _ h.left;
      number = λ k. ap (λ (i : ℕ). line_numbers i (lines (drop at text))) (sym (add-zero k)) ∙ g.onward k ∙ numbers_here _ g.line _ g.left;
    }

-- none is handed out: none remains, and none from there on
no_line : (text : List ℕ) (at : ℕ) → (remaining_from text at).line ≡ None
    → (remaining (lines (drop at text)) ≡ []) × (remaining (lines (drop (remaining_from text at).next text)) ≡ [])
unfolding remaining_from remaining
no_line text at f = (
  none_found (λ (k : ℕ) (ls : List (List ℕ)). remaining ls) remaining_skip (lines (drop at text)) at 0 f 0,
  ap remaining (none_next line_numbers numbers_skip text (lines (drop at text)) at 0 refl f),
)

hands_on : (n : ℕ) (text : List ℕ) (at : ℕ) → n < length (remaining (lines (drop at text)))
    → Hands text (get_or (remaining (lines (drop at text))) n []) (handed_after n text at)
unfolding place_after
hands_on zero text at h = go (remaining_from text at).line refl
  where
    go : (b : Option Kept) → (remaining_from text at).line ≡ b → Hands text (get_or (remaining (lines (drop at text))) 0 []) (remaining_from text at)
    go (Some x) f = let t = next_line text at x f in rw t.first t.hands
    go None f = absurd (omega (arith, h, ap length (no_line text at f).0))
hands_on (suc n) text at h = go (remaining_from text at).line refl (hands_on n text (remaining_from text at).next)
  where
    go : (b : Option Kept) → (remaining_from text at).line ≡ b
        → (n < length (remaining (lines (drop (remaining_from text at).next text)))
        → Hands text (get_or (remaining (lines (drop (remaining_from text at).next text))) n []) (handed_after n text (remaining_from text at).next))
        → Hands text (get_or (remaining (lines (drop at text))) (suc n) []) (handed_after n text (remaining_from text at).next)
    go (Some x) f ih = let t = next_line text at x f in rw t.first (ih (omega (arith, h, ap length t.first)))
    go None f ih = absurd (omega (arith, h, ap length (no_line text at f).0))

counts_on : (n : ℕ) (text : List ℕ) (at k : ℕ) → n < length (remaining (lines (drop at text)))
    → count_after n text at k ≡ get_or (line_numbers k (lines (drop at text))) n 0
unfolding count_after
counts_on zero text at k h = go (remaining_from text at).line refl
  where
    go : (b : Option Kept) → (remaining_from text at).line ≡ b → k + (remaining_from text at).passed ≡ get_or (line_numbers k (lines (drop at text))) 0 0
    go (Some x) f = sym (ap (λ (v : List ℕ). get_or v 0 0) ((next_line text at x f).number k))
    go None f = absurd (omega (arith, h, ap length (no_line text at f).0))
counts_on (suc n) text at k h = go (remaining_from text at).line refl (counts_on n text (remaining_from text at).next (k + (remaining_from text at).passed + 1))
  where
    go : (b : Option Kept) → (remaining_from text at).line ≡ b
        → (n < length (remaining (lines (drop (remaining_from text at).next text)))
        → count_after n text (remaining_from text at).next (k + (remaining_from text at).passed + 1) ≡
        get_or (line_numbers (k + (remaining_from text at).passed + 1) (lines (drop (remaining_from text at).next text))) n 0)
        → count_after n text (remaining_from text at).next (k + (remaining_from text at).passed + 1) ≡ get_or (line_numbers k (lines (drop at text))) (suc n) 0
    go (Some x) f ih =
        let t = next_line text at x f in
        ih (omega (arith, h, ap length t.first)) ∙ sym (ap (λ (v : List ℕ). get_or v (suc n) 0) (t.number k))
    go None f ih = absurd (omega (arith, h, ap length (no_line text at f).0))

none_on : (n : ℕ) (text : List ℕ) (at : ℕ) → length (remaining (lines (drop at text))) ≤ n → (handed_after n text at).line ≡ None
unfolding place_after
none_on zero text at h = go (remaining_from text at).line refl
  where
    go : (b : Option Kept) → (remaining_from text at).line ≡ b → (remaining_from text at).line ≡ None
    go (Some x) f = absurd (omega (arith, h, ap length (next_line text at x f).first))
    go None f = f
none_on (suc n) text at h = go (remaining_from text at).line refl (none_on n text (remaining_from text at).next)
  where
    go : (b : Option Kept) → (remaining_from text at).line ≡ b
        → (length (remaining (lines (drop (remaining_from text at).next text))) ≤ n → (handed_after n text (remaining_from text at).next).line ≡ None)
        → (handed_after n text (remaining_from text at).next).line ≡ None
    go (Some x) f ih = ih (omega (arith, h, ap length (next_line text at x f).first))
    go None f ih = ih (omega (arith, ap length (no_line text at f).1))

pub theorems : Theorems
theorems = record {
  left = left_lem;
  one_after_another = λ text n h. hands_on n text 0 h;
  numbered = λ text n h. counts_on n text 0 1 h;
  then_none = λ text n h. none_on n text 0 h;
}

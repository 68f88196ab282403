-- What a reader of a Survex text hands out, as theorems: the record below has a proof in proofs/LineTheorems.antt.
use Rattle.std.specs.Prelude.{ℕ, zero, suc, ◌+◌, ◌-◌, ◌≤◌, ◌<◌, ◌≡◌, Some, None, cond, List, [], ◌∷◌, length, get_or, take, drop}
use Rattle.text.specs.Scan.{lines}
use Rattle.survex_reader.specs.Lines.{left_of, fed, remains, kept_of, is_left, remaining_from}
use Rattle.survex_reader.specs.declared.lines.Kept.{Kept}
use Rattle.survex_reader.specs.declared.lines.Remaining.{Remaining}

-- the lines that remain
unfoldable pub remaining : List (List ℕ) → List (List ℕ)
remaining [] = []
remaining (l ∷ ls) = cond (remains l) (l ∷ remaining ls) (remaining ls)

-- their line numbers, of lines that begin with line k: "lines left empty, which still count"
unfoldable pub line_numbers : ℕ → List (List ℕ) → List ℕ
line_numbers k [] = []
line_numbers k (l ∷ ls) = cond (remains l) (k ∷ line_numbers (k + 1) ls) (line_numbers (k + 1) ls)

-- where a reader stands that began at a place and has handed out n times: each time where the one returned stands
unfoldable pub place_after : ℕ → List ℕ → ℕ → ℕ
place_after zero text at = at
place_after (suc n) text at = place_after n text (remaining_from text at).next

-- what it then hands out
abbrev pub handed_after : ℕ → List ℕ → ℕ → Remaining
handed_after n text at = remaining_from text (place_after n text at)

-- the number of the line that it then hands out, counted from line k on: the lines passed over, and one for each that was handed out
unfoldable pub count_after : ℕ → List ℕ → ℕ → ℕ → ℕ
count_after zero text at k = k + (remaining_from text at).passed
count_after (suc n) text at k = count_after n text (remaining_from text at).next (k + (remaining_from text at).passed + 1)

-- line l is handed out: what is left of it is those bytes of the text
pub record Hands (text l : List ℕ) (r : Remaining) : Type 0 where
  pub kept : Kept
  pub found : r.line ≡ Some kept
  pub fed : kept.fed ≡ fed l
  pub order : kept.from ≤ kept.to
  pub within : kept.to ≤ length text
  pub bytes : take (kept.to - kept.from) (drop kept.from text) ≡ left_of l

pub record Theorems : Type 0 where
  -- a line remains just where what is left of it says so
  pub left : (l : List ℕ) → is_left (kept_of l) ≡ remains l
  -- "A reader over the lent Survex text hands out one line after another": from the start, the n-th time (from 0) the n-th of the lines that remain
  pub one_after_another : (text : List ℕ) (n : ℕ) → n < length (remaining (lines text))
      → Hands text (get_or (remaining (lines text)) n []) (handed_after n text 0)
  -- with its number among all lines
  pub numbered : (text : List ℕ) (n : ℕ) → n < length (remaining (lines text)) → count_after n text 0 1 ≡ get_or (line_numbers 1 (lines text)) n 0
  -- and after all of them none, for ever
  pub then_none : (text : List ℕ) (n : ℕ) → length (remaining (lines text)) ≤ n → (handed_after n text 0).line ≡ None

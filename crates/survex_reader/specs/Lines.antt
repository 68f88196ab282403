-- The lines of a Survex text (document 02, Job 12): what a reader passes over, and the lines that remain.
use Rattle.std.specs.Prelude.{ℕ, ◌+◌, Bool, cond, not, ◌&&◌, ◌||◌, Some, None, List, [], ◌∷◌, ltb, length, drop}
use Rattle.text.specs.Ascii.{ascii}
use Rattle.text.specs.Scan.{one_of, up_to, line_feed, lines}
use Rattle.text.specs.Forms.{is_empty}
use Rattle.survex_reader.specs.declared.lines.Kept.{Kept}
use Rattle.survex_reader.specs.declared.lines.Remaining.{Remaining}

-- "blanks or tabs"
abbrev pub blank : ℕ → Bool
blank = one_of (ascii " \t")

abbrev pub not_blank : ℕ → Bool
not_blank b = not (blank b)

-- "passing over a semicolon and what follows it": the bytes before it, or before the line feed
unfoldable pub uncommented : List ℕ → List ℕ
uncommented l = up_to (one_of (ascii ";\n")) l

-- "blanks or tabs at a line's ends": how many stand at its start, what follows them, and a line without those at its end
unfoldable pub blanks_before : List ℕ → ℕ
blanks_before l = length (up_to not_blank l)

unfoldable pub trim_start : List ℕ → List ℕ
trim_start l = drop (blanks_before l) l

unfoldable pub trim_end : List ℕ → List ℕ
trim_end [] = []
trim_end (x ∷ xs) =
    let rest = trim_end xs in
    cond (blank x && is_empty rest) [] (x ∷ rest)

-- what is left of a line
unfoldable pub left_of : List ℕ → List ℕ
left_of l = trim_end (trim_start (uncommented l))

-- "Each line, blank or not, ends in a line feed."
unfoldable pub fed : List ℕ → Bool
fed l = ltb (length (up_to line_feed l)) (length l)

-- a line that is not passed over: one that lacks its line feed, or is not left empty
unfoldable pub remains : List ℕ → Bool
remains l = not (fed l) || not (is_empty (left_of l))

-- where what is left of a line stands in it
unfoldable pub kept_of : List ℕ → Kept
kept_of l =
    let from = blanks_before (uncommented l) in
    record { fed = fed l; from = from; to = from + length (left_of l) }

-- whether the line remains, by where that stands
abbrev pub is_left : Kept → Bool
is_left k = not k.fed || ltb k.from k.to

-- where it stands in the text, of a line that begins at a place
abbrev pub in_text : ℕ → Kept → Kept
in_text at k = record { fed = k.fed; from = at + k.from; to = at + k.to }

-- The next line that remains, of lines that begin at a place of the text, after others that were passed over: "lines left
-- empty, which still count". At the end there is none.
unfoldable pub remaining_in : ℕ → ℕ → List (List ℕ) → Remaining
remaining_in at passed [] = record { line = None; passed = passed; next = at }
remaining_in at passed (l ∷ ls) =
    cond (remains l)
    (record { line = Some (in_text at (kept_of l)); passed = passed; next = at + length l })
    (remaining_in (at + length l) (passed + 1) ls)

-- the next one from a place of the text on
unfoldable pub remaining_from : List ℕ → ℕ → Remaining
remaining_from text at = remaining_in at 0 (lines (drop at text))

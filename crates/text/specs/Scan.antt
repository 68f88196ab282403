-- Fields and lines (document 01, "A job and its listing"): bytes up to one that stops them.
use Rattle.std.specs.Prelude.{ℕ, suc, Bool, false, cond, ◌||◌, List, [], ◌∷◌, eqb, length, take}
use Rattle.text.specs.Ascii.{ascii}

unfoldable pub one_of : List ℕ → ℕ → Bool
one_of [] b = false
one_of (x ∷ xs) b = eqb x b || one_of xs b

-- the bytes of a list before the first that passes the test
unfoldable pub up_to : (ℕ → Bool) → List ℕ → List ℕ
up_to stop [] = []
up_to stop (x ∷ xs) = cond (stop x) [] (x ∷ up_to stop xs)

-- the bytes that end a field: the line feed, the blank and the brackets
abbrev pub separator : ℕ → Bool
separator = one_of (ascii "\n ()")

-- the field that a list begins with
abbrev pub field : List ℕ → List ℕ
field = up_to separator

-- "each line ended by a line feed"
abbrev pub line_feed : ℕ → Bool
line_feed = one_of (ascii "\n")

-- the line that a text begins with, with its line feed; the last may lack it
unfoldable pub first_line : List ℕ → List ℕ
first_line l = take (suc (length (up_to line_feed l))) l

-- a byte before the first of the lines
unfoldable pub before : ℕ → List (List ℕ) → List (List ℕ)
before x [] = (x ∷ []) ∷ []
before x (l ∷ ls) = (x ∷ l) ∷ ls

-- The lines of a text
unfoldable pub lines : List ℕ → List (List ℕ)
lines [] = []
lines (x ∷ xs) =
    let rest = lines xs in
    cond (line_feed x) ((x ∷ []) ∷ rest) (before x rest)

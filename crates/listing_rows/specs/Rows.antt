-- The lines of a listing (document 01, "A job and its listing": "header; from, to, mm, step; then the count of shots"; document 02, Job 14: "a listing
-- headed `FROM TO LOW HIGH STEP`, its shot lines alike").
use Rattle.std.specs.Prelude.{ℕ, ◌+◌, ◌*◌, Bool, true, false, List, [], ◌∷◌}
use Rattle.text.specs.Limits.{name_length}
use Rattle.text.specs.Ascii.{ascii}
use Rattle.text.specs.Fields.{decimal}
use Rattle.text.specs.Forms.{print_form}

unfoldable pub header : List ℕ
header = ascii "FROM TO MM STEP\n"

-- A listing is of one of two kinds: of one distance a shot (Job 13), or of distances between two readings (Job 14)

-- the header of each kind, byte by byte: a form without fields
unfoldable pub header_of : Bool → List ℕ
header_of false = header
header_of true = ascii "FROM TO LOW HIGH STEP\n"

-- a shot's row of each kind and the last row, with # for each name or number
unfoldable pub row_form : Bool → List ℕ
row_form false = ascii "# # # #\n"
row_form true = ascii "# # # # #\n"

unfoldable pub end_form : List ℕ
end_form = ascii "END #\n"

-- the rows of a listing of one distance a shot
unfoldable pub shot_row : List ℕ → List ℕ → ℕ → ℕ → List ℕ
shot_row from to mm step = print_form (row_form false) (from ∷ to ∷ decimal mm ∷ decimal step ∷ [])

unfoldable pub end_row : ℕ → List ℕ
end_row count = print_form end_form (decimal count ∷ [])

-- The row that says a shot
unfoldable pub row_of : Bool → List ℕ → List ℕ → ℕ → ℕ → ℕ → List ℕ
row_of false from to low high step = shot_row from to low step
row_of true from to low high step = print_form (row_form true) (from ∷ to ∷ decimal low ∷ decimal high ∷ decimal step ∷ [])

-- "Refused, it prints only `REFUSED number line`."
unfoldable pub refused_row : ℕ → ℕ → List ℕ
refused_row code line = print_form (ascii "REFUSED # #\n") (decimal code ∷ decimal line ∷ [])

-- ---- The room of a row

-- the bytes of the longest: two names, a distance of 7 digits, a bearing of 5, and what ends each
abbrev pub row_room : ℕ
row_room = 2 * name_length + 7 + 5 + 4

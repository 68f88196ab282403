-- The rows of a listing by their parts, and their lengths.
use Prim.Native.Nat.{ℕ, ◌+◌}
use native.Mathlib.Omega.{arith}
use mathlib.Core.Path.{◌≡◌, refl}
use mathlib.Core.List.{List, [], ◌∷◌, ◌++◌, append_assoc}
use lib.ListN.{length, length-append}
use Rattle.text.specs.Ascii.{ascii}
use Rattle.text.specs.Fields.{decimal}
use Rattle.text.specs.Forms.{print_form}
use Rattle.listing_rows.specs.Rows.{header, row_form, end_form, shot_row, end_row, refused_row}

pub header_length : length header ≡ 16
unfolding header
header_length = refl

pub row_parts : (f t : List ℕ) (m s : ℕ)
    → (f ++ (32 ∷ [])) ++ (t ++ (32 ∷ [])) ++ (decimal m ++ (32 ∷ [])) ++ (decimal s ++ (10 ∷ [])) ≡ shot_row f t m s
unfolding row_form shot_row print_form
row_parts f t m s = simp append_assoc

pub end_parts : (n : ℕ) → (ascii "END" ++ (32 ∷ [])) ++ (decimal n ++ (10 ∷ [])) ≡ end_row n
unfolding end_form end_row print_form
end_parts n = refl

pub refused_parts : (code line : ℕ)
    → (ascii "REFUSED" ++ (32 ∷ [])) ++ (decimal code ++ (32 ∷ [])) ++ (decimal line ++ (10 ∷ [])) ≡ refused_row code line
unfolding refused_row print_form
refused_parts code line = simp append_assoc

pub row_length : (f t : List ℕ) (m s : ℕ) → length (shot_row f t m s) ≡ length f + length t + length (decimal m) + length
    (decimal s) + 4
row_length f t m s = rw (← row_parts f t m s) (simp length-append (omega arith))

pub end_length : (n : ℕ) → length (end_row n) ≡ length (decimal n) + 5
end_length n = rw (← end_parts n) (simp length-append (omega arith))

-- The lines that are printed, as they stand (document 01, "A job and its listing"). proofs/RowReadings.antt computes them.
use Rattle.std.specs.Prelude.{ℕ, ◌≡◌, List, [], ◌∷◌, map}
use Prim.Native.String.{String}
use Rattle.text.specs.Ascii.{ascii}
use Rattle.listing_rows.specs.Rows.{header, shot_row, end_row, refused_row}

pub record RowReading : Type 0 where
  pub row : List ℕ
  pub is : String

abbrev prints : List ℕ → String → RowReading
prints r s = record { row = r; is = s }

abbrev pub row_readings : List RowReading
row_readings =
    prints header "FROM TO MM STEP\n"
    ∷ prints (shot_row (ascii "A1") (ascii "A2") 12356 4527) "A1 A2 12356 4527\n"
    ∷ prints (shot_row (ascii "a") (ascii "B") 0 65535) "a B 0 65535\n"
    ∷ prints (end_row 0) "END 0\n"
    ∷ prints (end_row 500) "END 500\n"
    -- "REFUSED number line"
    ∷ prints (refused_row 6 3) "REFUSED 6 3\n"
    ∷ prints (refused_row 5 0) "REFUSED 5 0\n"
    ∷ prints (refused_row 12 1) "REFUSED 12 1\n"
    ∷ []

pub record TextReadings : Type 0 where
  pub rows : map (λ (r : RowReading). r.row) row_readings ≡ map (λ (r : RowReading). ascii r.is) row_readings

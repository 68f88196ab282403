-- What the program misses prints, in whole millimetres: `EAST e` and `NORTH n`, a line each; where distances lie between two readings, `EAST low high` and
-- `NORTH low high`; or `REFUSED code line`.
use Rattle.std.specs.Prelude.{ℕ, suc, true, false, cond, List, [], ◌∷◌, ◌++◌, eqb, ℤ, pos, negsuc}
use Rattle.text.specs.Ascii.{ascii}
use Rattle.text.specs.Fields.{decimal}
use Rattle.text.specs.Forms.{print_form}
use Rattle.listing_rows.specs.Rows.{refused_row}
use Rattle.misclosure.specs.Misclosure.{listing_of, miss_of, intervals_of, is_between}
use Rattle.misclosure.specs.declared.Miss.{Miss}
use Rattle.misclosure.specs.declared.IntervalSums.{IntervalSums}
use Rattle.misclosure.specs.declared.Ends.{Ends}

-- decimal without leading zeros, below 0 after a minus sign
abbrev pub signed_decimal : ℤ → List ℕ
signed_decimal (pos n) = decimal n
signed_decimal (negsuc n) = ascii "-" ++ decimal (suc n)

unfoldable pub sum_rows : ℤ → ℤ → List ℕ
sum_rows east north = print_form (ascii "EAST #\nNORTH #\n") (signed_decimal east ∷ signed_decimal north ∷ [])

unfoldable pub ends_row : List ℕ → Ends → List ℕ
ends_row name e = print_form (ascii "# # #\n") (name ∷ signed_decimal e.low ∷ signed_decimal e.high ∷ [])

unfoldable pub interval_rows : Ends → Ends → List ℕ
interval_rows east north = ends_row (ascii "EAST") east ++ ends_row (ascii "NORTH") north

unfoldable pub miss_output : Miss → List ℕ
miss_output m = cond (eqb m.code 0) (sum_rows m.easting m.northing) (refused_row m.code m.line)

unfoldable pub intervals_output : IntervalSums → List ℕ
intervals_output m = cond (eqb m.code 0) (interval_rows m.easting m.northing) (refused_row m.code m.line)

-- the header tells the kind
unfoldable pub output_of : List ℕ → List ℕ
output_of text = cond (is_between text) (intervals_output (intervals_of (listing_of true text))) (miss_output (miss_of (listing_of false text)))

-- the bytes that suffice for any answer (`output_fits`); src/lib.rt has the same
abbrev pub output_room : ℕ
output_room = 96

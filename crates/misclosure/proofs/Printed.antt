-- What is printed, by its parts.
use Prim.Native.Nat.{ℕ, suc, ◌^◌, ◌≤◌, ◌<◌}
use native.Mathlib.Omega.{arith}
use mathlib.Core.Path.{◌≡◌}
use mathlib.Core.Bool.{Bool, true, false, cond}
use mathlib.Core.List.{List, [], ◌∷◌, ◌++◌, append_assoc}
use borrow.Author.Tests.{eq-eqb, ne_eqb}
use lib.Dec.{eqb}
use lib.IntN.{ℤ, pos, negsuc, nat_abs}
use lib.ListN.{length, length-append}
use Rattle.text.specs.Ascii.{ascii}
use Rattle.text.specs.Forms.{print_form}
use Rattle.text.proofs.Decimal.{decimal_length}
use Rattle.listing_rows.specs.Rows.{refused_row}
use Rattle.listing_rows.proofs.Rows.{refused_parts}
use Rattle.misclosure.specs.Misclosure.{listing_of, miss_of, intervals_of, is_between}
use Rattle.misclosure.specs.declared.Miss.{Miss}
use Rattle.misclosure.specs.declared.IntervalSums.{IntervalSums}
use Rattle.misclosure.specs.declared.Ends.{Ends}
use Rattle.misclosure.specs.Output.{signed_decimal, sum_rows, ends_row, interval_rows, miss_output, intervals_output, output_of, output_room}

pub sum_parts : (east north : ℤ) → (ascii "EAST" ++ (32 ∷ [])) ++ (signed_decimal east ++ (10 ∷ [])) ++ (ascii "NORTH" ++ (32 ∷ [])) ++ (signed_decimal north ++ (10 ∷ []))
    ≡ sum_rows east north
unfolding sum_rows print_form
sum_parts east north = simp append_assoc

pub ends_parts : (name : List ℕ) (e : Ends)
    → (name ++ (32 ∷ [])) ++ (signed_decimal e.low ++ (32 ∷ [])) ++ (signed_decimal e.high ++ (10 ∷ [])) ≡ ends_row name e
unfolding ends_row print_form
ends_parts name e = simp append_assoc

module _ (m : Miss) where
  pub miss_sums : m.code ≡ 0 → miss_output m ≡ sum_rows m.easting m.northing
  unfolding miss_output
  miss_sums h = rw (eq-eqb m.code 0 h)

  pub miss_refused : (m.code ≡ 0 → ⊥) → miss_output m ≡ refused_row m.code m.line
  unfolding miss_output
  miss_refused h = rw (ne_eqb m.code 0 h)

module _ (m : IntervalSums) where
  pub intervals_sums : m.code ≡ 0 → intervals_output m ≡ interval_rows m.easting m.northing
  unfolding intervals_output
  intervals_sums h = rw (eq-eqb m.code 0 h)

  pub intervals_refused : (m.code ≡ 0 → ⊥) → intervals_output m ≡ refused_row m.code m.line
  unfolding intervals_output
  intervals_refused h = rw (ne_eqb m.code 0 h)

-- which kind is printed
module _ (text : List ℕ) where
  pub output_between : is_between text ≡ true → output_of text ≡ intervals_output (intervals_of (listing_of true text))
  unfolding output_of
  output_between h = rw h

  pub output_single : is_between text ≡ false → output_of text ≡ miss_output (miss_of (listing_of false text))
  unfolding output_of
  output_single h = rw h

-- ---- the room that suffices, whatever the machine's numbers are

abbrev Machine : ℤ → Type 0
Machine z = nat_abs z ≤ 2 ^ 63

signed_length : (z : ℤ) → Machine z → length (signed_decimal z) ≤ 20
signed_length (pos n) h = omega (arith, decimal_length 18 n (omega arith))
signed_length (negsuc n) h = omega (arith, decimal_length 18 (suc n) (omega arith))

sums_length : (east north : ℤ) → Machine east → Machine north → length (sum_rows east north) ≤ output_room
sums_length east north h k = rw (← sum_parts east north) (simp length-append (omega (arith, signed_length east h, signed_length north k)))

ends_length : (name : List ℕ) (e : Ends) → length name ≤ 5 → Machine e.low → Machine e.high → length (ends_row name e) ≤ 48
ends_length name e few a b = rw (← ends_parts name e) (simp length-append (omega (arith, signed_length e.low a, signed_length e.high b)))

intervals_length : (east north : Ends) → Machine east.low → Machine east.high → Machine north.low → Machine north.high
    → length (interval_rows east north) ≤ output_room
unfolding interval_rows
intervals_length east north a b c d =
    omega (
      arith,
      length-append (ends_row (ascii "EAST") east) (ends_row (ascii "NORTH") north),
      ends_length (ascii "EAST") east (omega arith) a b,
      ends_length (ascii "NORTH") north (omega arith) c d,
    )

refused_length : (code line : ℕ) → code < 2 ^ 32 → line < 2 ^ 32 → length (refused_row code line) ≤ output_room
refused_length code line h k =
    rw (← refused_parts code line) (simp length-append (omega (arith, decimal_length 9 code (omega arith), decimal_length 9 line (omega arith))))

one_of : (b : Bool) (x y : List ℕ) → length x ≤ output_room → length y ≤ output_room → length (cond b x y) ≤ output_room
one_of true x y h k = h
one_of false x y h k = k

pub output_fits : (m : Miss) → m.code < 2 ^ 32 → m.line < 2 ^ 32 → Machine m.easting → Machine m.northing → length (miss_output m) ≤ output_room
unfolding miss_output
output_fits m n l e k = one_of (eqb m.code 0) _ _ (sums_length m.easting m.northing e k) (refused_length m.code m.line n l)

pub intervals_fit : (m : IntervalSums) → m.code < 2 ^ 32 → m.line < 2 ^ 32 → Machine m.easting.low → Machine m.easting.high
    → Machine m.northing.low → Machine m.northing.high → length (intervals_output m) ≤ output_room
unfolding intervals_output
intervals_fit m n l a b c d = one_of (eqb m.code 0) _ _ (intervals_length m.easting m.northing a b c d) (refused_length m.code m.line n l)

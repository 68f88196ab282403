-- Names and numbers as they stand, and whether each is one (document 01, "A job and its listing"). proofs/TextReadings.antt computes them.
use Prim.Native.String.{String}
use Rattle.std.specs.Prelude.{◌≡◌, Bool, true, false, List, [], ◌∷◌, map}
use Rattle.text.specs.Ascii.{ascii}
use Rattle.text.specs.Fields.{name, digit_string}

pub record FieldReading : Type 0 where
  pub text : String
  pub is : Bool

abbrev field : String → Bool → FieldReading
field t b = record { text = t; is = b }

-- "Names are 1 to 12 letters or digits of ASCII."
abbrev pub name_readings : List FieldReading
name_readings =
    field "A" true
    ∷ field "0" true
    ∷ field "AZaz09" true
    ∷ field "abcdefghijkl" true
    ∷ field "abcdefghijklm" false
    ∷ field "" false
    -- the bytes beside A, Z, a, z, 0 and 9
    ∷ field "@" false
    ∷ field "[" false
    ∷ field "`" false
    ∷ field "{" false
    ∷ field "/" false
    ∷ field ":" false
    ∷ field "A_1" false
    ∷ field "A.1" false
    ∷ field "A1 " false
    ∷ field "A1\r" false
    ∷ []

-- "Numbers are 1 to 10 digits, with no leading zero except 0 itself"
abbrev pub number_readings : List FieldReading
number_readings =
    field "0" true
    ∷ field "9" true
    ∷ field "10" true
    ∷ field "9999999999" true
    ∷ field "10000000000" false
    ∷ field "" false
    ∷ field "00" false
    ∷ field "01" false
    ∷ field "-1" false
    ∷ field "+1" false
    ∷ field "1.0" false
    ∷ field "1a" false
    ∷ field "1/" false
    ∷ field "1:" false
    ∷ []

pub record TextReadings : Type 0 where
  pub names : map (λ (r : FieldReading). name (ascii r.text)) name_readings ≡ map (λ (r : FieldReading). r.is) name_readings
  pub numbers : map (λ (r : FieldReading). digit_string (ascii r.text)) number_readings ≡ map (λ (r : FieldReading). r.is) number_readings

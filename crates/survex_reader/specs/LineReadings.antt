-- Lines of a Survex text as they stand, what is left of each, and whether it remains (document 02, Job 12). proofs/LineReadings.antt computes them.
use Prim.Native.String.{String}
use Rattle.std.specs.Prelude.{◌≡◌, Bool, true, false, List, [], ◌∷◌, map}
use Rattle.text.specs.Ascii.{ascii}
use Rattle.survex_reader.specs.Lines.{left_of, fed, remains}

pub record LineReading : Type 0 where
  pub text : String
  pub left : String
  pub fed : Bool
  pub remains : Bool

abbrev line : String → String → Bool → Bool → LineReading
line t l f r = record { text = t; left = l; fed = f; remains = r }

-- "passing over a semicolon and what follows it, blanks or tabs at a line's ends, and lines left empty"; "Each line, blank or not, ends in a line feed."
abbrev pub line_readings : List LineReading
line_readings =
    line "A B 1 0 0\n" "A B 1 0 0" true true
    ∷ line " \tA \t B\t 1 0 0 \t; level; dry\n" "A \t B\t 1 0 0" true true
    ∷ line "A;B\n" "A" true true
    ∷ line "\n" "" true false
    ∷ line " \t\n" "" true false
    ∷ line ";\n" "" true false
    ∷ line "\t; A B\n" "" true false
    ∷ line "\r\n" "\r" true true
    ∷ line "A\r\n" "A\r" true true
    -- without a line feed
    ∷ line "A" "A" false true
    ∷ line " " "" false true
    ∷ line ";" "" false true
    ∷ []

pub record TextReadings : Type 0 where
  pub left : map (λ (r : LineReading). left_of (ascii r.text)) line_readings ≡ map (λ (r : LineReading). ascii r.left) line_readings
  pub fed : map (λ (r : LineReading). fed (ascii r.text)) line_readings ≡ map (λ (r : LineReading). r.fed) line_readings
  pub remains : map (λ (r : LineReading). remains (ascii r.text)) line_readings ≡ map (λ (r : LineReading). r.remains) line_readings

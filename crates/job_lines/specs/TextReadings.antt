-- Lines of a job as they stand, and what each says (document 01, "A job and its listing"). proofs/TextReadings.antt computes them.
use Prim.Native.String.{String}
use Rattle.std.specs.Prelude.{◌≡◌, List, [], ◌∷◌, map}
use Rattle.text.specs.Ascii.{ascii}
use Rattle.job_lines.specs.Forms.{Form, seeds, sigma, shot, no_form, read_line, print_line}

pub record LineReading : Type 0 where
  pub text : String
  pub says : Form

abbrev line : String → Form → LineReading
line t x = record { text = t; says = x }

-- one of the three forms, each number and name in its place
abbrev pub form_readings : List LineReading
form_readings =
    line "(seeds (a 3 9 17) (b 5 11 19))\n" (seeds 3 9 17 5 11 19)
    ∷ line "(seeds (a 4294967295 0 10) (b 1 4294967296 9999999999))\n" (seeds 4294967295 0 10 1 4294967296 9999999999)
    ∷ line "(sigma 4 10)\n" (sigma 4 10)
    ∷ line "(sigma 0 1001)\n" (sigma 0 1001)
    ∷ line "(shot A1 A2 12345 4500)\n" (shot (ascii "A1") (ascii "A2") 12345 4500)
    ∷ line "(shot abcXYZ098zAZ a 0 65536)\n" (shot (ascii "abcXYZ098zAZ") (ascii "a") 0 65536)
    ∷ []

-- "line is none of the three forms, or lacks its line feed"
abbrev pub no_form_readings : List LineReading
no_form_readings =
    line "(shot abcXYZ098zAZ1 a 0 0)\n" no_form
    ∷ line "(shot A- B 0 0)\n" no_form
    ∷ line "(shot  B 0 0)\n" no_form
    ∷ line "(sigma 10000000000 10)\n" no_form
    ∷ line "(sigma 04 10)\n" no_form
    ∷ line "(sigma 4 -10)\n" no_form
    ∷ line "(sigma 4)\n" no_form
    ∷ line "(sigma 4 10 3)\n" no_form
    ∷ line "(shot A B 1)\n" no_form
    ∷ line "(seeds (a 3 9) (b 5 11 19))\n" no_form
    ∷ line "(seeds (b 5 11 19) (a 3 9 17))\n" no_form
    ∷ line "(Sigma 4 10)\n" no_form
    -- "Single blanks stand only as shown."
    ∷ line "(sigma 4  10)\n" no_form
    ∷ line "(sigma 4 10 )\n" no_form
    ∷ line " (sigma 4 10)\n" no_form
    ∷ line "(sigma 4 10) \n" no_form
    ∷ line "(sigma\t4 10)\n" no_form
    ∷ line "(seeds (a 3 9 17)(b 5 11 19))\n" no_form
    ∷ line "(sigma 4 10)\r\n" no_form
    ∷ line "(sigma 4 10)" no_form
    ∷ line "(sigma 4 10\n" no_form
    ∷ line "\n" no_form
    ∷ line "" no_form
    ∷ []

pub record TextReadings : Type 0 where
  pub forms : map (λ (r : LineReading). read_line (ascii r.text)) form_readings ≡ map (λ (r : LineReading). r.says) form_readings
  pub no_forms : map (λ (r : LineReading). read_line (ascii r.text)) no_form_readings ≡ map (λ (r : LineReading). r.says) no_form_readings
  -- each form is printed as it was read
  pub printed : map (λ (r : LineReading). print_line r.says) form_readings ≡ map (λ (r : LineReading). ascii r.text) form_readings

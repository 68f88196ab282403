-- Lines of a listing as they stand, and what each says (document 01, "A job and its listing"; document 02, Jobs 13 and 14). proofs/EntryReadings.antt
-- computes them.
use Rattle.std.specs.Prelude.{ℕ, ◌≡◌, Bool, true, false, List, [], ◌∷◌, map}
use Prim.Native.String.{String}
use Rattle.text.specs.Ascii.{ascii}
use Rattle.listing_rows.specs.Entries.{is_header, Said, leg, last, neither, read_entry}

-- a first line, and whether it heads a listing of one distance a shot, or of two
pub record HeaderReading : Type 0 where
  pub text : String
  pub of_one : Bool
  pub of_two : Bool

abbrev heads : String → Bool → Bool → HeaderReading
heads t one two = record { text = t; of_one = one; of_two = two }

abbrev pub header_readings : List HeaderReading
header_readings =
    heads "FROM TO MM STEP\n" true false
    ∷ heads "FROM TO LOW HIGH STEP\n" false true
    ∷ heads "FROM TO HIGH LOW STEP\n" false false
    ∷ heads "FROM TO LOW HIGH STEPS\n" false false
    ∷ heads "FROM TO LOW HIGH STEP" false false
    ∷ heads "FROM TO MM STEP" false false
    ∷ heads "FROM TO MM STEP \n" false false
    ∷ heads "FROM TO MM STEP\r\n" false false
    ∷ heads "from to mm step\n" false false
    ∷ heads "\n" false false
    ∷ heads "" false false
    ∷ []

-- another line, and what it says in a listing of one distance a shot, or of two
pub record EntryReading : Type 0 where
  pub text : String
  pub of_one : Said
  pub of_two : Said

abbrev entry : String → Said → Said → EntryReading
entry t one two = record { text = t; of_one = one; of_two = two }

-- a shot from A to B
abbrev shot : ℕ → ℕ → ℕ → Said
shot low high step = leg (ascii "A") (ascii "B") low high step

abbrev pub entry_readings : List EntryReading
entry_readings =
    entry "A B 12356 4527\n" (shot 12356 12356 4527) neither
    ∷ entry "A B 12 1008242 65535\n" neither (shot 12 1008242 65535)
    ∷ entry "A B 9999999999 0\n" (shot 9999999999 9999999999 0) neither
    ∷ entry "abcXYZ098zAZ a 1 0\n" (leg (ascii "abcXYZ098zAZ") (ascii "a") 1 1 0) neither
    ∷ entry "END 0\n" (last 0) (last 0)
    ∷ entry "END 500\n" (last 500) (last 500)
    -- "Names and numbers have a job's form."
    ∷ entry "abcXYZ098zAZ1 a 1 0\n" neither neither
    ∷ entry "A B 10000000000 0\n" neither neither
    ∷ entry "A B 01 0\n" neither neither
    ∷ entry "A B 1 0" neither neither
    ∷ entry "A B 1 0\r\n" neither neither
    ∷ entry "A B  1 0\n" neither neither
    ∷ entry "A B 1 0 \n" neither neither
    ∷ entry "END 01\n" neither neither
    ∷ entry "END\n" neither neither
    ∷ entry "END 1 \n" neither neither
    ∷ entry "END 1" neither neither
    ∷ entry "end 1\n" neither neither
    ∷ entry "\n" neither neither
    ∷ []

pub record TextReadings : Type 0 where
  pub headers_of_one : map (λ (r : HeaderReading). is_header false (ascii r.text)) header_readings ≡ map (λ (r : HeaderReading). r.of_one) header_readings
  pub headers_of_two : map (λ (r : HeaderReading). is_header true (ascii r.text)) header_readings ≡ map (λ (r : HeaderReading). r.of_two) header_readings
  pub entries_of_one : map (λ (r : EntryReading). read_entry false (ascii r.text)) entry_readings ≡ map (λ (r : EntryReading). r.of_one) entry_readings
  pub entries_of_two : map (λ (r : EntryReading). read_entry true (ascii r.text)) entry_readings ≡ map (λ (r : EntryReading). r.of_two) entry_readings

-- Jobs as they stand, and what the listing program prints for each (document 01, "A job and its listing" and the table of causes; the example's numbers are
-- those of the half step, document 02, Job 5). proofs/TextReadings.antt computes them.
use Rattle.std.specs.Prelude.{ℕ, ◌≡◌, List, [], ◌∷◌, map, pos, neg_ℤ}
use Prim.Native.String.{String}
use Rattle.text.specs.Ascii.{ascii}
use Rattle.job.specs.Job.{noisy_row, job_of, answer_of, buffer_after, output_of}
use Rattle.job.specs.declared.JobAnswer.{JobAnswer}

pub record JobReading : Type 0 where
  pub text : String
  pub prints : String

abbrev job : String → String → JobReading
job t p = record { text = t; prints = p }

abbrev pub job_readings : List JobReading
job_readings =
    job "(seeds (a 2 8 16) (b 3 9 17))\n(sigma 4 10)\n" "FROM TO MM STEP\nEND 0\n"
    -- "line is none of the three forms, or lacks its line feed"
    ∷ job "(seeds (a 2 8 16) (b 3 9 17))\n(sigma 4 10)\n(shot A1 A2 12345 04500)\n" "REFUSED 6 3\n"
    ∷ job "(seeds (a 2 8 16) (b 3 9 17))\n(sigma 4 10)" "REFUSED 6 2\n"
    ∷ job "(seeds (a 2 8 16) (b 3 9 17))\n(sigma 4 10)\n\n" "REFUSED 6 3\n"
    ∷ job "(seeds (a 2 8 16) (b 3 9 17))\r\n(sigma 4 10)\r\n" "REFUSED 6 1\n"
    -- "form in the wrong place, or text ends before line 2": "line (missing: the next one)"
    ∷ job "" "REFUSED 8 1\n"
    ∷ job "(seeds (a 2 8 16) (b 3 9 17))\n" "REFUSED 8 2\n"
    ∷ job "(sigma 4 10)\n(seeds (a 2 8 16) (b 3 9 17))\n" "REFUSED 8 1\n"
    ∷ job "(seeds (a 2 8 16) (b 3 9 17))\n(sigma 4 10)\n(sigma 4 10)\n" "REFUSED 8 3\n"
    ∷ job "(seeds (a 2 8 16) (b 3 9 17))\n(shot A1 A2 1 1)\n" "REFUSED 8 2\n"
    -- "number beyond its range"
    ∷ job "(seeds (a 2 8 4294967296) (b 3 9 17))\n" "REFUSED 7 1\n"
    ∷ job "(seeds (a 2 8 16) (b 3 9 17))\n(sigma 1001 10)\n" "REFUSED 7 2\n"
    ∷ job "(seeds (a 2 8 16) (b 3 9 17))\n(sigma 4 1001)\n" "REFUSED 7 2\n"
    ∷ job "(seeds (a 2 8 16) (b 3 9 17))\n(sigma 4 10)\n(shot A1 A2 1000001 0)\n" "REFUSED 7 3\n"
    ∷ job "(seeds (a 2 8 16) (b 3 9 17))\n(sigma 4 10)\n(shot A1 A2 0 65536)\n" "REFUSED 7 3\n"
    -- "a register below its minimum": 11 for stream a, 12 for stream b, 11 first
    ∷ job "(seeds (a 1 8 16) (b 3 9 17))\n" "REFUSED 11 1\n"
    ∷ job "(seeds (a 2 8 16) (b 3 7 17))\n" "REFUSED 12 1\n"
    ∷ job "(seeds (a 2 8 15) (b 1 7 15))\n" "REFUSED 11 1\n"
    -- "the first bad line, within it 6, 8, 9, 7, 1"
    ∷ job "(seeds (a 1 8 4294967296) (b 3 9 17))\n(sigma)\n" "REFUSED 7 1\n"
    ∷ job "(sigma 1001 10)\n" "REFUSED 8 1\n"
    ∷ []

-- a job without a shot: its listing has 22 bytes
abbrev pub short_job : List ℕ
short_job = ascii "(seeds (a 2 8 16) (b 3 9 17))\n(sigma 4 10)\n"

abbrev answer : ℕ → ℕ → ℕ → JobAnswer
answer code line length = record { code = code; line = line; length = length }

-- a row's bytes, and how it stands
pub record RowReading : Type 0 where
  pub row : List ℕ
  pub is : String

abbrev prints : List ℕ → String → RowReading
prints r s = record { row = r; is = s }

-- sigmas 4 mm and 10 steps, samples one deviation up and two down: "First sample to distance .., second to bearing"
abbrev pub row_readings : List RowReading
row_readings =
    prints (noisy_row 4 10 (ascii "A") (ascii "B") 1000 5 (pos 2048) (neg_ℤ (pos 4096))) "A B 1004 65521\n"
    ∷ prints (noisy_row 4 10 (ascii "A") (ascii "B") 1 65530 (neg_ℤ (pos 4096)) (pos 2048)) "A B 0 4\n"
    ∷ []

abbrev pub example_job : List ℕ
example_job = ascii "(seeds (a 2 8 16) (b 2 8 16))\n(sigma 4 10)\n(shot A1 A2 12345 4500)\n(shot A2 A3 9000 65530)\n"

abbrev pub example_listing : List ℕ
example_listing = ascii "FROM TO MM STEP\nA1 A2 12356 4527\nA2 A3 9011 8\nEND 2\n"

pub record TextReadings : Type 0 where
  pub rows : map (λ (r : RowReading). r.row) row_readings ≡ map (λ (r : RowReading). ascii r.is) row_readings
  pub jobs : map (λ (r : JobReading). output_of (job_of (ascii r.text)) 20480) job_readings ≡ map (λ (r : JobReading). ascii r.prints) job_readings
  -- code, line and length: accepted, too long for the buffer by a byte, and refused
  pub answers : answer_of (job_of short_job) 22 ∷ answer_of (job_of short_job) 21 ∷ answer_of (job_of (ascii "\n")) 22 ∷ []
      ≡ answer 0 0 22 ∷ answer 10 0 0 ∷ answer 6 1 0 ∷ []
  pub too_long : output_of (job_of short_job) 21 ≡ ascii "REFUSED 10 0\n"
  -- "bytes beyond the listing's length keep their contents"; refused, all do
  pub buffers : buffer_after (job_of short_job) (ascii "------------------------")
      ∷ buffer_after (job_of short_job) (ascii "---------------------")
      ∷ buffer_after (job_of (ascii "\n")) (ascii "------------------------")
      ∷ []
      ≡ ascii "FROM TO MM STEP\nEND 0\n--" ∷ ascii "---------------------" ∷ ascii "------------------------" ∷ []
  -- the example of document 01
  pub example : output_of (job_of example_job) 20480 ≡ example_listing

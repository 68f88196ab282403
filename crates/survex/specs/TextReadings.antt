-- Survex texts as they stand, and what is written for each (document 02, Job 12). proofs/TextReadings.antt computes them.
use Prim.Native.String.{String}
use Rattle.std.specs.Prelude.{◌≡◌, List, [], ◌∷◌, map}
use Rattle.text.specs.Ascii.{ascii}
use Rattle.job.specs.Job.{Outcome, refused, listed}
use Rattle.survex.specs.Survex.{survex_of}

pub record SurvexReading : Type 0 where
  pub text : String
  pub gives : Outcome

abbrev survey : String → Outcome → SurvexReading
survey t x = record { text = t; gives = x }

abbrev pub survex_readings : List SurvexReading
survex_readings =
    survey "; a cave\n\n\t*data normal from to tape compass clino ; level\nA1 A2 12.345 24.72 0\n \nA2 A3 9 359.97 0\n"
    (listed (ascii "(shot A1 A2 12345 4500)\n(shot A2 A3 9000 65531)\n"))
    ∷ survey "*data normal from to tape compass clino\n" (listed [])
    -- "no data line, told at the next line"
    ∷ survey "" (refused 21 1)
    ∷ survey "\n;\n" (refused 21 3)
    -- "any other line"
    ∷ survey "*data normal to from tape compass clino\n" (refused 21 1)
    ∷ survey "*data  normal from to tape compass clino\n" (refused 21 1)
    ∷ survey "*data normal from to tape compass clino\r\n" (refused 21 1)
    ∷ survey "A B 1 0 0\n" (refused 21 1)
    ∷ survey "*data normal from to tape compass clino\n*begin\n" (refused 21 2)
    -- "Each line, blank or not, ends in a line feed."
    ∷ survey "*data normal from to tape compass clino" (refused 21 1)
    ∷ survey "*data normal from to tape compass clino\nA B 1 0 0" (refused 21 2)
    ∷ survey "*data normal from to tape compass clino\n " (refused 21 2)
    -- "first bad line first", and lines left empty count
    ∷ survey "*data normal from to tape compass clino\n\nA B 1 0 00\nA\n" (refused 22 3)
    ∷ survey "*data normal from to tape compass clino\nA B 1 0 0\r\n" (refused 22 2)
    ∷ []

pub record TextReadings : Type 0 where
  pub texts : map (λ (r : SurvexReading). survex_of (ascii r.text)) survex_readings ≡ map (λ (r : SurvexReading). r.gives) survex_readings

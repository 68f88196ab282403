-- Legs as they stand, and the shot that each gives or its code (document 02, Job 12). proofs/LegReadings.antt computes them.
use Rattle.std.specs.Prelude.{ℕ, ◌≡◌, List, [], ◌∷◌, map}
use Prim.Native.String.{String}
use Rattle.text.specs.Ascii.{ascii}
use Rattle.survex_reader.specs.Legs.{Said, leg, wrong, words, read_leg}

pub record LegReading : Type 0 where
  pub text : String
  pub says : Said

abbrev gives : String → Said → LegReading
gives t s = record { text = t; says = s }

-- a shot from A to B
abbrev shot : ℕ → ℕ → Said
shot mm step = leg (ascii "A") (ascii "B") mm step

abbrev pub leg_readings : List LegReading
leg_readings =
    gives "A B 12.345 24.72 0" (shot 12345 4500)
    ∷ gives "A\tB \t 5.0 90 0" (shot 5000 16384)
    ∷ gives "abcXYZ098zAZ a 0 0 0" (leg (ascii "abcXYZ098zAZ") (ascii "a") 0 0)
    -- "up to 1000"
    ∷ gives "A B 1000 0 0" (shot 1000000 0)
    ∷ gives "A B 1000.000 0 0" (shot 1000000 0)
    ∷ gives "A B 1000.001 0 0" (wrong 22)
    ∷ gives "A B 9999 0 0" (wrong 22)
    -- "0 to 360, turned into the nearest of 65536 steps, halves up, 360 as 0"
    ∷ gives "A B 1 359.99 0" (shot 1000 65534)
    ∷ gives "A B 1 0.01 0" (shot 1000 2)
    ∷ gives "A B 1 360 0" (shot 1000 0)
    ∷ gives "A B 1 360.00 0" (shot 1000 0)
    ∷ gives "A B 1 360.01 0" (wrong 22)
    -- "1 to 4 digits, then perhaps a point and 1 or more decimals; too many decimals get 21"
    ∷ gives "A B 0001.5 0000.5 0" (shot 1500 91)
    ∷ gives "A B 00001 0 0" (wrong 21)
    ∷ gives "A B 1 00000 0" (wrong 21)
    ∷ gives "A B 1.0000 0 0" (wrong 21)
    ∷ gives "A B 1 0.000 0" (wrong 21)
    ∷ gives "A B 1. 0 0" (wrong 21)
    ∷ gives "A B .5 0 0" (wrong 21)
    ∷ gives "A B -1 0 0" (wrong 21)
    ∷ gives "A B 1 0.0.0 0" (wrong 21)
    -- "Clino must be the single digit 0."
    ∷ gives "A B 1 0 00" (wrong 22)
    ∷ gives "A B 1 0 0.0" (wrong 22)
    ∷ gives "A B 1 0 -0" (wrong 22)
    ∷ gives "A B 1 0 1" (wrong 22)
    ∷ gives "A B 1 0 O" (wrong 22)
    -- "21 before 22"
    ∷ gives "A B 1001 0.001 1" (wrong 21)
    -- "five fields with blanks or tabs between", names of a job's form
    ∷ gives "A B 1 0" (wrong 21)
    ∷ gives "A B 1 0 0 0" (wrong 21)
    ∷ gives "A B 1 0 0\r" (wrong 22)
    ∷ gives "A\rB 1 0 0" (wrong 21)
    ∷ gives "A.1 B 1 0 0" (wrong 21)
    ∷ gives "abcXYZ098zAZ1 a 0 0 0" (wrong 21)
    ∷ []

pub record TextReadings : Type 0 where
  pub legs : map (λ (r : LegReading). read_leg (words (ascii r.text))) leg_readings ≡ map (λ (r : LegReading). r.says) leg_readings

-- Listings as they stand, and what each gives (document 02, Jobs 13 and 14). proofs/TextReadings.antt computes them.
use Rattle.std.specs.Prelude.{ℕ, ◌≡◌, true, false, List, [], ◌∷◌, map, pos}
use Prim.Native.String.{String}
use Rattle.text.specs.Ascii.{ascii}
use Rattle.sums.specs.Spans.{Span}
use Rattle.misclosure.specs.Misclosure.{Outcome, refused, accepted, listing_of, miss_of, is_between}

pub record ListingReading : Type 0 where
  pub text : String
  pub gives : Outcome

abbrev listing : String → Outcome → ListingReading
listing t x = record { text = t; gives = x }

abbrev span : ℕ → ℕ → ℕ → Span
span low high step = record { low = low; high = high; step = step }

-- one distance a shot (Job 13)
abbrev pub one_readings : List ListingReading
one_readings =
    listing "FROM TO MM STEP\nA1 A2 12356 4527\nA2 A3 9011 8\nEND 2\n" (accepted (span 12356 12356 4527 ∷ span 9011 9011 8 ∷ []))
    ∷ listing "FROM TO MM STEP\nA B 1008242 65535\nEND 1\n" (accepted (span 1008242 1008242 65535 ∷ []))
    ∷ listing "FROM TO MM STEP\nEND 0\n" (accepted [])
    -- "any line unlike the listing's, a missing one, or a false count, gets 6"
    ∷ listing "" (refused 6 1)
    ∷ listing "END 0\n" (refused 6 1)
    ∷ listing "FROM TO LOW HIGH STEP\nEND 0\n" (refused 6 1)
    ∷ listing "FROM TO MM STEP\r\nEND 0\r\n" (refused 6 1)
    ∷ listing "FROM TO MM STEP\n" (refused 6 2)
    ∷ listing "FROM TO MM STEP\nA B 1 0\n" (refused 6 3)
    ∷ listing "FROM TO MM STEP\nA B 1 0\nEND 2\n" (refused 6 3)
    ∷ listing "FROM TO MM STEP\nA B 1 0\nEND 0\n" (refused 6 3)
    ∷ listing "FROM TO MM STEP\nA B 1 0\nEND 1" (refused 6 3)
    ∷ listing "FROM TO MM STEP\nA B 1 0\nEND 1\n\n" (refused 6 4)
    ∷ listing "FROM TO MM STEP\nEND 0\nEND 0\n" (refused 6 3)
    ∷ listing "FROM TO MM STEP\nA B 1 1 0\nEND 1\n" (refused 6 2)
    ∷ listing "FROM TO MM STEP\nA B 01 0\nEND 1\n" (refused 6 2)
    -- "24: .. a distance too large or a step above 65535"
    ∷ listing "FROM TO MM STEP\nA B 1008243 0\nEND 1\n" (refused 24 2)
    ∷ listing "FROM TO MM STEP\nA B 1 65536\nEND 1\n" (refused 24 2)
    -- "23: a shot that doesn't start at the last station"
    ∷ listing "FROM TO MM STEP\nA B 1 0\nb C 1 0\nEND 2\n" (refused 23 3)
    ∷ listing "FROM TO MM STEP\nA B 1 0\nA C 1 0\nEND 2\n" (refused 23 3)
    -- "the first bad line decides, 6, 24, 23"
    ∷ listing "FROM TO MM STEP\nA B 1 0\nC D 1 65536\nend\n" (refused 24 3)
    ∷ []

-- distances between two readings (Job 14)
abbrev pub two_readings : List ListingReading
two_readings =
    listing "FROM TO LOW HIGH STEP\nA1 A2 12 1008242 65535\nA2 A3 5 5 0\nEND 2\n" (accepted (span 12 1008242 65535 ∷ span 5 5 0 ∷ []))
    ∷ listing "FROM TO LOW HIGH STEP\nEND 0\n" (accepted [])
    ∷ listing "FROM TO MM STEP\nEND 0\n" (refused 6 1)
    ∷ listing "FROM TO LOW HIGH STEP\nA B 1 0\nEND 1\n" (refused 6 2)
    -- "25: low above high; after 24, which tests both, and before 23 on the same shot"
    ∷ listing "FROM TO LOW HIGH STEP\nA B 1008243 1 0\nEND 1\n" (refused 24 2)
    ∷ listing "FROM TO LOW HIGH STEP\nA B 1 1008243 0\nEND 1\n" (refused 24 2)
    ∷ listing "FROM TO LOW HIGH STEP\nA B 1 1 0\nC D 2 1 0\nEND 2\n" (refused 25 3)
    ∷ listing "FROM TO LOW HIGH STEP\nA B 1 1 0\nC D 1 2 0\nEND 2\n" (refused 23 3)
    ∷ []

pub record TextReadings : Type 0 where
  pub ones : map (λ (r : ListingReading). listing_of false (ascii r.text)) one_readings ≡ map (λ (r : ListingReading). r.gives) one_readings
  pub twos : map (λ (r : ListingReading). listing_of true (ascii r.text)) two_readings ≡ map (λ (r : ListingReading). r.gives) two_readings
  -- "line told as in a job, sums 0"
  pub told : miss_of (listing_of false (ascii "FROM TO MM STEP\nA B 5 0\nC D 5 0\nEND 2\n"))
      ≡ record { code = 23; line = 3; east = pos 0; north = pos 0; easting = pos 0; northing = pos 0 }
  -- which of the two a text is headed as
  pub kinds : map (λ (t : String). is_between (ascii t)) ("FROM TO LOW HIGH STEP\n" ∷ "FROM TO MM STEP\n" ∷ "" ∷ []) ≡ true ∷ false ∷ false ∷ []

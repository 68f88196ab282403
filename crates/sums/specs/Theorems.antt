-- What the sums are, as theorems: the record below has a proof in proofs/Theorems.antt.
use Rattle.std.specs.Prelude.{◌≡◌, false, List, [], ◌∷◌, ◌++◌, ℕ, zero, ◌+◌, ◌*◌, ◌/◌, ◌%◌, ◌≤◌, ◌<◌, ℤ, pos, neg_ℤ, ◌+ℤ◌, length}
use Rattle.std.proofs.Common.{arith}
use Rattle.exact.specs.Fraction.{Fraction}
use Rattle.exact.specs.Pair.{Enclosure}
use Rattle.sums.specs.Points.{Point, ◌≤ᵖ◌, ◌<ᵖ◌, ◌+ᵖ◌, signed, lowest, highest}
use Rattle.noisy_shot.specs.Shots.{Shot}
use Rattle.sums.specs.Sums.{sine, cosine, total, rounded, most_shots, most_distance, Allowed}
use Rattle.sums.specs.Exact.{sum_of, low_end, high_end, exact_sine, exact_cosine, Close}
use Rattle.sums.specs.Spans.{Span, low_shots, lowest_total, highest_total, Ranged, EqualReadings, Spans}
use Rattle.sums.specs.Margin.{distances, margin, CloseBy, FineSpans}

-- the same shot half a turn on
abbrev pub half_turned : Shot → Shot
half_turned s = record { distance = s.distance; step = (s.step + 32768) % 65536 }

abbrev pub hundredths : ℕ → Fraction
hundredths n = record { top = n; bottom = 100; positive = omega arith }

pub record Theorems : Type 0 where
  -- "up to 500 shots"; "Distances are at most 1,008,242 mm, which the half step can reach": a job's longest distance and the noise of its largest sigma
  -- and the largest sample (crate read_back shows that a listing can have it, and no more)
  pub limits : (most_shots ≡ 500) × (most_distance ≡ 1008242) × (most_distance ≡ 1000000 + (1000 * 16879 + 1024) / 2048)
  -- "rounded once to whole millimetres": n parts of 2^30 are the nearest q, on either side of zero
  pub nearest : (n q : ℕ) → 1073741824 * q ≤ n + 536870912 → n + 536870912 < 1073741824 * (q + 1)
      → (rounded (pos n) ≡ pos q) × (rounded (neg_ℤ (pos n)) ≡ neg_ℤ (pos q))
  -- "halves away from zero": q and a half become q + 1, and -q and a half -(q + 1)
  pub halves : (q : ℕ) → (rounded (pos (1073741824 * q + 536870912)) ≡ pos (q + 1))
      × (rounded (neg_ℤ (pos (1073741824 * q + 536870912))) ≡ neg_ℤ (pos (q + 1)))
  -- "East and north, rounded, are each less than 3 mm from the exact sums"; and even less than 2
  pub close : (l : List Shot) → Allowed l → Close 3 l (rounded (total sine l)) (rounded (total cosine l))
  pub closer : (l : List Shot) → Allowed l → Close 2 l (rounded (total sine l)) (rounded (total cosine l))
  -- for any run of any length L mm: at most 1/2 + 3 L / 2^30 mm from them; of 10 km, 0.53 mm
  pub within_margin : (l : List Shot) → CloseBy (margin (distances l)) l (rounded (total sine l)) (rounded (total cosine l))
  pub ten_km : (l : List Shot) → distances l ≤ 10000000 → CloseBy (hundredths 53) l (rounded (total sine l)) (rounded (total cosine l))
  -- a sum of points of the members' enclosures is a point of the sum's
  pub points : (E : ℕ → Enclosure) (P : ℕ → Point) → ((v : ℕ) → (lowest (E v) ≤ᵖ P v) × (P v ≤ᵖ highest (E v))) → (l : List Shot)
      → (low_end E l ≤ᵖ sum_of P l) × (sum_of P l ≤ᵖ high_end E l)
  -- any two enclosures of an exact sum overlap; at n = m: none is empty
  pub overlap : (n m : ℕ) (l : List Shot) → (low_end (exact_sine n) l ≤ᵖ high_end (exact_sine m) l) × (low_end (exact_cosine n) l ≤ᵖ high_end (exact_cosine m) l)
  -- for every fraction above 0 there is a number of bits from which on they are narrower
  pub narrow : (ε : Fraction) → zero < ε.top → (l : List Shot) → (start : ℕ) × ((n : ℕ) → start ≤ n
      → (high_end (exact_sine n) l <ᵖ low_end (exact_sine n) l +ᵖ signed false ε)
      × (high_end (exact_cosine n) l <ᵖ low_end (exact_cosine n) l +ᵖ signed false ε))
  -- "No shots give 0 and 0."
  pub no_shots : (G : ℕ → ℤ) → (total G [] ≡ pos 0) × (rounded (total G []) ≡ pos 0)
  -- "a run of shots joined to a second .. adds up, before rounding, to the two sums added"
  pub joined : (G : ℕ → ℤ) (l m : List Shot) → total G (l ++ m) ≡ total G l +ℤ total G m
  -- a shot and the same shot half a turn on cancel
  pub half_turn : (s : Shot) → s.step < 65536 → (total sine (s ∷ half_turned s ∷ []) ≡ pos 0) × (total cosine (s ∷ half_turned s ∷ []) ≡ pos 0)
  -- "Every choice lies between, and each end is met by some choice" (Job 14)
  pub spans : (l : List Span) → length l ≤ most_shots → Ranged l
      → Spans sine exact_sine l (lowest_total sine l) (highest_total sine l) (rounded (lowest_total sine l)) (rounded (highest_total sine l))
      × Spans cosine exact_cosine l (lowest_total cosine l) (highest_total cosine l) (rounded (lowest_total cosine l)) (rounded (highest_total cosine l))
  -- the exact sum of any choice, fractions of a millimetre among them, lies between the rounded ends, widened by 1/2 + 3 L / 2^30 mm, L the longest
  -- that the run can be
  pub fine_spans : (l : List Span)
      → FineSpans exact_sine l (rounded (lowest_total sine l)) (rounded (highest_total sine l))
      × FineSpans exact_cosine l (rounded (lowest_total cosine l)) (rounded (highest_total cosine l))
  -- "Where low equals high throughout, it is Job 13's result."
  pub equal_readings : (G : ℕ → ℤ) (l : List Span) → EqualReadings l → (lowest_total G l ≡ total G (low_shots l)) × (highest_total G l ≡ total G (low_shots l))

-- The theorems of specs/Theorems.antt.
use mathlib.Core.Path.{◌≡◌, refl, ap, ap₂, ◌∙◌}
use mathlib.Core.Bool.{Bool, true, false, cond}
use Prim.Native.Nat.{ℕ, ◌^◌, ◌≤◌, ◌<◌, zero-le}
use native.Mathlib.Omega.{arith}
use mathlib.Core.List.{List}
use lib.Dec.{leb, ltb}
use lib.ListN.{get_or}
use Rattle.box_muller.specs.declared.Samples.{Samples}
use lib.IntN.{ℤ, pos, neg_ℤ, nat_abs}
use borrow.Author.Tests.{le-ltb}
use Rattle.radius.specs.Steps.{number_bits, radius_of}
use Rattle.radius.proofs.StepLaws.{numerators_apart}
use Rattle.angle.specs.Steps.{signed_of, quarter_on}
use Rattle.angle.proofs.QuarterTurn.{signed_quarter}
use Rattle.box_muller.specs.Steps.{fraction_bits, fraction_bits18, rounded}
use Rattle.box_muller.proofs.RoundingLaws.{rounded_neg, first_small, second_small}
use Rattle.box_muller.specs.Sample.{first_of, second_of, refused, samples_of}
use Rattle.box_muller.specs.Theorems.{opposite, turned_on, negated, largest, Theorems}
use Rattle.box_muller.proofs.Readings.{the_readings}

-- ---- a quarter turn on

pair_quarter : (f k v : ℕ) → f ≤ 49 → v < 65536
    → (first_of f k (quarter_on v) ≡ second_of f k v) × (second_of f k (quarter_on v) ≡ neg_ℤ (first_of f k v))
unfolding first_of second_of
pair_quarter f k v few h =
    let sample : ℤ → ℤ = rounded f (radius_of k) in
    let e = signed_quarter v h in (
      ap (λ (p : ℤ × ℤ). sample p.0) e,
      ap (λ (p : ℤ × ℤ). sample p.1) e ∙ rounded_neg f (radius_of k) few (signed_of v).0,
    )

-- both are refused for k, or neither is: v is in range here and there
quarter_turn_lem : (f k v : ℕ) → f ≤ 49 → v < 65536 → samples_of f k (quarter_on v) ≡ turned_on (samples_of f k v)
unfolding samples_of
quarter_turn_lem f k v few h =
    let here : ltb 65535 v ≡ false = le-ltb 65535 v (omega arith) in
    let there : ltb 65535 (quarter_on v) ≡ false = le-ltb 65535 (quarter_on v) (omega arith) in
    rw (here, there) (go (leb (2 ^ number_bits) k))
  where
    go : (t : Bool) → cond t (refused 2) (record { code = 0; first = first_of f k (quarter_on v); second = second_of f k (quarter_on v) })
        ≡ turned_on (cond t (refused 2) (record { code = 0; first = first_of f k v; second = second_of f k v }))
    go true = refl
    go false =
        ap₂ (λ (x y : ℤ). record { code = 0; first = x; second = y }) (pair_quarter f k v few h).0 (pair_quarter f k v few h).1

-- half a turn is a quarter turn, twice
half_turn : (f k v : ℕ) → f ≤ 49 → v < 65536 → samples_of f k (opposite v) ≡ negated (samples_of f k v)
half_turn f k v few h =
    let twice : opposite v ≡ quarter_on (quarter_on v) = omega arith in
    rw twice (quarter_turn_lem f k (quarter_on v) few (omega arith) ∙ ap turned_on (quarter_turn_lem f k v few h))

-- ---- sizes

-- an answer is a refusal, whose samples are 0, or has the two samples
sizes : (f k v : ℕ) → (nat_abs (samples_of f k v).first ≤ largest f) × (nat_abs (samples_of f k v).second ≤ largest f)
unfolding samples_of
sizes f k v = go (leb (2 ^ number_bits) k) (ltb 65535 v)
  where
    answer : Bool → Bool → Samples
    answer t u = cond t (refused 2) (cond u (refused 3) (record { code = 0; first = first_of f k v; second = second_of f k v }))

    go : (t u : Bool) → (nat_abs (answer t u).first ≤ largest f) × (nat_abs (answer t u).second ≤ largest f)
    go true u = (zero-le, zero-le)
    go false true = (zero-le, zero-le)
    go false false = (first_small f k v, second_small f k v)

-- the farthest samples in every direction, at f fraction bits: those of (0, 0), and by quarter turns of it
module _ (f n : ℕ) (few : f ≤ 49) (farthest : samples_of f 0 0 ≡ record { code = 0; first = pos 0; second = pos n }) where
  farthest_quarter : samples_of f 0 16384 ≡ record { code = 0; first = pos n; second = neg_ℤ (pos 0) }
  farthest_quarter = quarter_turn_lem f 0 0 few (omega arith) ∙ ap turned_on farthest

  highest_at : ((samples_of f 0 16384).first ≡ pos n) × ((samples_of f 0 0).second ≡ pos n)
  highest_at = (ap (λ (r : Samples). r.first) farthest_quarter, ap (λ (r : Samples). r.second) farthest)

  lowest_at : ((samples_of f 0 49152).first ≡ neg_ℤ (pos n)) × ((samples_of f 0 32768).second ≡ neg_ℤ (pos n))
  lowest_at = (
    ap (λ (r : Samples). r.first) (half_turn f 0 16384 few (omega arith) ∙ ap negated farthest_quarter),
    ap (λ (r : Samples). r.second) (half_turn f 0 0 few (omega arith) ∙ ap negated farthest),
  )

-- reading 5, (0, 0) to 0, 16879
farthest : samples_of fraction_bits 0 0 ≡ record { code = 0; first = pos 0; second = pos 16879 }
farthest = ap (λ (l : List Samples). get_or l 4 (refused 0)) the_readings.hold

pub theorems : Theorems
theorems = record {
  quarter_turn_lem = quarter_turn_lem;
  half_turn = half_turn;
  sizes = sizes;
  largest_is = (refl, refl);
  highest = highest_at fraction_bits 16879 (omega arith) farthest;
  lowest = lowest_at fraction_bits 16879 (omega arith) farthest;
  highest18 = highest_at fraction_bits18 67517 (omega arith) the_readings.farthest18;
  lowest18 = lowest_at fraction_bits18 67517 (omega arith) the_readings.farthest18;
  cells_apart = numerators_apart;
}

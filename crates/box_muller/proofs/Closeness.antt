-- Closeness of a sample to its member of the exact pair of (2k + 1) over 2^49 and v over 65536: for any number of fraction bits and any limit
-- that leaves room beside the half for the margins of F and G.
use mathlib.Core.Path.{◌≡◌, ◌∙◌}
use Prim.Native.Nat.{ℕ, ◌+◌, ◌-◌, ◌*◌, ◌^◌, ◌≤◌, ◌<◌}
use native.Mathlib.Nat.{le_refl, le_of_suc-le-suc}
use native.Mathlib.Omega.{arith}
use Rattle.exact.specs.Fraction.{Fraction}
use Rattle.exact.specs.Pair.{Close, members}
use Rattle.radius.specs.Steps.{number_bits, inverse, radius_of}
use Rattle.radius.proofs.Ranges.{radius_of_range}
use Rattle.radius.proofs.RadiusMargin.{radius_within}
use Rattle.angle.specs.Steps.{signed_of}
use Rattle.angle.proofs.Members.{members_near}
use Rattle.box_muller.specs.Steps.{fraction_bits, fraction_bits18}
use Rattle.box_muller.specs.Sample.{nine_sixteenths, three_quarters, first_of, second_of, samples_of}
use Rattle.box_muller.specs.DataSheet.{thirty_three_sixty_fourths}
use Rattle.box_muller.specs.declared.Samples.{Samples}
use Rattle.box_muller.proofs.Refusals.{refusals}
use Rattle.box_muller.proofs.RoundingMargin.{slack, member_close}

-- "The error argument is made for a number of fraction bits and used at 11 and 13" (document 02, Job 8): with H half a unit of the
-- product, the limit is more than (H + slack) over 2 H.
abbrev pub Room : Fraction → ℕ → Type 0
Room limit f = (f ≤ 49) × (limit.bottom * (2 ^ (49 - f) + slack) < 2 * 2 ^ (49 - f) * limit.top)

-- 1/2 + 15/1024 < 33/64 < 9/16, and 1/2 + 15/256 < 3/4
pub room : Room nine_sixteenths fraction_bits
room = (omega arith, omega arith)

pub closer_room : Room thirty_three_sixty_fourths fraction_bits
closer_room = (omega arith, omega arith)

pub room18 : Room three_quarters fraction_bits18
room18 = (omega arith, omega arith)

pub samples_close : (limit : Fraction) (f k v : ℕ) → Room limit f → k < 2 ^ number_bits → v < 65536
    → Close limit f (inverse k) v (first_of f k v) (second_of f k v)
unfolding first_of second_of
samples_close limit f k v (few, enough) hk hv =
    let F = radius_of k in
    let (first, second) = members_near v in
    let small : F < 2 ^ 24 = omega (arith, radius_of_range k) in
    let g = radius_within k hk in
    let close = member_close f F few g limit in
    record {
      radius = g;
      bits = 96;
      first = close (signed_of v).0 (members 96 v).0 small (le_refl _) (le_refl _) first enough;
      second = close (signed_of v).1 (members 96 v).1 small (le_refl _) (le_refl _) second enough;
    }

-- what the call accepts are the two samples of the steps
pub accepts : (f k v : ℕ) → k < 2 ^ number_bits → v < 65536
    → samples_of f k v ≡ record { code = 0; first = first_of f k v; second = second_of f k v }
accepts f k v hk hv = refusals.none f k v hk (le_of_suc-le-suc hv)

-- so what the call answers is close
pub answer_close : (limit : Fraction) (f k v : ℕ) → Room limit f → (r : Samples) → r ≡ samples_of f k v → k < 2 ^ number_bits → v < 65536
    → Close limit f (inverse k) v r.first r.second
answer_close limit f k v enough r e hk hv = rw (e ∙ accepts f k v hk hv) (samples_close limit f k v enough hk hv)

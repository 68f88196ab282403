-- The k and v of specs/DataSheet.antt, whose second sample is more than 31/64 of a unit away.
use mathlib.Core.Path.{◌≡◌, refl}
use Prim.Native.Nat.{◌+◌, ◌*◌}
use native.Mathlib.Omega.{arith}
use lib.Count.{count_leading_zeros}
use lib.IntN.{pos}
use Rattle.exact.specs.Root.{root_digits, root_down, root_up}
use Rattle.exact.specs.Rotation.{rotation, half, compose, halving, bit_rotation, bits_rotation}
use Rattle.exact.specs.Pair.{members}
use Rattle.exact.proofs.DistanceLaws.{far_above, far_bounds_close}
use Rattle.radius.specs.Steps.{top_bit, mantissa, coarse_index, rest, fine_index, remainder, correction, logarithm, under_root, radius_of}
use Rattle.radius.proofs.RadiusMargin.{radius_within}
use Rattle.radius.specs.Root.{whole_root}
use Rattle.angle.specs.Steps.{cosine, sine, cosine_at, sine_at, signed_of}
use Rattle.tables.specs.Tables.{entry_of, log_coarse_is, log_fine_is, cos_coarse_is, sin_coarse_is, cos_fine_is, sin_fine_is, ln_two_is}
use Rattle.tables.specs.Values.{ln_two_value}
use Rattle.box_muller.specs.Steps.{fraction_bits, size}
use Rattle.box_muller.specs.Sample.{first_of, second_of, samples_of}
use Rattle.box_muller.specs.DataSheet.{thirty_one_sixty_fourths, far_k, far_v, Far, DataSheet}

-- F is half a unit above 15158 units of 512, so that the sample is rounded up
radius_is : radius_of far_k ≡ 15158 * 512 + 256
unfolding top_bit mantissa coarse_index rest fine_index remainder correction logarithm whole_root under_root radius_of entry_of count_leading_zeros root_digits ln_two_value
radius_is = rw (log_coarse_is, log_fine_is, ln_two_is) refl

returned : samples_of fraction_bits far_k far_v ≡ record { code = 0; first = pos 0; second = pos 15159 }
unfolding size cosine sine cosine_at sine_at signed_of first_of second_of samples_of entry_of
returned = rw (radius_is, cos_coarse_is, sin_coarse_is, cos_fine_is, sin_fine_is) refl

-- the cosine of no turn is 1 at 0 fraction bits, and the exact radius is at most F + 7 at 2^20: 249/512 of a unit are left
far : Far (radius_within far_k (omega arith)) 0
unfolding members rotation root_digits root_down root_up half compose halving bit_rotation bits_rotation
far = rw returned (far_above _ _ _ _ refl (rw radius_is (omega arith)))

pub data_sheet : DataSheet
data_sheet = record {
  returned = returned;
  radius = radius_within far_k (omega arith);
  bits = 0;
  far = far;
  least = λ limit all. (far_bounds_close (radius_within far_k (omega arith)) 0 far_v limit thirty_one_sixty_fourths fraction_bits _ _
      (all far_k far_v (omega arith) (omega arith))).1 far;
}

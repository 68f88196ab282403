-- The readings of specs/Readings.antt: the tables are opened, and the steps computed.
use mathlib.Core.Path.{refl}
use lib.Count.{count_leading_zeros}
use Rattle.exact.specs.Root.{root_digits}
use Rattle.radius.specs.Steps.{top_bit, mantissa, coarse_index, rest, fine_index, remainder, correction, logarithm}
use Rattle.radius.specs.Steps.{under_root, radius_of}
use Rattle.radius.specs.Root.{whole_root}
use Rattle.angle.specs.Steps.{cosine, sine, cosine_at, sine_at, signed_of}
use Rattle.tables.specs.Tables.{entry_of, log_coarse_is, log_fine_is, cos_coarse_is, sin_coarse_is, cos_fine_is, sin_fine_is, ln_two_is}
use Rattle.tables.specs.Values.{ln_two_value}
use Rattle.box_muller.specs.Steps.{size}
use Rattle.box_muller.specs.Sample.{first_of, second_of, samples_of}
use Rattle.box_muller.specs.Readings.{Readings}

pub the_readings : Readings
unfolding top_bit mantissa coarse_index rest fine_index remainder correction logarithm whole_root under_root cosine sine cosine_at sine_at size
    radius_of signed_of first_of second_of samples_of entry_of count_leading_zeros root_digits ln_two_value
the_readings = record {
  hold = rw (log_coarse_is, log_fine_is, cos_coarse_is, sin_coarse_is, cos_fine_is, sin_fine_is, ln_two_is) refl;
  example_first = rw (log_coarse_is, log_fine_is, cos_coarse_is, sin_coarse_is, cos_fine_is, sin_fine_is, ln_two_is) refl;
  example_second = rw (log_coarse_is, log_fine_is, cos_coarse_is, sin_coarse_is, cos_fine_is, sin_fine_is, ln_two_is) refl;
  farthest18 = rw (log_coarse_is, log_fine_is, cos_coarse_is, sin_coarse_is, cos_fine_is, sin_fine_is, ln_two_is) refl;
}

-- `draw_samples` leaves the samples of the pairs whose words it has drawn.
use Rattle.std.proofs.Common.{ap, ◌∙◌}
use Rattle.sample.specs.Samples.{samples_at}
use Rattle.sample.proofs.draw_samples.Goals as goal

pub returns : goal.returns
returns g c =
    let drawn = c.draw_pairs-after.ensures in
    record { now_at = drawn.lanes_after; written = c.samples.ensures ∙ ap (samples_at g.S.Sample.bits) drawn.z_after }

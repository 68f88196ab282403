-- `noisy_distance` is `noisy_distance`: the sign of the sample picks the case.
use Rattle.std.proofs.Common.{ap, ◌∙◌, ℤ, nat_abs, to_z-of_z}
use Rattle.noisy_shot.specs.Rounding.{noise_size}
use Rattle.noisy_shot.proofs.Signs.{Plus, Minus, plus, minus}
use Rattle.noisy_shot.proofs.noisy_distance.Goals as goal

pub returns-then-sample-ge0 : goal.returns-then-sample-ge0
unfolding Plus
returns-then-sample-ge0 c =
    let at = c in
    let noise = c.noise_size-noise.ensures.0 ∙ ap (λ (z : ℤ). noise_size at.args.sigma (nat_abs z)) (to_z-of_z at.ranges.sample) in
    rw ((plus at.args.sigma at.args.distance at.args.sample at.ranges.sample c.if-sample-ge0.true).0, ← noise)

pub returns : goal.returns
unfolding Minus
returns c =
    let at = c in
    let noise = c.noise_size-noise.ensures.0 ∙ ap (λ (z : ℤ). noise_size at.args.sigma (nat_abs z)) (to_z-of_z at.ranges.sample) in
    rw ((minus at.args.sigma at.args.distance at.args.sample at.ranges.sample c.if-sample-ge0.false).0, ← noise) c.saturating_sub.ensures

-- `Sums::moved` meets its contract.
use Rattle.std.proofs.Common.{arith, ap, ◌∙◌, ℤ, w16, to_z-of_z}
use Rattle.noisy_shot.specs.Rounding.{noisy_distance, noisy_bearing}
use Rattle.misclosure.proofs.Machine.{product_fits, sum_fits, sum_reads}
use Rattle.play.proofs.Summing.{far_is, bearing_fits, units, east_is, north_is}
use Rattle.play.proofs.sum.Sums.moved.Goals as goal

pub overflow_cast-step : goal.overflow_cast-step
overflow_cast-step c = bearing_fits _ _ _ _ c.noisy_bearing-step.ensures

pub overflow_cast-result : goal.overflow_cast-result
overflow_cast-result c = record { sfits = omega (arith, far_is _ _ c.args.first _ c.noisy_distance-mm.ensures c.args.noisy.steady_distance c.requires.1 c.requires.2) }

pub overflow_mul-result : goal.overflow_mul-result
overflow_mul-result c = product_fits c.args.self.east _ c.signed_of-turned.result.sine (omega (arith, c.requires.0.east)) (far_is _ _ c.args.first _ c.noisy_distance-mm.ensures c.args.noisy.steady_distance c.requires.1 c.requires.2) (units _ c.signed_of-turned.ensures).0

pub overflow_add-result : goal.overflow_add-result
overflow_add-result c = sum_fits c.args.self.east _ c.signed_of-turned.result.sine (omega (arith, c.requires.0.east)) (far_is _ _ c.args.first _ c.noisy_distance-mm.ensures c.args.noisy.steady_distance c.requires.1 c.requires.2) (units _ c.signed_of-turned.ensures).0

pub overflow_cast-result-2 : goal.overflow_cast-result-2
overflow_cast-result-2 c = record { sfits = omega (arith, far_is _ _ c.args.first _ c.noisy_distance-mm.ensures c.args.noisy.steady_distance c.requires.1 c.requires.2) }

pub overflow_mul-result-2 : goal.overflow_mul-result-2
overflow_mul-result-2 c = product_fits c.args.self.north _ c.signed_of-turned.result.cosine (omega (arith, c.requires.0.north)) (far_is _ _ c.args.first _ c.noisy_distance-mm.ensures c.args.noisy.steady_distance c.requires.1 c.requires.2) (units _ c.signed_of-turned.ensures).1

pub overflow_add-result-2 : goal.overflow_add-result-2
overflow_add-result-2 c = sum_fits c.args.self.north _ c.signed_of-turned.result.cosine (omega (arith, c.requires.0.north)) (far_is _ _ c.args.first _ c.noisy_distance-mm.ensures c.args.noisy.steady_distance c.requires.1 c.requires.2) (units _ c.signed_of-turned.ensures).1

pub returns : goal.returns
returns c =
    let at = c in
    let mm = c.noisy_distance-mm.ensures ∙ ap (λ (z : ℤ). noisy_distance at.args.noisy.distance at.args.shot.distance z) (to_z-of_z {w = w16} {z = at.args.first} at.ranges.first) in
    let step = c.noisy_bearing-step.ensures ∙ ap (λ (z : ℤ). noisy_bearing at.args.noisy.bearing at.args.shot.bearing z) (to_z-of_z {w = w16} {z = at.args.second} at.ranges.second) in
    let turned = c.signed_of-turned.ensures in (
      sum_reads c.args.self.east _ c.signed_of-turned.result.sine (omega (arith, c.requires.0.east)) (far_is _ _ c.args.first _ c.noisy_distance-mm.ensures c.args.noisy.steady_distance c.requires.1 c.requires.2) (units _ c.signed_of-turned.ensures).0 ∙ east_is _ turned at.args.self.east mm step,
      sum_reads c.args.self.north _ c.signed_of-turned.result.cosine (omega (arith, c.requires.0.north)) (far_is _ _ c.args.first _ c.noisy_distance-mm.ensures c.args.noisy.steady_distance c.requires.1 c.requires.2) (units _ c.signed_of-turned.ensures).1 ∙ north_is _ turned at.args.self.north mm step,
    )

-- `noise_size` is `noise_size` of the sample's size.
use Rattle.std.proofs.Common.{◌*◌, ◌^◌, ◌≤◌, arith, mul-le-mul, ap, ◌∙◌, nat_abs, to_z-of_z}
use Rattle.noisy_shot.specs.Rounding.{noise_size}
use Rattle.noisy_shot.proofs.noise_size.Goals as goal

-- sigma has 32 bits and a sample's size 15
product : (c : goal.After-size_of) → c.args.sigma * c.size_of.result ≤ 2 ^ 32 * 2 ^ 15
product c =
    let sigma : c.args.sigma ≤ 2 ^ 32 = omega arith in
    let size : c.size_of.result ≤ 2 ^ 15 = c.size_of.ensures.1 in
    mul-le-mul sigma size

pub returns : goal.returns
unfolding noise_size
returns c =
    let size = c.size_of.ensures.0 ∙ ap nat_abs (to_z-of_z c.ranges.sample) in
    (rw size, omega (arith, product c))

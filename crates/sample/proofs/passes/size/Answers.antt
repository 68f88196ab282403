-- `size` meets its contract.
use Rattle.std.proofs.Common.{ℕ, ◌*◌, ◌≤◌, ◌<◌, ◌^◌, mul-le-mul, le_of_lt}
use Rattle.radius.specs.Steps.{radius_limit}
use Rattle.sample.proofs.passes.size.Goals as goal

-- every product of F, the scale and G
record Products (F s G : ℕ) : Type 0 where
  scaled : F * s ≤ radius_limit * 4
  product : F * s * G ≤ radius_limit * 4 * 2 ^ 30

products : (F s G : ℕ) → F < radius_limit → s ≤ 4 → G ≤ 2 ^ 30 → Products F s G
products F s G below few member =
    let scaled = mul-le-mul (le_of_lt below) few in
    record { scaled = scaled; product = mul-le-mul scaled member }

pub returns : goal.returns
returns g c = rw c.SCALE.ensures (g.met.S.Sample.scaled c.args.f c.args.g)

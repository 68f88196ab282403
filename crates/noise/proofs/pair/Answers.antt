-- `pair` is `pair_of`: the samples of the two numbers drawn.
use Rattle.std.proofs.Common.{arith}
use Rattle.noise.proofs.PairLaws.{pair_refused, pair_drawn}
use Rattle.noise.proofs.pair.Goals as goal

pub returns-then-drawn-ne0 : goal.returns-then-drawn-ne0
returns-then-drawn-ne0 g c =
    let done = pair_refused g.S.Sample.bits c.args.g c.uniforms-drawn.ensures c.if-drawn-ne0.true c.clear.ensures in
    record { answer = done.0; memory = done.1 }

pub returns : goal.returns
returns g c =
    let done = pair_drawn g.S.Sample.bits c.args.g c.uniforms-drawn.ensures (omega (arith, c.well_formed)) (omega (arith, c.well_formed)) c.if-drawn-ne0.false c.sample-code.ensures.code
    c.sample-code.ensures.steps in
    record { answer = done.0; memory = done.1 }

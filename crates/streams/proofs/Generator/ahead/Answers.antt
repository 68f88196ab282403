-- `Generator::ahead`: the three matrices give n draws of each stream.
use Rattle.std.proofs.Common.{arith}
use Rattle.streams.specs.Streams.{onward}
use Rattle.streams.proofs.Causes.{with_room}
use Rattle.streams.proofs.Skip.{stream_ahead}
use Rattle.streams.proofs.Generator.ahead.Goals as goal

pub returns : goal.returns
returns c =
    let start = c in
    let g = start.args.self in
    let n = start.args.n in
    let a-ahead = stream_ahead n g.a (omega (arith, start.well_formed)) in
    let b-ahead = stream_ahead n g.b (omega (arith, start.well_formed)) in
    let steps = c.step_matrices-steps.ensures in
    rw (with_room _ _ _ c.onward.ensures (omega (arith, c.requires)), c.powers-3.ensures, c.powers-2.ensures, c.powers.ensures, steps.s0, steps.s1, steps.s2)
    (λ i. onward g (a-ahead i) (b-ahead i) n)

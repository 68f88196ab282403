-- `Generator::skip` is `skip_of`: the matrices give the record n pairs on.
use Rattle.std.proofs.Common.{sym, arith}
use Rattle.streams.specs.Streams.{skip_of}
use Rattle.streams.proofs.Theorems.{sound, pairs_accepted, after_moved}
use Rattle.streams.proofs.Refused.{number_not_0}
use Rattle.streams.proofs.Generator.skip.Goals as goal

pub ahead-requires : goal.ahead-requires
ahead-requires c =
    let room = ((pairs_accepted _ _).0 (sym c.in-Ok.ensures)).1 in
    omega (arith, room)

pub returns-in-Ok : goal.returns-in-Ok
unfolding skip_of
returns-in-Ok c =
    let start = c in
    let g = start.args.self in
    let (fits, room, none) = (pairs_accepted g start.args.n).0 (sym c.in-Ok.ensures) in
    let reached = after_moved _ g (sound g (omega (arith, start.well_formed)) (omega (arith, start.well_formed)) fits) none room in
    rw (c.accepted.ensures, c.ahead.ensures, ← c.in-Ok.ensures, reached)

pub returns-in-Err : goal.returns-in-Err
unfolding skip_of
returns-in-Err c = rw (c.refused.ensures, ← c.in-Err.ensures, number_not_0 _)

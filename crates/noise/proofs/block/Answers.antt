-- `block` is `block_of`, and leaves `block_holds`.
use Rattle.std.proofs.Common.{refl, ◌∙◌, arith}
use Rattle.sample.proofs.ValuesLaws.{values_length}
use Rattle.streams.proofs.Causes.{with_room}
use Rattle.streams.proofs.Refused.{some_number}
use Rattle.noise.proofs.BlockLaws.{block_refused, block_room, block_drawn}
use Rattle.noise.proofs.block.Goals as goal

pub returns-in-Err : goal.returns-in-Err
returns-in-Err g c =
    let done = block_refused g.S.Sample.bits c.args.g (g.S.Sample.values c.args.out.now) (values_length g.met.S.Sample.each _) c.in-Err.ensures (some_number _) in
    record { answer = c.refused.ensures ∙ done.0; memory = done.1 }

pub returns : goal.returns
returns g c =
    let done = block_drawn g.S.Sample.bits c.args.g (g.S.Sample.values c.args.out.now) (values_length g.met.S.Sample.each _) c.in_default.ensures refl
    (omega (arith, c.well_formed), c.side_by_side-streams.ensures, c.fill-after.ensures) (rw (c.from.ensures.0, c.from.ensures.1) at (with_room _ _ _ c.onward-next.ensures (block_room _ _ c.in_default.ensures refl))) in
    record { answer = c.accepted.ensures ∙ done.0; memory = done.1 }

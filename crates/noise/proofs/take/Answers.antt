-- `take` is `take_of`, and leaves `take_holds`.
use Rattle.std.proofs.Common.{refl, ◌∙◌, arith}
use Rattle.sample.proofs.ValuesLaws.{values_length}
use Rattle.streams.proofs.Causes.{with_room}
use Rattle.streams.proofs.Refused.{some_number}
use Rattle.noise.proofs.BlockLaws.{take_refused, take_room, take_drawn}
use Rattle.noise.proofs.take.Goals as goal

pub returns-in-Err : goal.returns-in-Err
returns-in-Err g c =
    let done = take_refused g.S.Sample.bits c.args.g (g.S.Sample.values c.args.out.now) (values_length g.met.S.Sample.each _) c.in-Err.ensures (some_number _) in
    record { answer = c.refused.ensures ∙ done.0; memory = done.1 }

pub returns : goal.returns
returns g c =
    let free = c.without_note-free in
    let done = take_drawn g.S.Sample.bits c.args.g (g.S.Sample.values c.args.out.now) (values_length g.met.S.Sample.each _) c.in_default.ensures _ refl free.ensures
    (omega (arith, free.type_inv), c.side_by_side-streams.ensures, c.chunks-after.ensures) (rw (c.from.ensures.0, c.from.ensures.1) at (with_room _ _ _ c.onward-next.ensures (take_room _ _ c.in_default.ensures refl _ free.ensures))) in
    record { answer = c.accepted.ensures ∙ done.0; memory = done.1 }

-- `look` is `look_of`, and leaves `look_holds`.
use Rattle.std.proofs.Common.{refl, ◌∙◌, arith}
use Rattle.sample.proofs.ValuesLaws.{values_length}
use Rattle.streams.proofs.Refused.{some_number}
use Rattle.noise.proofs.BlockLaws.{look_refused, look_drawn}
use Rattle.noise.proofs.look.Goals as goal

pub returns-in-Err : goal.returns-in-Err
returns-in-Err g c =
    let done = look_refused g.S.Sample.bits c.args.g (g.S.Sample.values c.args.out.now) (values_length g.met.S.Sample.each _) c.without_note-free.ensures c.in-Err.ensures (some_number _) in
    record { answer = c.refused.ensures ∙ done.0; memory = done.1 }

pub returns : goal.returns
returns g c =
    let free = c.without_note-free in
    let done = look_drawn g.S.Sample.bits c.args.g (g.S.Sample.values c.args.out.now) (values_length g.met.S.Sample.each _) free.ensures c.in_default.ensures refl
    (omega (arith, free.type_inv), c.side_by_side-streams.ensures, c.chunks.ensures) in
    record { answer = c.accepted.ensures ∙ done.0; memory = done.1 }

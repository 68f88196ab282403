-- `Generator::check_pairs`: the causes of a call for n pairs, in their order.
use Rattle.std.proofs.Common.{refl, ◌∙◌}
use Rattle.streams.specs.Streams.{note_code, own_code, room_code}
use Rattle.streams.proofs.Refused.{number_not_0, stopped, at_streams, at_note, at_room}
use Rattle.streams.proofs.Generator.check_pairs.Goals as goal

pub returns-in_err-check_streams : goal.returns-in_err-check_streams
returns-in_err-check_streams c =
    stopped _ _ c.from_residual.ensures.1 ∙ at_streams _ _ c.in_err-check_streams.ensures (number_not_0 _)

pub returns-in_err-check_none_open : goal.returns-in_err-check_none_open
unfolding note_code
returns-in_err-check_none_open c =
    stopped _ _ c.from_residual-in_err-check_none_open.ensures.1 ∙ at_note _ _ c.in_ok-check_streams.ensures c.in_err-check_none_open.ensures (number_not_0 _)

pub returns : goal.returns
unfolding note_code own_code room_code
returns c = at_room _ _ c.in_ok-check_streams.ensures c.in_ok-check_none_open.ensures refl c.check_room.ensures

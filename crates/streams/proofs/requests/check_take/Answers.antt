-- `check_take`: the causes of a take, in their order.
use Rattle.std.proofs.Common.{◌∙◌}
use Rattle.streams.specs.Streams.{note_code, own_code, room_code}
use Rattle.streams.proofs.Refused.{number_not_0, stopped, at_streams, at_note, at_own, at_room}
use Rattle.streams.proofs.requests.check_take.Goals as goal

pub returns-in_err-check_streams : goal.returns-in_err-check_streams
returns-in_err-check_streams c =
    stopped _ _ c.from_residual.ensures.1 ∙ at_streams _ _ c.in_err-check_streams.ensures (number_not_0 _)

pub returns-in_err-check_open : goal.returns-in_err-check_open
unfolding note_code
returns-in_err-check_open c =
    stopped _ _ c.from_residual-in_err-check_open.ensures.1 ∙ at_note _ _ c.in_ok-check_streams.ensures c.in_err-check_open.ensures (number_not_0 _)

pub returns-in_err-check_taken : goal.returns-in_err-check_taken
unfolding note_code own_code
returns-in_err-check_taken c =
    stopped _ _ c.from_residual-in_err-check_taken.ensures.1 ∙ at_own _ _ c.in_ok-check_streams.ensures c.in_ok-check_open.ensures c.in_err-check_taken.ensures (number_not_0 _)

pub returns : goal.returns
unfolding note_code own_code room_code
returns c = at_room _ _ c.in_ok-check_streams.ensures c.in_ok-check_open.ensures c.in_ok-check_taken.ensures c.check_room.ensures

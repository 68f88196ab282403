-- `check_give_up`: the causes of giving up, in their order.
use Rattle.std.proofs.Common.{sym, ◌∙◌}
use Rattle.streams.specs.Streams.{code_of, note_code, own_code, room_code}
use Rattle.streams.proofs.Causes.{lone_cause}
use Rattle.streams.proofs.Refused.{number_not_0, stopped, at_streams}
use Rattle.streams.proofs.requests.check_give_up.Goals as goal

pub returns-in_err-check_streams : goal.returns-in_err-check_streams
returns-in_err-check_streams c = stopped _ _ c.from_residual.ensures.1 ∙ at_streams _ _ c.in_err-check_streams.ensures (number_not_0 _)

pub returns : goal.returns
unfolding code_of note_code own_code room_code
returns c = rw (← c.in_ok-check_streams.ensures) (c.check_open.ensures ∙ sym (lone_cause _))

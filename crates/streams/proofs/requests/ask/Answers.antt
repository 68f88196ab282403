-- `ask` is `ask_of`: it notes the pairs where its test is passed.
use Rattle.streams.specs.Streams.{ask_of}
use Rattle.streams.proofs.Refused.{number_not_0}
use Rattle.streams.proofs.requests.ask.Goals as goal

pub returns-in-Ok : goal.returns-in-Ok
unfolding ask_of
returns-in-Ok c = rw (c.accepted.ensures, c.with_note.ensures, ← c.in-Ok.ensures)

pub returns-in-Err : goal.returns-in-Err
unfolding ask_of
returns-in-Err c = rw (c.refused.ensures, ← c.in-Err.ensures, number_not_0 _)

-- `give_up` is `give_up_of`: it clears the note where its test is passed.
use Rattle.streams.specs.Streams.{give_up_of}
use Rattle.streams.proofs.Refused.{number_not_0}
use Rattle.streams.proofs.requests.give_up.Goals as goal

pub returns-in-Ok : goal.returns-in-Ok
unfolding give_up_of
returns-in-Ok c = rw (c.accepted.ensures, c.without_note.ensures, ← c.in-Ok.ensures)

pub returns-in-Err : goal.returns-in-Err
unfolding give_up_of
returns-in-Err c = rw (c.refused.ensures, ← c.in-Err.ensures, number_not_0 _)

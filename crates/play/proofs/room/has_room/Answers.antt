-- `has_room` meets its contract.
use Rattle.play.proofs.RoomLaws.{by_halves}
use Rattle.play.proofs.room.has_room.Goals as goal

pub returns : goal.returns
returns c = rw (← c.in-Some.ensures.1) (by_halves c.in-Some.plays c.args.shots)

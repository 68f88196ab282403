-- `intervals` meets its contract: the sums, and each rounded once.
use Rattle.misclosure.proofs.Answer.{intervals_are, intervals_refused}
use Rattle.misclosure.proofs.intervals.Goals as goal

pub returns-in-Ok : goal.returns-in-Ok
returns-in-Ok c = intervals_are _ c.in-Ok.sums _ _ c.in-Ok.ensures c.in_millimetres-easting.ensures c.in_millimetres-northing.ensures

pub returns-in-Err : goal.returns-in-Err
returns-in-Err c = rw c.number.ensures (intervals_refused _ _ c.in-Err.ensures)

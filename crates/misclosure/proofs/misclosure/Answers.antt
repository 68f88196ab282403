-- `misclosure` meets its contract: the sums, and each rounded once.
use Rattle.misclosure.proofs.Answer.{miss_is, miss_refused}
use Rattle.misclosure.proofs.misclosure.Goals as goal

pub returns-in-Ok : goal.returns-in-Ok
returns-in-Ok c =
    miss_is _ c.in-Ok.sums _ _ c.in-Ok.ensures c.millimetres-easting.ensures c.millimetres-northing.ensures

pub returns-in-Err : goal.returns-in-Err
returns-in-Err c = rw c.number.ensures (miss_refused _ _ c.in-Err.ensures)

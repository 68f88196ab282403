-- `job::shot::add_row` meets its contract.
use Rattle.std.proofs.Common.{arith, refl}
use Rattle.job.proofs.shot.add_row.Goals as goal

pub overflow_add-result : goal.overflow_add-result
overflow_add-result c = omega (arith, c.requires.short, c.requires.room)

pub returns : goal.returns
returns c = (refl, rw (← c.as_slice.ensures) c.put.ensures.1)

-- `misclosure::sum::millimetres` meets its contract.
use Rattle.std.proofs.Common.{arith}
use Rattle.misclosure.proofs.Machine.{next_fits, millimetres_below, millimetres_above}
use Rattle.misclosure.proofs.sum.millimetres.Goals as goal

pub overflow_sub-result : goal.overflow_sub-result
overflow_sub-result c = next_fits c.args.sum c.ranges.sum _ (omega arith) _ (omega arith)

pub returns-then-halves-lt0 : goal.returns-then-halves-lt0
returns-then-halves-lt0 c = millimetres_below c.args.sum c.ranges.sum _ (omega arith) c.if-halves-lt0.true

pub overflow_add-result : goal.overflow_add-result
overflow_add-result c = next_fits c.args.sum c.ranges.sum _ (omega arith) _ (omega arith)

pub returns : goal.returns
returns c = millimetres_above c.args.sum c.ranges.sum _ (omega arith) c.if-halves-lt0.false

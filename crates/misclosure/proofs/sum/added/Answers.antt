-- `misclosure::sum::added` meets its contract: the product is below 2^51, the sum below 2^63 in size.
use Rattle.misclosure.proofs.Machine.{product_fits, sum_fits, sum_reads}
use Rattle.misclosure.proofs.sum.added.Goals as goal

pub overflow_mul-result : goal.overflow_mul-result
overflow_mul-result c = product_fits c.args.sum c.args.distance c.args.factor c.requires.0 c.requires.1 c.requires.2

pub overflow_add-result : goal.overflow_add-result
overflow_add-result c = sum_fits c.args.sum c.args.distance c.args.factor c.requires.0 c.requires.1 c.requires.2

pub returns : goal.returns
returns c = sum_reads c.args.sum c.args.distance c.args.factor c.requires.0 c.requires.1 c.requires.2

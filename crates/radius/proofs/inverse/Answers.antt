-- `radius::inverse` meets its contract: its products fit 64 bits, and it is near by the law.
use Rattle.std.proofs.Common.{arith}
use Rattle.radius.proofs.Inverses.{inverse_near, square_small, product_fits, result_fits, inverse_small}
use Rattle.radius.proofs.inverse.Goals as goal

pub overflow_mul-fine : goal.overflow_mul-fine
overflow_mul-fine c = omega (arith, square_small c.args.i c.requires.1)

pub overflow_add-fine : goal.overflow_add-fine
overflow_add-fine c = omega (arith, square_small c.args.i c.requires.1)

pub overflow_mul-fine-2 : goal.overflow_mul-fine-2
overflow_mul-fine-2 c = record { fits = product_fits c.args.reciprocal _ _ c.requires.0 (omega (arith, square_small c.args.i c.requires.1)) (omega arith) }

pub overflow_mul-result : goal.overflow_mul-result
overflow_mul-result c = record { fits = result_fits _ _ _ c.requires.0 (omega (arith, square_small c.args.i c.requires.1)) (omega arith) }

pub returns : goal.returns
returns c = (
  inverse_small _ _ _ c.requires.0 (omega (arith, square_small c.args.i c.requires.1)) (omega arith),
  λ h least most is. inverse_near _ _ _ _ _ c.requires.1 least most is (omega arith) (omega (arith, c.requires)),
)

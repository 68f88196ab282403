-- `radius::correction` meets its contract: its products fit 64 bits, and the sign bit of the difference tells the quotient.
use Rattle.std.proofs.Common.{arith}
use Rattle.radius.proofs.Inverses.{halved_fits, sum_fits, multiple_fits, correction_by}
use Rattle.radius.proofs.correction.Goals as goal

pub overflow_mul-nearest : goal.overflow_mul-nearest
overflow_mul-nearest c = record { fits = halved_fits _ c.args.divisor _ 0 (omega arith) c.requires.0 c.requires.1 (omega arith) }

pub overflow_add-nearest : goal.overflow_add-nearest
overflow_add-nearest c = record { fits = sum_fits _ c.args.divisor _ _ (omega arith) c.requires.0 c.requires.1 (omega arith) }

pub overflow_mul-nearest-2 : goal.overflow_mul-nearest-2
overflow_mul-nearest-2 c = record { fits = multiple_fits _ _ _ _ (omega arith) c.requires.0 c.requires.1 (omega arith) }

pub returns : goal.returns
returns c few least most near =
    let at = c in
    correction_by _ _ _ _ _ _ few least most near at.requires.1 (omega arith) at.wrapping_sub_u64-above.ensures.value (omega arith)
    c.wrapping_sub_u64.ensures.value (omega arith)

-- `Rotations::sine` meets its contract: its products and their sum fit 64 bits.
use Rattle.std.proofs.Common.{arith}
use Rattle.angle.proofs.RotationLaws.{product_fits, sum_fits, sine_from}
use Rattle.angle.proofs.Rotations.sine.Goals as goal

pub overflow_mul-sum : goal.overflow_mul-sum
overflow_mul-sum c = record { fits = product_fits _ _ (omega arith) (omega arith) }

pub overflow_mul-sum-2 : goal.overflow_mul-sum-2
overflow_mul-sum-2 c = record { fits = product_fits _ _ (omega arith) (omega arith) }

pub overflow_add-sum : goal.overflow_add-sum
overflow_add-sum c = record { fits = sum_fits _ _ _ _ (omega arith) (omega arith) (omega arith) (omega arith) }

pub returns : goal.returns
returns c w rotated = sine_from rotated

-- `Rotations::cosine` meets its contract: its products fit 64 bits.
use Rattle.std.proofs.Common.{arith}
use Rattle.angle.proofs.RotationLaws.{product_fits, cosine_from}
use Rattle.angle.proofs.Rotations.cosine.Goals as goal

pub overflow_mul-coarse : goal.overflow_mul-coarse
overflow_mul-coarse c = record { fits = product_fits _ _ (omega arith) (omega arith) }

pub overflow_mul-coarse-2 : goal.overflow_mul-coarse-2
overflow_mul-coarse-2 c = record { fits = product_fits _ _ (omega arith) (omega arith) }

pub returns : goal.returns
returns c w rotated = cosine_from rotated _ (omega arith) c.wrapping_sub_u64-difference.ensures.value

-- `radius::root` meets its contract: x is below the next number's square just where the guess is the root.
use Rattle.std.proofs.Common.{arith}
use Rattle.radius.proofs.RootLaws.{root_is}
use Rattle.radius.proofs.NearLaws.{product_fits}
use Rattle.radius.proofs.root.Goals as goal

pub overflow_mul-next : goal.overflow_mul-next
overflow_mul-next c = record { fits = product_fits _ _ (omega arith) (omega arith) }

pub returns : goal.returns
returns c below near = root_is _ _ _ _ below near (omega arith) (omega (arith, c.wrapping_sub_u64-above.ensures.value)) (omega arith)

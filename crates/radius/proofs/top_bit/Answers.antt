-- `radius::top_bit` meets its contract: the leading zeros of 2k + 1 are one less than those of k.
use Rattle.std.proofs.Common.{refl, arith}
use lib.Count.{leading_le}
use Rattle.radius.specs.Steps.{numerator}
use Rattle.radius.proofs.StepLaws.{top_bit_lem, top_bit_odd}
use Rattle.radius.proofs.top_bit.Goals as goal

pub overflow_cast-result : goal.overflow_cast-result
overflow_cast-result c = omega (arith, leading_le 64 c.args.k)

pub overflow_sub-result : goal.overflow_sub-result
overflow_sub-result c = leading_le 64 c.args.k

pub returns : goal.returns
returns c =
    let top = top_bit_lem (numerator c.args.k) (omega arith) (omega (arith, c.requires)) in
    rw (← top_bit_odd c.args.k (omega (arith, c.requires))) (refl, top.0, top.1)

-- `survex_reader::leg::decimals_after` meets its contract.
use Rattle.std.proofs.Common.{arith, refl}
use Rattle.survex_reader.proofs.Numbers.{after_none, after_below, after_good}
use Rattle.survex_reader.proofs.leg.decimals_after.Goals as goal

pub returns-then-n-point : goal.returns-then-n-point
returns-then-n-point c = after_none _ _ _ c.if-n-point.true

pub overflow_mul-result : goal.overflow_mul-result
overflow_mul-result c =
    rw c.pow.ensures
    (omega (arith, after_below _ c.args.part.now _ c.if-n-point.false c.requires _ c.digits_up_to.ensures _ c.in_ok-digits.was _ refl))

pub returns : goal.returns
returns c =
    rw c.pow.ensures (after_good _ _ _ c.if-n-point.false c.requires _ c.digits_up_to.ensures _ c.in_ok-digits.was _ refl)

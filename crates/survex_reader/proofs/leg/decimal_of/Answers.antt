-- `survex_reader::leg::decimal_of` meets its contract.
use Rattle.std.proofs.Common.{arith}
use Rattle.survex_reader.proofs.Numbers.{point_within, whole_product, fraction_below, decimal_unread, decimal_cut, decimal_read}
use Rattle.survex_reader.proofs.leg.decimal_of.Goals as goal

pub slice_bounds-digits_up_to-end : goal.slice_bounds-digits_up_to-end
slice_bounds-digits_up_to-end c = omega (arith, point_within 0 _ _ c.scan-point.ensures)

pub returns-in_err-whole : goal.returns-in_err-whole
returns-in_err-whole c = rw c.from_residual.ensures (decimal_unread _ _ _ c.scan-point.ensures _ c.digits_up_to.ensures c.in_err-whole.was)

pub returns-in_err-fraction : goal.returns-in_err-fraction
returns-in_err-fraction c =
    rw c.from_residual-in_err-fraction.ensures
    (decimal_cut _ _ _ c.scan-point.ensures _ c.digits_up_to.ensures _ c.in_ok-whole.was _ c.decimals_after.ensures c.in_err-fraction.was)

pub overflow_mul-result : goal.overflow_mul-result
overflow_mul-result c =
    rw c.pow.ensures
    (omega (arith, whole_product _ _ _ c.scan-point.ensures _ c.digits_up_to.ensures _ c.in_ok-whole.was c.requires))

pub overflow_add-result : goal.overflow_add-result
overflow_add-result c =
    rw c.pow.ensures
    (omega (
      arith,
      whole_product _ _ _ c.scan-point.ensures _ c.digits_up_to.ensures _ c.in_ok-whole.was c.requires,
      fraction_below _ _ _ c.scan-point.ensures _ c.digits_up_to.ensures _ c.in_ok-whole.was _ c.decimals_after.ensures _ c.in_ok-fraction.was,
    ))

pub returns : goal.returns
returns c =
    rw c.pow.ensures
    (decimal_read _ _ _ c.scan-point.ensures _ c.digits_up_to.ensures _ c.in_ok-whole.was _ c.decimals_after.ensures _ c.in_ok-fraction.was)

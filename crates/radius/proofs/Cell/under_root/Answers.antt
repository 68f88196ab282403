-- `Cell::under_root` meets its contract: its products fit 64 bits, and the rest is the law at what its callees return.
use Rattle.std.proofs.Common.{ℕ, ◌+◌, ◌*◌, ◌^◌, ◌<◌, mul-le-mul, arith}
use Rattle.radius.proofs.Cells.{under_root_is}
use Rattle.radius.proofs.Cell.under_root.Goals as goal

divisor_fits : (h i : ℕ) → h < 2 ^ 9 → i < 256 → h * (65536 + i) < 2 ^ 64
divisor_fits h i few small = omega (arith, mul-le-mul few small)

pub overflow_mul-divisor : goal.overflow_mul-divisor
overflow_mul-divisor c = record { fits = divisor_fits _ _ (omega arith) (omega arith) }

pub returns : goal.returns
returns c k below cell =
    let at = c in
    let before = at in
    under_root_is k below _ _ _ _ _ _ _ _ _ cell (omega arith) before.wrapping_sub_u64-r.ensures.value (omega arith) at.inverse.ensures.1
    at.correction-s.ensures at.wrapping_sub_u64.ensures.value (omega arith) c.or_zero.ensures

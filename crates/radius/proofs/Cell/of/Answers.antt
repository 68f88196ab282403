-- `Cell::of` meets its contract: M is by e, and i by the reciprocal of h.
use Rattle.std.proofs.Common.{◌≡◌, ℕ, ◌+◌, ◌*◌, ◌/◌, ◌^◌, ◌<◌, ◌≤◌, mul-le-mul, arith}
use Rattle.tables.specs.Tables.{log_coarse, entry_of}
use Rattle.tables.proofs.Bounds.{bounds}
use Rattle.radius.specs.Steps.{numerator, top_bit}
use Rattle.radius.proofs.Cells.{top_few, scaled_is, place_fits, cell_is}
use Rattle.radius.proofs.Cell.of.Goals as goal

-- k has 48 bits, and so e is at most 48
few_bits : (z : ℕ) → z < 2 ^ 64 → z / 65536 < 2 ^ 48
few_bits z fits = omega arith

top_of : (z : ℕ) → z < 2 ^ 64 → top_bit (numerator (z / 65536)) ≤ 48
top_of z fits = top_few (z / 65536) (few_bits z fits)

pub overflow_sub-m : goal.overflow_sub-m
overflow_sub-m c = omega (arith, top_of c.args.z c.ranges.z.fits, c.top_bit-e.ensures.0)

mul_small : (x R : ℕ) → x < 65536 → R < 2 ^ 32 → x * R < 2 ^ 64
mul_small x R few small = omega (arith, mul-le-mul few small)

pub overflow_mul-i : goal.overflow_mul-i
overflow_mul-i c = record { fits = mul_small _ _ (omega arith) (omega arith) }

pub overflow_sub-doublings : goal.overflow_sub-doublings
overflow_sub-doublings c =
    let at = c in
    omega (arith, top_of at.args.z at.ranges.z.fits, at.top_bit-e.ensures.0)

few : (t K : ℕ) → t ≤ 64 → K < 2 ^ 41 → t * K < 2 ^ 64
few t K h k = omega (arith, mul-le-mul h k)

pub overflow_mul-doublings : goal.overflow_mul-doublings
overflow_mul-doublings c = record { fits = few _ _ (omega arith) (omega (arith, c.ln_two.ensures, bounds.ln_two_lem)) }

pub overflow_add-place : goal.overflow_add-place
overflow_add-place c =
    let few_z : c.args.z / 65536 < 2 ^ 48 = few_bits _ c.ranges.z.fits in
    record { fits = place_fits _ few_z _ _ _ (scaled_is _ few_z _ _ _ c.top_bit-e.ensures.0 (omega arith) (omega arith)) (omega arith) c.coarse-row.ensures.1 }

pub returns : goal.returns
returns c =
    let few_z : c.args.z / 65536 < 2 ^ 48 = few_bits _ c.ranges.z.fits in
    cell_is _ few_z _ _ _ (scaled_is _ few_z _ _ _ c.top_bit-e.ensures.0 (omega arith) (omega arith)) (omega arith) c.coarse-row.ensures.1
    _ _ _ _ _ _ c.coarse-row.ensures.0 c.fine-b.ensures c.ln_two.ensures c.top_bit-e.ensures.0 (omega arith) c.wrapping_sub_u64.ensures.value

sum_small : (a b h : ℕ) → a ≡ entry_of log_coarse 256 h → b < 2 ^ 32 → a + b < 2 ^ 64
sum_small a b h is few = rw is (omega (arith, bounds.log_coarse_lem h, bounds.ln_two_lem))

pub overflow_add-row : goal.overflow_add-row
overflow_add-row c = record { fits = sum_small _ _ _ c.coarse-row.ensures.0 (omega arith) }

-- `radius::or_zero` meets its contract: the mask is all ones, or 0.
use Rattle.std.proofs.Common.{◌≡◌, ℕ, zero, suc, ◌+◌, ◌-◌, ◌*◌, ◌%◌, ◌^◌, ◌<◌, ap, ◌∙◌, arith, bit_and}
use lib.Bits.{and_mask, and_zero_r}
use Rattle.radius.proofs.or_zero.Goals as goal

masked : (x bit mask : ℕ) → x < 2 ^ 64 → bit < 2 → mask < 2 ^ 64 → (mask + 1) % 2 ^ 64 ≡ bit → bit_and x mask ≡ (1 - bit) * x
masked x zero mask fits few mask_Fits is =
    let ones : mask ≡ 2 ^ 64 - 1 = omega arith in
    rw ones (and_mask x 64 ∙ omega arith)
masked x (suc n) mask fits few mask_Fits is =
    let none : mask ≡ 0 = omega arith in
    let one : n ≡ 0 = omega arith in
    rw (none, one) (and_zero_r x ∙ omega arith)

pub returns : goal.returns
returns c =
    let x : ℕ = c.args.x in
    masked x _ _ (omega arith) (omega arith) (omega arith) c.wrapping_sub_u64.ensures.value ∙ ap (λ bit. (1 - bit) * x) (omega arith)

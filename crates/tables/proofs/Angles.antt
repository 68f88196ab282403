-- The coarse tables' rotations are the exact rotations for w = 128 a, and the fine tables' those for w = b.
use mathlib.Core.Path.{◌≡◌}
use Prim.Native.Nat.{ℕ, ◌*◌, ◌<◌}
use native.Mathlib.Nat.{mul-div_cancel_left, mul-mod_right, div-eq_of_lt, mod-eq_of_lt}
use native.Mathlib.Omega.{arith}
use Rattle.exact.specs.Rotation.{coarse, fine, rotation}
use Rattle.exact.proofs.RotationLaws.{good_bits}
use Rattle.exact.proofs.RotationBits.{compose_none_right, compose_none_left, bits_of_zero}

pub coarse_is : (n a : ℕ) → rotation n (128 * a) ≡ coarse n a
unfolding rotation
coarse_is n a =
    rw (mul-div_cancel_left a {n = 128} (omega arith), mul-mod_right 128 a, bits_of_zero n 7 7) (compose_none_right n (good_bits n 0 7 a))

pub fine_is : (n b : ℕ) → b < 128 → rotation n b ≡ fine n b
unfolding rotation
fine_is n b h =
    rw (div-eq_of_lt h, mod-eq_of_lt h, bits_of_zero n 0 7) (compose_none_left n (good_bits n 7 7 b))

-- The size of a sample by its scale, at each of the two widths: F times as much, over the unit of 2^-11.
use Rattle.std.specs.Prelude.{◌≡◌, ℕ, ◌+◌, ◌*◌, ◌/◌, ◌^◌}
use Rattle.std.proofs.Common.{arith}
use Rattle.box_muller.specs.Steps.{fraction_bits, fraction_bits18, size}

pub scaled16 : {scale : ℕ} → scale ≡ 1 → (F G : ℕ) → (F * scale * G + 2 ^ 38) / 2 ^ 39 ≡ size fraction_bits F G
unfolding size
scaled16 e F G = rw e (omega arith)

pub scaled18 : {scale : ℕ} → scale ≡ 4 → (F G : ℕ) → (F * scale * G + 2 ^ 38) / 2 ^ 39 ≡ size fraction_bits18 F G
unfolding size
scaled18 e F G = rw e (omega arith)

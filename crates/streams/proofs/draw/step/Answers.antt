-- `step` is `step`: the mask that the code shifts is the definition's.
use Rattle.std.proofs.Common.{◌≡◌, ℕ, ◌+◌, ◌-◌, ◌*◌, ◌%◌, ◌^◌, ◌<◌, ◌≤◌, ◌⊎◌, inl, inr, refl, arith}
use Rattle.std.proofs.lemmas.Nat.{pow-add}
use Rattle.std.proofs.lemmas.Bool.{cases_lt}
use Rattle.std.proofs.Math.Nat.{le_dest}
use lib.Pow.{pow-lt, pow_pos}
use Rattle.streams.specs.Streams.{step}
use Rattle.streams.proofs.draw.step.Goals as goal

-- for a factor at most 2^32, and for a multiple of it
small : (p : ℕ) → 0 < p → p < 4294967296 → 4294967295 * p % 4294967296 ≡ 2 ^ 32 - p
small p h k = omega arith

large : (q : ℕ) → 0 < q → 4294967295 * (4294967296 * q) % 4294967296 ≡ 2 ^ 32 - 4294967296 * q
large q h = omega arith

mask : (e : ℕ) → 4294967295 * 2 ^ e % 4294967296 ≡ 2 ^ 32 - 2 ^ e
mask e = by_size (cases_lt e 32)
  where
    by_size : (e < 32) ⊎ (32 ≤ e) → 4294967295 * 2 ^ e % 4294967296 ≡ 2 ^ 32 - 2 ^ e
    by_size (inl h) = small (2 ^ e) (pow_pos e) (pow-lt {i = e} {j = 32} h)
    by_size (inr h) = let (k, s) = le_dest h in rw (← s, pow-add 2 32 k) (large (2 ^ k) (pow_pos k))

pub returns : goal.returns
unfolding step
returns g c = simp mask refl

-- For private functions; no public contract cites this.
use Rattle.std.specs.Prelude.{ℕ, zero, suc}

-- The two values of q quarters, by their number: (sin, cos), (cos, -sin), (-sin, -cos), (-cos, sin).
abbrev pub values_of : ℕ → ℕ
values_of zero = 0
values_of (suc zero) = 1
values_of (suc (suc zero)) = 2
values_of (suc (suc (suc q))) = 3

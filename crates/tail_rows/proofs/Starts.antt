-- The share at which a pass begins, by terms of the exponential series.
use Prim.Native.Nat.{ℕ, zero, suc, ◌+◌, ◌*◌, ◌/◌, ◌^◌, ◌≤◌, ◌<◌}
use native.Mathlib.Nat.{zero-lt-suc, mul-pos, mul-le-mul}
use native.Mathlib.Omega.{arith}
use Rattle.exact.specs.Fraction.{dyadic, halved, square}
use Rattle.exact.specs.Radius.{AtMostRadius, AtLeastRadius}
use Rattle.exact.proofs.SeriesLaws.{scaled_top, scaled_bottom}
use Rattle.exact.proofs.LogarithmLaws.{ln_at_least_scaled, tail}
use Rattle.tail_rows.proofs.Shares.{over, Above, Below, over_quotient, under_quotient}

-- enough for a p of this or less
abbrev pub terms : ℕ
terms = 120

abbrev pub last_start : ℕ
last_start = 10 * 2 ^ 20

unfoldable pub most_share : ℕ → ℕ
most_share p = 2 ^ 97 * scaled_bottom (2 ^ 41) terms / scaled_top (p * p) (2 ^ 41) terms + 1

unfoldable pub least_share : ℕ → ℕ
least_share p = 2 ^ 97 * scaled_bottom (2 ^ 41) terms / (scaled_top (p * p) (2 ^ 41) terms + (p * p) ^ terms)

top_pos : (p q n : ℕ) → 0 < q → 0 < scaled_top p q n
unfolding scaled_top
top_pos p q zero some = omega arith
top_pos p q (suc n) some = omega (arith, mul-pos (mul-pos (zero-lt-suc n) some) (top_pos p q n some))

-- over any number of terms, since antt would compute with a numeral
above_start : (p m : ℕ) → Above p (2 ^ 97 * scaled_bottom (2 ^ 41) m / scaled_top (p * p) (2 ^ 41) m + 1)
unfolding AtLeastRadius
above_start p m positive =
    ln_at_least_scaled (halved (square (dyadic 20 p))) (over _ positive) m
    (over_quotient (2 ^ 97 * scaled_bottom (2 ^ 41) m) (scaled_top (p * p) (2 ^ 41) m) (top_pos (p * p) (2 ^ 41) m (omega arith)))

below_start : (p m : ℕ) → 2 * (p * p) ≤ suc m * 2 ^ 41 → Below p (2 ^ 97 * scaled_bottom (2 ^ 41) m / (scaled_top (p * p) (2 ^ 41) m + (p * p) ^ m))
unfolding AtMostRadius
below_start p m enough positive =
    tail (halved (square (dyadic 20 p))) (over _ positive) m enough
    (under_quotient (2 ^ 97 * scaled_bottom (2 ^ 41) m) (scaled_top (p * p) (2 ^ 41) m + (p * p) ^ m))

pub most_start : (p : ℕ) → (0 < most_share p) × Above p (most_share p)
unfolding most_share
most_start p = (omega arith, above_start p terms)

pub least_start : (p : ℕ) → p ≤ last_start → Below p (least_share p)
unfolding least_share
least_start p few =
    let small : p * p ≤ last_start * last_start = mul-le-mul few few in
    below_start p terms (omega (arith, small))

-- Sums of squares of numbers that are rounded: u is x = F g over 2 H, to nearest.
use mathlib.Core.Path.{◌≡◌}
use mathlib.Core.List.{List, [], ◌∷◌}
use Prim.Native.Nat.{ℕ, zero, suc, ◌+◌, ◌-◌, ◌*◌, ◌≤◌, ◌<◌}
use native.Mathlib.Nat.{mul-le-mul, mul-le-mul_right}
use native.Mathlib.Decide.{dec_le}
use native.Mathlib.Omega.{arith}
use lib.ListN.{length}
use Rattle.tails.specs.Counts.{sum_below}
use Rattle.tails.proofs.Angles.{sum_over}

rounded_most : (x H u : ℕ) → 2 * H * u ≤ x + H → 2 * H * (2 * H) * (u * u) ≤ x * x + 2 * H * x + H * H
rounded_most x H u h = omega (arith, mul-le-mul h h)

rounded_least : (x H u : ℕ) → x < 2 * H * u + H → x * x ≤ 2 * H * (2 * H) * (u * u) + 2 * H * x
rounded_least x H u h = elim (dec_le H x) [
  | yes l ↦ from (x - H) (omega arith)
  | no l ↦
      let small : x ≤ H = omega arith in
      omega (arith, mul-le-mul_right x small)
]
  where
    from : (d : ℕ) → d + H ≡ x → x * x ≤ 2 * H * (2 * H) * (u * u) + 2 * H * x
    from d e =
        let below : d ≤ 2 * H * u = omega (arith, h) in
        rw (← e) (omega (arith, mul-le-mul below below))

-- over all k, at one g
module _ (H g : ℕ) (F u : ℕ → ℕ) where
  pub sum_most : (n : ℕ) → ((k : ℕ) → 2 * H * u k ≤ F k * g + H)
      → 2 * H * (2 * H) * sum_below n (λ k. u k * u k) ≤ sum_below n (λ k. F k * F k) * (g * g) + 2 * H * (sum_below n F * g) + n * (H * H)
  unfolding sum_below
  sum_most zero near = omega arith
  sum_most (suc n) near = omega (arith, sum_most n near, rounded_most (F n * g) H (u n) (near n))

  pub sum_least : (n : ℕ) → ((k : ℕ) → F k * g < 2 * H * u k + H)
      → sum_below n (λ k. F k * F k) * (g * g) ≤ 2 * H * (2 * H) * sum_below n (λ k. u k * u k) + 2 * H * (sum_below n F * g)
  unfolding sum_below
  sum_least zero near = omega arith
  sum_least (suc n) near = omega (arith, sum_least n near, rounded_least (F n * g) H (u n) (near n))

-- over a list of g
abbrev pub itself : ℕ → ℕ
itself g = g

abbrev pub squared : ℕ → ℕ
squared g = g * g

module _ (w H A B K : ℕ) (n : ℕ → ℕ) where
  pub list_most : ((g : ℕ) → w * n g ≤ A * (g * g) + 2 * H * (B * g) + K * (H * H)) → (gs : List ℕ)
      → w * sum_over n gs ≤ A * sum_over squared gs + 2 * H * (B * sum_over itself gs) + K * (H * H) * length gs
  unfolding sum_over
  list_most near [] = omega arith
  list_most near (g ∷ gs) = omega (arith, near g, list_most near gs)

  pub list_least : ((g : ℕ) → A * (g * g) ≤ w * n g + 2 * H * (B * g)) → (gs : List ℕ)
      → A * sum_over squared gs ≤ w * sum_over n gs + 2 * H * (B * sum_over itself gs)
  unfolding sum_over
  list_least near [] = omega arith
  list_least near (g ∷ gs) = omega (arith, near g, list_least near gs)

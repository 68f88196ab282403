-- Shares of the exponential at 2^97: E is at least, or at most, 2^97 exp(-(p / 2^20)² / 2). From one p to a greater one by a product and a quotient.
use mathlib.Core.Path.{◌≡◌, ap}
use mathlib.Core.Logic.{inl, inr}
use Prim.Native.Nat.{ℕ, zero, suc, ◌+◌, ◌-◌, ◌*◌, ◌/◌, ◌^◌, ◌≤◌, ◌<◌}
use native.Mathlib.Nat.{mul-zero, zero-mul, zero-div, mul-le-mul_left, pow-zero, pow-suc, eq-zero-or-pos, div-add-mod, mod-lt}
use native.Mathlib.Decide.{dec_lt}
use native.Mathlib.Omega.{arith}
use Rattle.exact.specs.Fraction.{Fraction, whole, dyadic, halved, square, ◌+ᶠ◌, ◌*ᶠ◌, ◌≤ᶠ◌}
use Rattle.exact.specs.Series.{AtMostLn, AtLeastLn, partial_sum}
use Rattle.exact.specs.Radius.{AtMostRadius, AtLeastRadius}
use Rattle.exact.proofs.FractionLaws.{≤ᶠ-trans}
use Rattle.exact.proofs.SeriesLaws.{scaled_top, scaled_bottom}
use Rattle.exact.proofs.LogarithmLaws.{ln_at_most_mono, ln_at_least_mono, ln_at_least_scaled, ln_sum_at_most, ln_sum_at_least, ln_one_plus_at_most, lower_ln}
use Rattle.radius.specs.Steps.{inverse}

-- 2^97 over E
abbrev pub over : (E : ℕ) → 0 < E → Fraction
over E positive = record { top = 2 ^ 97; bottom = E; positive = positive }

-- E is at least 2^97 exp(-(p / 2^20)² / 2), and at most
abbrev pub Above : ℕ → ℕ → Type 0
Above p E = (positive : 0 < E) → AtLeastRadius (over E positive) (dyadic 20 p)

abbrev pub Below : ℕ → ℕ → Type 0
Below p E = (positive : 0 < E) → AtMostRadius (over E positive) (dyadic 20 p)

pub over_quotient : (x d : ℕ) → 0 < d → x ≤ d * (x / d + 1)
over_quotient x d some = omega (arith, div-add-mod x d, mod-lt x some)

pub under_quotient : (x d : ℕ) → d * (x / d) ≤ x
under_quotient x d = omega (arith, div-add-mod x d)

-- ---- from p to t, whose half squares differ by y = q over 2^41

squares_low_lem : (p t q : ℕ) → t * t ≡ p * p + q → halved (square (dyadic 20 p)) +ᶠ dyadic 41 q ≤ᶠ halved (square (dyadic 20 t))
squares_low_lem p t q e = rw e (omega arith)

squares_high_lem : (p t q : ℕ) → t * t ≡ p * p + q → halved (square (dyadic 20 t)) ≤ᶠ halved (square (dyadic 20 p)) +ᶠ dyadic 41 q
squares_high_lem p t q e = rw e (omega arith)

-- From above by exp(y) ≥ 1 + y + y²/2, which is this over 2^83.
abbrev pub three_terms : ℕ → ℕ
three_terms q = (q + 2 ^ 41) * (q + 2 ^ 41) + 2 ^ 82

-- M for 2^41
series : (q M : ℕ) → ((q + M) * (q + M) + M * M) * (2 * M * (1 * M * 1)) ≤ (2 * M * (1 * M * 1 + 1 * q) + 1 * q * q) * (2 * M * M)
series q M = omega arith

exp_at_least : (q : ℕ) → AtLeastLn (dyadic 41 q) (dyadic 83 (three_terms q))
unfolding scaled_top scaled_bottom
exp_at_least q = ln_at_least_scaled (dyadic 41 q) (dyadic 83 (three_terms q)) 2 (rw (pow-suc q 1, pow-suc q 0, pow-zero q) (series q (2 ^ 41)))

scaled_by : (T E P D E' : ℕ) → E * P ≤ D * E' → T * (E * P) ≤ T * D * E'
scaled_by T E P D E' h = omega (arith, mul-le-mul_left T h)

pub above_next : (p t q E : ℕ) → t * t ≡ p * p + q → 0 < E → Above p E → Above t (E * 2 ^ 83 / three_terms q + 1)
unfolding AtLeastRadius
above_next p t q E e some above positive =
    ln_at_least_mono (halved (square (dyadic 20 p)) +ᶠ dyadic 41 q) (halved (square (dyadic 20 t))) (over E some *ᶠ dyadic 83 (three_terms q)) (over _ positive)
    (squares_low_lem p t q e) (scaled_by (2 ^ 97) E (2 ^ 83) (three_terms q) _ (over_quotient (E * 2 ^ 83) (three_terms q) (omega arith)))
    (ln_sum_at_least (halved (square (dyadic 20 p))) (dyadic 41 q) (over E some) (dyadic 83 (three_terms q)) (above some) (exp_at_least q))

-- From below by exp(y) ≤ (2 + y) / (2 - y), with r for 2^42 - q.
module _ (q r : ℕ) (all : r + q ≡ 2 ^ 42) (left : 0 < r) where
  abbrev u : Fraction
  u = record { top = r + 2 * q; bottom = r; positive = left }

  exp_at_most : AtMostLn (dyadic 41 q) u
  exp_at_most =
      let x : Fraction = record { top = 2 * q; bottom = r; positive = left } in
      ln_at_most_mono (lower_ln x) (dyadic 41 q) (whole 1 +ᶠ x) u (omega (arith, ap (λ (n : ℕ). q * n) all)) (omega arith) (ln_one_plus_at_most x)

  below_by : (p t E E' : ℕ) → t * t ≡ p * p + q → 0 < E → (r + 2 * q) * E' ≤ r * E → Below p E → Below t E'
  unfolding AtMostRadius
  below_by p t E E' e some enough below positive =
      ln_at_most_mono (halved (square (dyadic 20 p)) +ᶠ dyadic 41 q) (halved (square (dyadic 20 t))) (over E some *ᶠ u) (over E' positive)
      (squares_high_lem p t q e) (omega (arith, mul-le-mul_left (2 ^ 97) enough))
      (ln_sum_at_most (halved (square (dyadic 20 p))) (dyadic 41 q) (over E some) u (below some) exp_at_most)

-- which may come to 0
pub below_next : (p t q E : ℕ) → t * t ≡ p * p + q → Below p E → Below t (E * (2 ^ 42 - q) / (2 ^ 42 + q))
below_next p t q E e below = elim (dec_lt q (2 ^ 42)) [
  | yes l ↦ elim (eq-zero-or-pos E) [
    | inl none ↦ λ positive. absurd (nothing E (2 ^ 42 - q) (2 ^ 42 + q) none positive)
    | inr some ↦ below_by q (2 ^ 42 - q) (omega arith) (omega arith) p t E _ e some (enough (2 ^ 42 - q) (omega arith)) below
  ]
  | no l ↦ λ positive. absurd (zero_left E (2 ^ 42 - q) (2 ^ 42 + q) (omega arith) positive)
]
  where
    nothing : (x r d : ℕ) → x ≡ 0 → 0 < x * r / d → ⊥
    nothing x r d z h = omega (arith, (rw (z, zero-mul r, zero-div d) at h))

    zero_left : (x r d : ℕ) → r ≡ 0 → 0 < x * r / d → ⊥
    zero_left x r d z h = omega (arith, (rw (z, mul-zero x, zero-div d) at h))

    enough : (r : ℕ) → r + q ≡ 2 ^ 42 → (r + 2 * q) * (E * r / (2 ^ 42 + q)) ≤ r * E
    enough r f =
        let same : r + 2 * q ≡ 2 ^ 42 + q = omega arith in
        rw same (omega (arith, under_quotient (E * r) (2 ^ 42 + q)))

-- ---- what a share says of a count

-- the most k, and the least, by a share: 2^49 N is at most half of 2^49 from it
abbrev pub most_by : ℕ → ℕ
most_by E = (E + 2 ^ 48) / 2 ^ 49

abbrev pub least_by : ℕ → ℕ
least_by E = (E + (2 ^ 48 - 1)) / 2 ^ 49

-- one number is at most the other by a partial sum between them
between : (y z z' : Fraction) → AtLeastLn y z → AtMostLn y z' → z ≤ᶠ z'
unfolding AtLeastLn AtMostLn
between y z z' (n, low) high = ≤ᶠ-trans z (partial_sum y n) z' low (high n)

pub above_count : (p E N : ℕ) → 0 < E → Above p E → (0 < N → AtMostRadius (inverse (N - 1)) (dyadic 20 p)) → N ≤ most_by E
unfolding AtLeastRadius AtMostRadius
above_count p E zero some above most = omega arith
above_count p E (suc N) some above most =
    let order : over E some ≤ᶠ inverse (suc N - 1) = between (halved (square (dyadic 20 p))) _ _ (above some) (most (omega arith)) in
    omega (arith, order)

pub below_count : (p E N : ℕ) → Below p E → AtLeastRadius (inverse N) (dyadic 20 p) → least_by E ≤ N
unfolding AtLeastRadius AtMostRadius
below_count p zero N below least = omega arith
below_count p (suc E) N below least =
    let order : inverse N ≤ᶠ over (suc E) (omega arith) = between (halved (square (dyadic 20 p))) _ _ least (below (omega arith)) in
    omega (arith, order)

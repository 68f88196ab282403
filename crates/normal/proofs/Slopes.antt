-- The area's series B grows from x to x + h by at least h (1 + x B(x)) and at most h (1 + (x + h) B(x + h)): B' = 1 + x B.
use mathlib.Core.Path.{◌≡◌, refl, ap}
use Prim.Native.Nat.{ℕ, zero, suc, ◌+◌, ◌*◌, ◌^◌, ◌≤◌, ◌<◌}
use native.Mathlib.Nat.{le_refl, pow-zero, pow-suc, mul-pos, mul-le-mul, mul-le-mul_left, mul-le-mul_right}
use native.Mathlib.Omega.{arith}
use Rattle.exact.specs.Fraction.{Fraction, whole, ◌+ᶠ◌, ◌*ᶠ◌, ◌≤ᶠ◌}
use Rattle.exact.proofs.FractionLaws.{≤ᶠ-refl, ≤ᶠ-trans, ≤ᶠ-+ᶠ, *ᶠ-mono, +ᶠ-mono, ◌≤ᶠ⟨◌⟩◌, ◌∎ᶠ, chained}
use Rattle.normal.specs.Probability.{double_factorial, area_term, sum_to, AtLeastSum, AtMostSum}
use Rattle.normal.proofs.Sums.{top_to, sum_at_most_last, last_at_most_sum}
use Rattle.normal.proofs.Enclosures.{area_step, area_next, area_low}

-- ---- a partial sum grows with x

power_cross : (p q p' q' m : ℕ) → p * q' ≤ p' * q → p ^ m * q' ^ m ≤ p' ^ m * q ^ m
power_cross p q p' q' zero h = rw (pow-zero p, pow-zero q', pow-zero p', pow-zero q) (le_refl _)
power_cross p q p' q' (suc m) h =
    rw (pow-suc p m, pow-suc q' m, pow-suc p' m, pow-suc q m) (omega (arith, mul-le-mul (power_cross p q p' q' m h) h))

term_mono : (x x' : Fraction) (n : ℕ) → x ≤ᶠ x' → area_term x n ≤ᶠ area_term x' n
unfolding area_term
term_mono x x' n h = omega (arith, mul-le-mul_right (double_factorial n) (power_cross x.top x.bottom x'.top x'.bottom (2 * n + 1) h))

area_mono : (x x' : Fraction) (n : ℕ) → x ≤ᶠ x' → sum_to (area_term x) n ≤ᶠ sum_to (area_term x') n
unfolding sum_to
area_mono x x' zero h = term_mono x x' zero h
area_mono x x' (suc n) h =
    +ᶠ-mono (sum_to (area_term x) n) (sum_to (area_term x') n) (area_term x (suc n)) (area_term x' (suc n)) (area_mono x x' n h) (term_mono x x' (suc n) h)

-- ---- powers

power_least : (X H m : ℕ) → X ^ suc m + suc m * (X ^ m * H) ≤ (X + H) ^ suc m
power_least X H zero = rw (pow-suc X 0, pow-zero X, pow-suc (X + H) 0, pow-zero (X + H)) (omega arith)
power_least X H (suc m) =
    rw (pow-suc X (suc m), pow-suc (X + H) (suc m))
    (again (X ^ suc m) (X ^ m) ((X + H) ^ suc m) (pow-suc X m) (power_least X H m))
  where
    again : (u v w : ℕ) → u ≡ v * X → u + suc m * (v * H) ≤ w → u * X + suc (suc m) * (u * H) ≤ w * (X + H)
    again u v w is h = omega (arith, mul-le-mul_right (X + H) h, ap (λ z. suc m * H * z) is)

power_most : (X H m : ℕ) → (X + H) ^ suc m ≤ X ^ suc m + suc m * ((X + H) ^ m * H)
power_most X H zero = rw (pow-suc X 0, pow-zero X, pow-suc (X + H) 0, pow-zero (X + H)) (omega arith)
power_most X H (suc m) =
    rw (pow-suc X (suc m), pow-suc (X + H) (suc m))
    (again (X ^ suc m) ((X + H) ^ m) ((X + H) ^ suc m) (pow-suc (X + H) m) (power_mono m) (power_most X H m))
  where
    power_mono : (m : ℕ) → X ^ suc m ≤ (X + H) ^ suc m
    power_mono m = omega (arith, power_least X H m)

    again : (u v w : ℕ) → w ≡ v * (X + H) → u ≤ w → w ≤ u + suc m * (v * H) → w * (X + H) ≤ u * X + suc (suc m) * (w * H)
    again u v w is le h = omega (arith, mul-le-mul_right X h, mul-le-mul_right H h, mul-le-mul_right H le, ap (λ z. suc m * H * z) is)

even : (W n : ℕ) → W ^ (2 * suc n) ≡ W * W ^ (2 * n + 1)
even W n =
    let e : 2 * suc n ≡ suc (2 * n + 1) = omega arith in
    rw (e, pow-suc W (2 * n + 1)) (omega arith)

odd_least : (X H n : ℕ) → X ^ (2 * n + 1) + (2 * n + 1) * (X ^ (2 * n) * H) ≤ (X + H) ^ (2 * n + 1)
odd_least X H n =
    let e : 2 * n + 1 ≡ suc (2 * n) = omega arith in
    rw e (power_least X H (2 * n))

odd_most : (X H n : ℕ) → (X + H) ^ (2 * n + 1) ≤ X ^ (2 * n + 1) + (2 * n + 1) * ((X + H) ^ (2 * n) * H)
odd_most X H n =
    let e : 2 * n + 1 ≡ suc (2 * n) = omega arith in
    rw e (power_most X H (2 * n))

-- ---- over one denominator Q

module _ (Q : ℕ) (some : 0 < Q) where
  abbrev at : ℕ → Fraction
  at W = record { top = W; bottom = Q; positive = some }

  -- the area's terms 0 to n at x = W / Q come to S W n / D n
  S : ℕ → ℕ → ℕ
  S W n = top_to (area_term (at W)) (area_step (at W)) n

  D : ℕ → ℕ
  D n = (area_term (at 0) n).bottom

  S-first : (W : ℕ) → S W 0 ≡ W
  unfolding S top_to area_term
  S-first W = rw (pow-suc W 0, pow-zero W) (omega arith)

  S-next : (W n : ℕ) → S W (suc n) ≡ (2 * n + 3) * (Q * Q) * S W n + W ^ (2 * suc n + 1)
  unfolding S top_to area_term
  S-next W n = refl

  D-first : D 0 ≡ Q
  unfolding D area_term double_factorial
  D-first = rw (pow-suc Q 0, pow-zero Q) (omega arith)

  D-next : (n : ℕ) → D (suc n) ≡ (2 * n + 3) * (Q * Q) * D n
  unfolding D
  D-next n = area_next (at 0) n

  -- 1 + x B, times Q D n
  C : ℕ → ℕ → ℕ
  C W n = Q * D n + W * S W n

  C-first : (W : ℕ) → C W 0 ≡ Q * Q + W ^ (2 * suc 0)
  unfolding C
  C-first W = rw (S-first W, D-first, even W 0, pow-suc W 0, pow-zero W) (omega arith)

  C-next : (W n : ℕ) → C W (suc n) ≡ (2 * n + 3) * (Q * Q) * C W n + W ^ (2 * suc (suc n))
  unfolding C
  C-next W n = rw (S-next W n, D-next n, even W (suc n)) (omega arith)

  step_least : (k R s s' u u' v H G c : ℕ) → s + G ≤ s' → u + k * (v * H) ≤ u' → R * G + v * H ≡ H * c → k * R * s + u + k * (H * c) ≤ k * R * s' + u'
  step_least k R s s' u u' v H G c h g e = omega (arith, mul-le-mul_left (k * R) h, ap (λ z. k * z) e)

  step_most : (k R s s' u u' v H G c : ℕ) → s' ≤ s + G → u' ≤ u + k * (v * H) → R * G + v * H ≡ H * c → k * R * s' + u' ≤ k * R * s + u + k * (H * c)
  step_most k R s s' u u' v H G c h g e = omega (arith, mul-le-mul_left (k * R) h, ap (λ z. k * z) e)

  least : (X H n : ℕ) → S X (suc n) + (2 * n + 3) * (H * C X n) ≤ S (X + H) (suc n)
  least X H zero =
      rw (S-next X 0, S-next (X + H) 0)
      (step_least (2 * 0 + 3) (Q * Q) (S X 0) (S (X + H) 0) (X ^ (2 * suc 0 + 1)) ((X + H) ^ (2 * suc 0 + 1)) (X ^ (2 * suc 0)) H H (C X 0)
      (omega (arith, S-first X, S-first (X + H))) (odd_least X H (suc 0)) (rw (C-first X) (omega arith)))
  least X H (suc n) =
      rw (S-next X (suc n), S-next (X + H) (suc n))
      (step_least (2 * suc n + 3) (Q * Q) (S X (suc n)) (S (X + H) (suc n)) (X ^ (2 * suc (suc n) + 1)) ((X + H) ^ (2 * suc (suc n) + 1)) (X ^ (2 * suc (suc n))) H
      ((2 * n + 3) * (H * C X n)) (C X (suc n)) (least X H n) (omega (arith, odd_least X H (suc (suc n)))) (rw (C-next X n) (omega arith)))

  most : (X H n : ℕ) → S (X + H) (suc n) ≤ S X (suc n) + (2 * n + 3) * (H * C (X + H) n)
  most X H zero =
      rw (S-next X 0, S-next (X + H) 0)
      (step_most (2 * 0 + 3) (Q * Q) (S X 0) (S (X + H) 0) (X ^ (2 * suc 0 + 1)) ((X + H) ^ (2 * suc 0 + 1)) ((X + H) ^ (2 * suc 0)) H H (C (X + H) 0)
      (omega (arith, S-first X, S-first (X + H))) (odd_most X H (suc 0)) (rw (C-first (X + H)) (omega arith)))
  most X H (suc n) =
      rw (S-next X (suc n), S-next (X + H) (suc n))
      (step_most (2 * suc n + 3) (Q * Q) (S X (suc n)) (S (X + H) (suc n)) (X ^ (2 * suc (suc n) + 1)) ((X + H) ^ (2 * suc (suc n) + 1)) ((X + H) ^ (2 * suc (suc n))) H
      ((2 * n + 3) * (H * C (X + H) n)) (C (X + H) (suc n)) (most X H n) (omega (arith, odd_most X H (suc (suc n)))) (rw (C-next (X + H) n) (omega arith)))

-- ---- as fractions: x = p / q, h = r / s, and Q = q s

cross_least : (S₁ S₀ S' D₀ D₁ Q q s r X k : ℕ) → D₁ ≡ k * (Q * (q * s)) * D₀ → S₁ + k * (r * q * (Q * D₀ + X * S₀)) ≤ S'
    → (S₁ * (s * (1 * (Q * D₀))) + r * (1 * (Q * D₀) + X * S₀ * 1) * D₁) * D₁ ≤ S' * (D₁ * (s * (1 * (Q * D₀))))
cross_least S₁ S₀ S' D₀ D₁ Q q s r X k is h =
    omega (arith, mul-le-mul_left (D₁ * s * Q * D₀) h, ap (λ z. r * (Q * D₀ + X * S₀) * D₁ * z) is)

cross_most : (S₁ S₀ S' D₀ D₁ Q q s r X k : ℕ) → D₁ ≡ k * (Q * (q * s)) * D₀ → S' ≤ S₁ + k * (r * q * (Q * D₀ + X * S₀))
    → S' * (D₁ * (s * (1 * (Q * D₀)))) ≤ (S₁ * (s * (1 * (Q * D₀))) + r * (1 * (Q * D₀) + X * S₀ * 1) * D₁) * D₁
cross_most S₁ S₀ S' D₀ D₁ Q q s r X k is h =
    omega (arith, mul-le-mul_left (D₁ * s * Q * D₀) h, ap (λ z. r * (Q * D₀ + X * S₀) * D₁ * z) is)

module _ (x h : Fraction) where
  abbrev Q' : ℕ
  Q' = x.bottom * h.bottom

  abbrev y : Fraction
  y = x +ᶠ h

  -- x over the denominator of y
  abbrev z : Fraction
  z = record { top = x.top * h.bottom; bottom = x.bottom * h.bottom; positive = mul-pos x.positive h.positive }

  sums_least : (n : ℕ) → area_low z (suc n) +ᶠ h *ᶠ (whole 1 +ᶠ z *ᶠ area_low z n) ≤ᶠ area_low y (suc n)
  unfolding S C D area_term
  sums_least n =
      cross_least (area_low z (suc n)).top (area_low z n).top (area_low y (suc n)).top (area_term z n).bottom (area_term z (suc n)).bottom Q' x.bottom h.bottom
      h.top z.top (2 * n + 3) (area_next z n) (least Q' (mul-pos x.positive h.positive) (x.top * h.bottom) (h.top * x.bottom) n)

  sums_most : (n : ℕ) → area_low y (suc n) ≤ᶠ area_low z (suc n) +ᶠ h *ᶠ (whole 1 +ᶠ y *ᶠ area_low y n)
  unfolding S C D area_term
  sums_most n =
      cross_most (area_low z (suc n)).top (area_low y n).top (area_low y (suc n)).top (area_term z n).bottom (area_term z (suc n)).bottom Q' x.bottom h.bottom
      h.top y.top (2 * n + 3) (area_next z n) (most Q' (mul-pos x.positive h.positive) (x.top * h.bottom) (h.top * x.bottom) n)

  same_least : x ≤ᶠ z
  same_least = omega arith

  same_most : z ≤ᶠ x
  same_most = omega arith

  one_more : (w : Fraction) (n : ℕ) → sum_to (area_term w) n ≤ᶠ sum_to (area_term w) (suc n)
  unfolding sum_to
  one_more w n = ≤ᶠ-+ᶠ (sum_to (area_term w) n) (area_term w (suc n))

  to_last : (w : Fraction) (n : ℕ) → sum_to (area_term w) n ≤ᶠ area_low w n
  to_last w n = sum_at_most_last (area_term w) (area_step w) (area_next w) n

  from_last : (w : Fraction) (n : ℕ) → area_low w n ≤ᶠ sum_to (area_term w) n
  from_last w n = last_at_most_sum (area_term w) (area_step w) (area_next w) n

  -- b + h (1 + x b) grows with each part
  grown : (b b' x x' c c' : Fraction) → b ≤ᶠ b' → x ≤ᶠ x' → c ≤ᶠ c' → b +ᶠ h *ᶠ (whole 1 +ᶠ x *ᶠ c) ≤ᶠ b' +ᶠ h *ᶠ (whole 1 +ᶠ x' *ᶠ c')
  grown b b' x x' c c' hb hx hc =
      +ᶠ-mono b b' (h *ᶠ (whole 1 +ᶠ x *ᶠ c)) (h *ᶠ (whole 1 +ᶠ x' *ᶠ c')) hb
      (*ᶠ-mono h h (whole 1 +ᶠ x *ᶠ c) (whole 1 +ᶠ x' *ᶠ c') (≤ᶠ-refl h)
      (+ᶠ-mono (whole 1) (whole 1) (x *ᶠ c) (x' *ᶠ c') (≤ᶠ-refl (whole 1)) (*ᶠ-mono x x' c c' hx hc)))

  pub slope_least : (b : Fraction) → AtMostSum (area_term x) b → AtMostSum (area_term y) (b +ᶠ h *ᶠ (whole 1 +ᶠ x *ᶠ b))
  unfolding AtMostSum
  slope_least b (n, low) =
      let now : b ≤ᶠ sum_to (area_term z) n = chained (b ≤ᶠ⟨ low ⟩ sum_to (area_term x) n ≤ᶠ⟨ area_mono x z n same_least ⟩ sum_to (area_term z) n ∎ᶠ) in
      let reached : b ≤ᶠ area_low z n = ≤ᶠ-trans b (sum_to (area_term z) n) (area_low z n) now (to_last z n) in
      let later : b ≤ᶠ area_low z (suc n)
      = chained (b ≤ᶠ⟨ now ⟩ sum_to (area_term z) n ≤ᶠ⟨ one_more z n ⟩ sum_to (area_term z) (suc n) ≤ᶠ⟨ to_last z (suc n) ⟩ area_low z (suc n) ∎ᶠ) in (
        suc n,
        chained
            (b +ᶠ h *ᶠ (whole 1 +ᶠ x *ᶠ b) ≤ᶠ⟨ grown b (area_low z (suc n)) x z b (area_low z n) later same_least reached ⟩
            area_low z (suc n) +ᶠ h *ᶠ (whole 1 +ᶠ z *ᶠ area_low z n) ≤ᶠ⟨ sums_least n ⟩
            area_low y (suc n) ≤ᶠ⟨ from_last y (suc n) ⟩
            sum_to (area_term y) (suc n) ∎ᶠ),
      )

  pub slope_most : (b c : Fraction) → AtLeastSum (area_term x) b → AtLeastSum (area_term y) c → AtLeastSum (area_term y) (b +ᶠ h *ᶠ (whole 1 +ᶠ y *ᶠ c))
  unfolding AtLeastSum
  slope_most b c above above' n =
      chained
      (sum_to (area_term y) n ≤ᶠ⟨ one_more y n ⟩
      sum_to (area_term y) (suc n) ≤ᶠ⟨ to_last y (suc n) ⟩
      area_low y (suc n) ≤ᶠ⟨ sums_most n ⟩
      area_low z (suc n) +ᶠ h *ᶠ (whole 1 +ᶠ y *ᶠ area_low y n) ≤ᶠ⟨ grown (area_low z (suc n)) b y y (area_low y n) c under (≤ᶠ-refl y) under' ⟩
      b +ᶠ h *ᶠ (whole 1 +ᶠ y *ᶠ c) ∎ᶠ)
    where
      under : area_low z (suc n) ≤ᶠ b
      under =
          chained
          (area_low z (suc n) ≤ᶠ⟨ from_last z (suc n) ⟩
          sum_to (area_term z) (suc n) ≤ᶠ⟨ area_mono z x (suc n) same_most ⟩
          sum_to (area_term x) (suc n) ≤ᶠ⟨ above (suc n) ⟩
          b ∎ᶠ)

      under' : area_low y n ≤ᶠ c
      under' = ≤ᶠ-trans (area_low y n) (sum_to (area_term y) n) c (from_last y n) (above' n)

-- B(0) = 0
nothing : (n : ℕ) → (sum_to (area_term (whole 0)) n).top ≡ 0
unfolding sum_to area_term
nothing zero = refl
nothing (suc n) =
    let e : 2 * suc n + 1 ≡ suc (2 * suc n) = omega arith in
    rw (nothing n, e, pow-suc 0 (2 * suc n)) (omega arith)

pub area_of_nothing : AtLeastSum (area_term (whole 0)) (whole 0)
unfolding AtLeastSum
area_of_nothing n = rw (nothing n) (omega arith)

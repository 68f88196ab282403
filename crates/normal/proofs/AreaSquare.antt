-- The square of the area's series: B(x)² = Σ Pₘ x^(2m+2) / (m + 1)!, where P₀, P₁, .. are the partial sums of the series of π/2.
use mathlib.Core.Path.{◌≡◌, sym, ap, ◌∙◌}
use Prim.Native.Nat.{ℕ, zero, suc, ◌+◌, ◌-◌, ◌*◌, ◌^◌, ◌≤◌, ◌<◌}
use native.Mathlib.Nat.{pow-zero, pow-suc, mul-pos, zero-add}
use native.Mathlib.Omega.{arith}
use Rattle.exact.specs.Fraction.{Fraction, square, ◌+ᶠ◌, ◌*ᶠ◌}
use Rattle.exact.specs.Series.{factorial, term}
use Rattle.tails.specs.Counts.{sum_below}
use Rattle.normal.specs.Probability.{double_factorial, half_pi_term, area_term, sum_to}
use Rattle.normal.proofs.Sums.{over, top_to}
use Rattle.normal.proofs.Enclosures.{half_pi_step, half_pi_low, two_more}
use Rattle.normal.proofs.Diagonals.{diagonal, diagonal_cong, diagonal_add, diagonal_times, diagonal_flip}

-- ---- whole numbers in the ratio of the terms up to N: (2 i + 3) Q u(i + 1) = X u i

down : ℕ → ℕ → ℕ → ℕ
down Q i zero = 1
down Q i (suc d) = (2 * i + 3) * Q * down Q (suc i) d

down_pos : (Q i d : ℕ) → 0 < Q → 0 < down Q i d
unfolding down
down_pos Q i zero some = omega arith
down_pos Q i (suc d) some = mul-pos (mul-pos (omega arith) some) (down_pos Q (suc i) d some)

module _ (X Q N : ℕ) where
  pub u : ℕ → ℕ
  u i = X ^ i * down Q i (N - i)

  ratio : (i : ℕ) → i < N → (2 * i + 3) * Q * u (suc i) ≡ X * u i
  unfolding u down
  ratio i h =
      let e : N - i ≡ suc (N - suc i) = omega (arith, h) in
      rw (e, pow-suc X i) (omega arith)

  pub u_pos : 0 < Q → 0 < u 0
  unfolding u
  u_pos some = rw (pow-zero X) (omega (arith, down_pos Q 0 (N - 0) some))

  -- the m-th term of the square of the sum of all u
  unfoldable pub product : ℕ → ℕ → ℕ
  product i j = u i * u j

  unfoldable pub square_term : ℕ → ℕ
  square_term m = diagonal product m

  weighted : ℕ → ℕ → ℕ
  weighted i j = (2 * i + 1) * product i j

  -- the weights 2 i + 1 and 2 j + 1 come to the same
  twice : (m : ℕ) → suc m * square_term m ≡ diagonal weighted m
  unfolding square_term weighted product
  twice m = halved (diagonal weighted m) (square_term m) (sym both ∙ sums)
    where
      other : ℕ → ℕ → ℕ
      other i j = weighted j i

      sums : diagonal (λ i j. weighted i j + other i j) m ≡ 2 * suc m * square_term m
      sums = diagonal_cong (λ i j. weighted i j + other i j) (λ i j. 2 * suc m * product i j) m (λ i j e. level i j e) ∙ diagonal_times (2 * suc m) product m
        where
          level : (i j : ℕ) → i + j ≡ m → weighted i j + other i j ≡ 2 * suc m * product i j
          level i j e = rw (← e) (omega arith)

      both : diagonal (λ i j. weighted i j + other i j) m ≡ diagonal weighted m + diagonal weighted m
      both = diagonal_add weighted other m ∙ ap (λ z. diagonal weighted m + z) (sym (diagonal_flip weighted m))

      halved : (w c : ℕ) → w + w ≡ 2 * suc m * c → suc m * c ≡ w
      halved w c e = omega arith

  square_term_next : (m : ℕ) → m < N → Q * (suc (suc m) * square_term (suc m)) ≡ Q * (u 0 * u (suc m)) + X * square_term m
  unfolding square_term weighted product diagonal
  square_term_next m h = rw (twice (suc m)) (together (diagonal (λ i. weighted (suc i)) m) shifted)
    where
      level : (i j : ℕ) → i + j ≡ m → Q * ((2 * suc i + 1) * (u (suc i) * u j)) ≡ X * (u i * u j)
      level i j e = omega (arith, ap (λ z. u j * z) (ratio i (omega (arith, e, h))))

      shifted : Q * diagonal (λ i. weighted (suc i)) m ≡ X * square_term m
      shifted =
          sym (diagonal_times Q (λ i. weighted (suc i)) m) ∙ diagonal_cong (λ i j. Q * weighted (suc i) j) (λ i j. X * product i j) m level ∙ diagonal_times X product m

      together : (d : ℕ) → Q * d ≡ X * square_term m → Q * ((2 * 0 + 1) * (u 0 * u (suc m)) + d) ≡ Q * (u 0 * u (suc m)) + X * square_term m
      together d e = omega (arith, e)

  -- u and the terms of the square, in closed form
  unfoldable pub half_pi_top : ℕ → ℕ
  half_pi_top m = top_to half_pi_term half_pi_step m

  term_step : (u₀ u u' k o Qm Xm : ℕ) → k * Q * u' ≡ X * u → u * (Qm * o) ≡ u₀ * Xm → u' * (Qm * Q * (k * o)) ≡ u₀ * (Xm * X)
  term_step u₀ u u' k o Qm Xm r before = omega (arith, ap (λ z. Qm * o * z) r, ap (λ z. X * z) before)

  pub term_is : (m : ℕ) → m ≤ N → u m * (Q ^ m * double_factorial m) ≡ u 0 * X ^ m
  unfolding double_factorial
  term_is zero h = rw (pow-zero Q, pow-zero X) (omega arith)
  term_is (suc m) h =
      rw (pow-suc Q m, pow-suc X m)
      (term_step (u 0) (u m) (u (suc m)) (2 * m + 3) (double_factorial m) (Q ^ m) (X ^ m) (ratio m (omega (arith, h))) (term_is m (omega (arith, h))))

  square_term_step : (u₀ u' c c' k o m₂ f s Qm Xm : ℕ) → Q * (m₂ * c') ≡ Q * (u₀ * u') + X * c → u' * (Qm * Q * (k * o)) ≡ u₀ * (Xm * X) → c * (Qm * f * o) ≡ u₀ * u₀ * Xm * s
      → c' * (Qm * Q * (m₂ * f) * (k * o)) ≡ u₀ * u₀ * (Xm * X) * (k * s + f)
  square_term_step u₀ u' c c' k o m₂ f s Qm Xm next now before =
      placed₁ c' Qm m₂ f k o ∙ ap (λ z. Qm * f * k * o * z) next ∙ placed₂ u₀ u' c Qm f k o
      ∙ (ap (λ z. u₀ * f * z + X * k * (c * (Qm * f * o))) now ∙ (ap (λ z. u₀ * f * (u₀ * (Xm * X)) + X * k * z) before ∙ placed₃ u₀ f Xm k s))
    where
      placed₁ : (c' Qm m₂ f k o : ℕ) → c' * (Qm * Q * (m₂ * f) * (k * o)) ≡ Qm * f * k * o * (Q * (m₂ * c'))
      placed₁ c' Qm m₂ f k o = omega arith

      placed₂ : (u₀ u' c Qm f k o : ℕ) → Qm * f * k * o * (Q * (u₀ * u') + X * c) ≡ u₀ * f * (u' * (Qm * Q * (k * o))) + X * k * (c * (Qm * f * o))
      placed₂ u₀ u' c Qm f k o = omega arith

      placed₃ : (u₀ f Xm k s : ℕ) → u₀ * f * (u₀ * (Xm * X)) + X * k * (u₀ * u₀ * Xm * s) ≡ u₀ * u₀ * (Xm * X) * (k * s + f)
      placed₃ u₀ f Xm k s = omega arith

  pub square_term_is : (m : ℕ) → m ≤ N → square_term m * (Q ^ m * factorial (suc m) * double_factorial m) ≡ u 0 * u 0 * X ^ m * half_pi_top m
  unfolding square_term product diagonal half_pi_top top_to half_pi_term double_factorial factorial
  square_term_is zero h = rw (pow-zero Q, pow-zero X) (omega arith)
  square_term_is (suc m) h =
      rw (pow-suc Q m, pow-suc X m)
      (square_term_step (u 0) (u (suc m)) (square_term m) (square_term (suc m)) (2 * m + 3) (double_factorial m) (suc (suc m)) (factorial (suc m)) (half_pi_top m) (Q ^ m) (X ^ m)
      (square_term_next m (omega (arith, h))) (rw (pow-suc Q m, pow-suc X m) at (term_is (suc m) h)) (square_term_is m (omega (arith, h))))

-- ---- as fractions

-- the same number, by cross multiplication
abbrev pub Same : Fraction → Fraction → Type 0
Same a b = a.top * b.bottom ≡ b.top * a.bottom

pub distributes : (a b c : Fraction) → Same (a *ᶠ (b +ᶠ c)) (a *ᶠ b +ᶠ a *ᶠ c)
distributes a b c = omega arith

odd_power : (p i : ℕ) → p ^ (2 * i + 1) ≡ p * (p * p) ^ i
odd_power p zero = rw (pow-zero (p * p), pow-suc p 0, pow-zero p) (omega arith)
odd_power p (suc i) = rw (two_more p i, odd_power p i, pow-suc (p * p) i) (omega arith)

module _ (x : Fraction) (N : ℕ) where
  abbrev X' : ℕ
  X' = x.top * x.top

  abbrev Q' : ℕ
  Q' = x.bottom * x.bottom

  abbrev pub w : ℕ → ℕ
  w = u X' Q' N

  pub w_pos : 0 < w 0
  w_pos = u_pos X' Q' N (mul-pos x.positive x.positive)

  -- B² is the sum of square_terms, times X' over Q' w 0²
  abbrev pub square_terms : ℕ → ℕ
  square_terms = square_term X' Q' N

  abbrev pub part : ℕ → Fraction
  part k = over (X' * k) (Q' * (w 0 * w 0)) (mul-pos (mul-pos x.positive x.positive) (mul-pos w_pos w_pos))

  pub part_add : (s c : ℕ) → Same (part (s + c)) (part s +ᶠ part c)
  part_add s c = spread X' s c (Q' * (w 0 * w 0))
    where
      spread : (X s c d : ℕ) → X * (s + c) * (d * d) ≡ (X * s * d + X * c * d) * d
      spread X s c d = omega arith

  pub part_is : (m : ℕ) → m ≤ N → Same (half_pi_low m *ᶠ term (square x) (suc m)) (part (square_terms m))
  unfolding term half_pi_term half_pi_top
  part_is m h =
      rw (pow-suc X' m, pow-suc Q' m)
      (crossed X' Q' (square_terms m) (Q' ^ m) (factorial (suc m)) (double_factorial m) (w 0) (X' ^ m) (half_pi_top X' Q' N m) (square_term_is X' Q' N m h))
    where
      crossed : (X Q c Qm f o u₀ Xm s : ℕ) → c * (Qm * f * o) ≡ u₀ * u₀ * Xm * s → s * (Xm * X) * (Q * (u₀ * u₀)) ≡ X * c * (o * (Qm * Q * f))
      crossed X Q c Qm f o u₀ Xm s e = omega (arith, ap (λ z. X * Q * z) e)

  -- the area's terms 0 to n
  abbrev pub area_sum : ℕ → Fraction
  area_sum n = over (x.top * sum_below (suc n) w) (x.bottom * w 0) (mul-pos x.positive w_pos)

  one_is : (i : ℕ) → i ≤ N → (area_term x i).top * (x.bottom * w 0) ≡ x.top * w i * (area_term x i).bottom
  unfolding area_term
  one_is i h =
      rw (odd_power x.top i, odd_power x.bottom i)
      (crossed x.top x.bottom (X' ^ i) (Q' ^ i) (double_factorial i) (w 0) (w i) (term_is X' Q' N i h))
    where
      crossed : (p q Xi Qi o u₀ uᵢ : ℕ) → uᵢ * (Qi * o) ≡ u₀ * Xi → p * Xi * (q * u₀) ≡ p * uᵢ * (q * Qi * o)
      crossed p q Xi Qi o u₀ uᵢ e = omega (arith, ap (λ z. p * q * z) e)

  pub area_is : (n : ℕ) → n ≤ N → Same (sum_to (area_term x) n) (area_sum n)
  unfolding sum_to sum_below
  area_is zero h = rw zero-add (one_is zero h)
  area_is (suc n) h =
      added (sum_to (area_term x) n).top (sum_to (area_term x) n).bottom (area_term x (suc n)).top (area_term x (suc n)).bottom (x.bottom * w 0) x.top
      (sum_below (suc n) w) (w (suc n)) (area_is n (omega (arith, h))) (one_is (suc n) h)
    where
      added : (a b c d D k s t : ℕ) → a * D ≡ k * s * b → c * D ≡ k * t * d → (a * d + c * b) * D ≡ k * (s + t) * (b * d)
      added a b c d D k s t e f = omega (arith, ap (λ z. d * z) e, ap (λ z. b * z) f)

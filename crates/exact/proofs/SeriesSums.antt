-- The partial sums of a sum against the product of the partial sums, without binomials.
use mathlib.Core.Path.{◌≡◌, refl, ap, ◌∙◌}
use Prim.Native.Nat.{ℕ, zero, suc, ◌+◌, ◌*◌, ◌^◌, ◌≤◌, ◌<◌}
use native.Mathlib.Nat.{mul-pos, mul-le-mul_left, mul-le-mul_right, pow-zero, pow-suc, le_refl, add-zero, add-suc, zero-add}
use native.Mathlib.Omega.{arith}
use Rattle.exact.specs.Fraction.{Fraction, ◌+ᶠ◌, ◌*ᶠ◌, ◌≤ᶠ◌}
use Rattle.exact.proofs.FractionLaws.{*ᶠ-mono, ◌≤ᶠ⟨◌⟩◌, ◌∎ᶠ, chained}
use Rattle.exact.specs.Series.{partial_sum}
use Rattle.exact.proofs.SeriesLaws.{scaled_top, scaled_bottom, scaled_sum, scaled_grows, partial_sum_mono}
use Rattle.exact.proofs.SeriesLaws.{partial_sum_at_most_scaled, scaled_at_most_partial_sum}

-- Read c n as a number in place of the power Xⁿ. Then `blend c b m j n` stands in place of (X + b)ʲ Xⁿ, of whose expansion
-- only the powers of b up to bᵐ are kept.
unfoldable pub blend : (ℕ → ℕ) → ℕ → ℕ → ℕ → ℕ → ℕ
blend c b m zero n = c n
blend c b zero (suc j) n = blend c b zero j (suc n)
blend c b (suc m) (suc j) n = blend c b (suc m) j (suc n) + b * blend c b m j n

abbrev pub before : ℕ → ℕ
before zero = zero
before (suc n) = n

-- A bound on the numbers that are read is a bound on the blend.
pub blend_mono :
    (c d : ℕ → ℕ) (k l b m j n : ℕ) → ((i : ℕ) → i ≤ n + j → n + j ≤ i + m → k * c i ≤ l * d i) →
    k * blend c b m j n ≤ l * blend d b m j n
unfolding blend
blend_mono c d k l b m zero n h = h n (omega arith) (omega arith)
blend_mono c d k l b zero (suc j) n h = blend_mono c d k l b zero j (suc n) (λ i p r. h i (omega arith) (omega arith))
blend_mono c d k l b (suc m) (suc j) n h =
    omega (
      arith,
      blend_mono c d k l b (suc m) j (suc n) (λ i p r. h i (omega arith) (omega arith)),
      mul-le-mul_left b (blend_mono c d k l b m j n (λ i p r. h i (omega arith) (omega arith))),
    )

-- More powers of b give no less.
pub blend_grows : (c : ℕ → ℕ) (b m m' j n : ℕ) → m ≤ m' → blend c b m j n ≤ blend c b m' j n
unfolding blend
blend_grows c b m m' zero n h = le_refl _
blend_grows c b zero zero (suc j) n h = le_refl _
blend_grows c b zero (suc m') (suc j) n h = omega (arith, blend_grows c b zero (suc m') j (suc n) h)
blend_grows c b (suc m) zero (suc j) n h = omega arith
blend_grows c b (suc m) (suc m') (suc j) n h =
    omega (arith, blend_grows c b (suc m) (suc m') j (suc n) h, mul-le-mul_left b (blend_grows c b m m' j n (omega arith)))

-- With c the powers of a it is (a + b)ʲ aⁿ, if all powers of b are kept.
pub blend_powers : (a b m j n : ℕ) → j ≤ m → blend (λ i. a ^ i) b m j n ≡ (a + b) ^ j * a ^ n
unfolding blend
blend_powers a b m zero n h = rw (pow-zero (a + b)) (omega arith)
blend_powers a b zero (suc j) n h = omega arith
blend_powers a b (suc m) (suc j) n h =
    rw (blend_powers a b (suc m) j (suc n) (omega arith), blend_powers a b m j n (omega arith), pow-suc (a + b) j, pow-suc a n)
    (omega arith)

-- With c the powers of 0 it is 0, unless the powers of b reach far enough.
pub blend_none : (b m j n : ℕ) → m < n + j → blend (λ i. 0 ^ i) b m j n ≡ 0
unfolding blend
blend_none b m zero zero h = omega arith
blend_none b m zero (suc n) h = rw (pow-suc 0 n) (omega arith)
blend_none b zero (suc j) n h = blend_none b zero j (suc n) (omega arith)
blend_none b (suc m) (suc j) n h =
    rw (blend_none b (suc m) j (suc n) (omega arith), blend_none b m j n (omega arith)) (omega arith)

-- If c is q times its derivative and d besides, so is each blend: the rule of products.
joined :
    (q b j n x y f g g' h k u v : ℕ) → x ≡ q * (j * f + suc n * g) + u → y ≡ q * (j * h + n * k) + v → j * g ≡ j * (f + b * h) →
    n * g' ≡ n * g → x + b * y ≡ q * (suc j * g + n * (g' + b * k)) + (u + b * v)
joined q b j n x y f g g' h k u v p r s t = omega (arith, ap (λ e. b * e) r, ap (λ e. q * e) s, ap (λ e. q * e) t)

module _ (c d : ℕ → ℕ) (q b : ℕ) (rule : (n : ℕ) → c n ≡ q * (n * c (before n)) + d n) where
  level : (m j n : ℕ) → n * blend c b m j (suc (before n)) ≡ n * blend c b m j n
  level m j zero = omega arith
  level m j (suc n) = refl

  lowest : (j n : ℕ) → j * blend c b zero j n ≡ j * blend c b zero (before j) (suc n)
  unfolding blend
  lowest zero n = omega arith
  lowest (suc j) n = refl

  opened : (m j n : ℕ) → j * blend c b (suc m) j n ≡ j * (blend c b (suc m) (before j) (suc n) + b * blend c b m (before j) n)
  unfolding blend
  opened m zero n = omega arith
  opened m (suc j) n = refl

  pub blend_rule :
      (m j n : ℕ) → blend c b m j n ≡ q * (j * blend c b m (before j) n + n * blend c b m j (before n)) + blend d b m j n
  unfolding blend
  blend_rule m zero n = omega (arith, rule n)
  blend_rule zero (suc j) n =
      omega (arith, blend_rule zero j (suc n), ap (λ t. q * t) (lowest j n), ap (λ t. q * t) (level zero j n))
  blend_rule (suc m) (suc j) n =
      joined q b j n (blend c b (suc m) j (suc n)) (blend c b m j n) (blend c b (suc m) (before j) (suc n))
      (blend c b (suc m) j n) (blend c b (suc m) j (suc (before n))) (blend c b m (before j) n) (blend c b m j (before n))
      (blend d b (suc m) j (suc n)) (blend d b m j n) (blend_rule (suc m) j (suc n)) (blend_rule m j n) (opened m j n)
      (level (suc m) j n)

-- The scaled sums of a obey the rule with the powers of a; their denominators with the powers of 0.
pub scaled_top_rule : (a q n : ℕ) → scaled_top a q n ≡ q * (n * scaled_top a q (before n)) + a ^ n
unfolding scaled_top
scaled_top_rule a q zero = rw (pow-zero a) (omega arith)
scaled_top_rule a q (suc n) = omega arith

pub scaled_bottom_rule : (q n : ℕ) → scaled_bottom q n ≡ q * (n * scaled_bottom q (before n)) + 0 ^ n
unfolding scaled_bottom
scaled_bottom_rule q zero = omega arith
scaled_bottom_rule q (suc n) = rw (pow-suc 0 n) (omega arith)

-- So the blend of the scaled sums of a with b is the scaled sum of a + b.
pub blend_scaled :
    (c : ℕ → ℕ) (a q b m j : ℕ) → ((n : ℕ) → c n ≡ q * (n * c (before n)) + a ^ n) → j ≤ m →
    blend c b m j 0 ≡ scaled_top (a + b) q j
unfolding scaled_top
blend_scaled c a q b m zero rule h =
    blend_rule c (λ i. a ^ i) q b rule m zero 0 ∙ rw (blend_powers a b m 0 0 h, pow-zero a, pow-zero (a + b)) (omega arith)
blend_scaled c a q b m (suc j) rule h =
    omega (
      arith,
      blend_rule c (λ i. a ^ i) q b rule m (suc j) 0,
      ap (λ t. suc j * q * t) (blend_scaled c a q b m j rule (omega arith)),
      rw pow-zero at (blend_powers a b m (suc j) 0 h),
    )

-- And the blend of the denominators, with the powers of b up to bᵐ, is the scaled sum of b to m over a greater denominator.
pub blend_denominators :
    (q b m k : ℕ) → blend (scaled_bottom q) b m (m + k) 0 * scaled_bottom q m ≡ scaled_bottom q (m + k) * scaled_top b q m
unfolding scaled_bottom
blend_denominators q b m zero =
    rw (add-zero, blend_scaled (scaled_bottom q) 0 q b m m (scaled_bottom_rule q) (le_refl m), zero-add) (omega arith)
blend_denominators q b m (suc k) =
    rw add-suc
    (omega (
      arith,
      ap (λ t. t * scaled_bottom q m)
          (rw (blend_none b m (suc (m + k)) 0 (omega arith)) at
          (blend_rule (scaled_bottom q) (λ i. 0 ^ i) q b (scaled_bottom_rule q) m (suc (m + k)) 0)),
      ap (λ t. suc (m + k) * q * t) (blend_denominators q b m k),
    ))

-- E_n(a + b) ≤ E_n(a) E_n(b), over the denominator q.
pub scaled_sum_at_most : (a b q n : ℕ) → scaled_top (a + b) q n * scaled_bottom q n ≤ scaled_top a q n * scaled_top b q n
scaled_sum_at_most a b q n =
    omega (
      arith,
      ap (λ t. scaled_bottom q n * t) (blend_scaled (scaled_top a q) a q b n n (scaled_top_rule a q) (le_refl n)),
      ap (λ t. scaled_top a q n * t) (rw zero-add at (blend_scaled (scaled_bottom q) 0 q b n n (scaled_bottom_rule q) (le_refl n))),
      blend_mono (scaled_top a q) (scaled_bottom q) (scaled_bottom q n) (scaled_top a q n) b n n 0
          (λ i h k. omega (arith, scaled_grows a q {n = i} {m = n} (omega arith))),
    )

-- E_n(a) E_m(b) ≤ E_(m + n)(a + b), over the denominator q.
pub scaled_sum_at_least :
    (a b q n m : ℕ) →
    scaled_top a q n * scaled_top b q m * scaled_bottom q (m + n) ≤
    scaled_top (a + b) q (m + n) * (scaled_bottom q n * scaled_bottom q m)
scaled_sum_at_least a b q n m =
    omega (
      arith,
      ap (λ t. scaled_top a q n * t) (blend_denominators q b m n),
      mul-le-mul_right (scaled_bottom q m)
          (blend_mono (scaled_bottom q) (scaled_top a q) (scaled_top a q n) (scaled_bottom q n) b m (m + n) 0
          (λ i h k. omega (arith, scaled_grows a q {n = n} {m = i} (omega arith)))),
      mul-le-mul_right (scaled_bottom q n * scaled_bottom q m) (blend_grows (scaled_top a q) b m (m + n) (m + n) 0 (omega arith)),
      ap (λ t. scaled_bottom q n * scaled_bottom q m * t)
          (blend_scaled (scaled_top a q) a q b (m + n) (m + n) (scaled_top_rule a q) (le_refl (m + n))),
    )

-- Two fractions over the product of their denominators.
abbrev pub over_both : Fraction → Fraction → Fraction
over_both x y = record {
  top = x.top * y.bottom;
  bottom = x.bottom * y.bottom;
  positive = mul-pos x.positive y.positive;
}

abbrev pub under_both : Fraction → Fraction → Fraction
under_both x y = record {
  top = y.top * x.bottom;
  bottom = x.bottom * y.bottom;
  positive = mul-pos x.positive y.positive;
}

-- A partial sum of a sum is at most the product of the partial sums.
pub partial_sum_sum_at_most : (x y : Fraction) (n : ℕ) → partial_sum (x +ᶠ y) n ≤ᶠ partial_sum x n *ᶠ partial_sum y n
unfolding scaled_sum
partial_sum_sum_at_most x y n =
    chained
    (partial_sum (x +ᶠ y) n ≤ᶠ⟨ partial_sum_at_most_scaled (x +ᶠ y) n ⟩
    scaled_sum (x +ᶠ y) n ≤ᶠ⟨ omega (arith, mul-le-mul_right (scaled_bottom q n) (scaled_sum_at_most x'.top y'.top q n)) ⟩
    scaled_sum x' n *ᶠ scaled_sum y' n ≤ᶠ⟨ products ⟩
    partial_sum x n *ᶠ partial_sum y n ∎ᶠ)
  where
    q : ℕ
    q = x.bottom * y.bottom

    x' : Fraction
    x' = over_both x y

    y' : Fraction
    y' = under_both x y

    back : (u v : Fraction) → u ≤ᶠ v → scaled_sum u n ≤ᶠ partial_sum v n
    back u v h =
        chained
        (scaled_sum u n ≤ᶠ⟨ scaled_at_most_partial_sum u n ⟩ partial_sum u n ≤ᶠ⟨ partial_sum_mono u v n h ⟩ partial_sum v n ∎ᶠ)

    products : scaled_sum x' n *ᶠ scaled_sum y' n ≤ᶠ partial_sum x n *ᶠ partial_sum y n
    products =
        *ᶠ-mono (scaled_sum x' n) (partial_sum x n) (scaled_sum y' n) (partial_sum y n) (back x' x (omega arith))
        (back y' y (omega arith))

-- A product of partial sums is at most a later partial sum of the sum.
pub partial_sum_sum_at_least : (x y : Fraction) (n m : ℕ) → partial_sum x n *ᶠ partial_sum y m ≤ᶠ partial_sum (x +ᶠ y) (m + n)
unfolding scaled_sum
partial_sum_sum_at_least x y n m =
    chained
    (partial_sum x n *ᶠ partial_sum y m ≤ᶠ⟨ products ⟩
    scaled_sum x' n *ᶠ scaled_sum y' m ≤ᶠ⟨ scaled_sum_at_least x'.top y'.top x'.bottom n m ⟩
    scaled_sum (x +ᶠ y) (m + n) ≤ᶠ⟨ scaled_at_most_partial_sum (x +ᶠ y) (m + n) ⟩
    partial_sum (x +ᶠ y) (m + n) ∎ᶠ)
  where
    x' : Fraction
    x' = over_both x y

    y' : Fraction
    y' = under_both x y

    there : (u v : Fraction) (k : ℕ) → u ≤ᶠ v → partial_sum u k ≤ᶠ scaled_sum v k
    there u v k h =
        chained
        (partial_sum u k ≤ᶠ⟨ partial_sum_mono u v k h ⟩ partial_sum v k ≤ᶠ⟨ partial_sum_at_most_scaled v k ⟩ scaled_sum v k ∎ᶠ)

    products : partial_sum x n *ᶠ partial_sum y m ≤ᶠ scaled_sum x' n *ᶠ scaled_sum y' m
    products =
        *ᶠ-mono (partial_sum x n) (scaled_sum x' n) (partial_sum y m) (scaled_sum y' m) (there x x' n (omega arith))
        (there y y' m (omega arith))

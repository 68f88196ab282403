-- The cuts narrow: of any two fractions t < u, t is at most the probability or u is at least it.
use mathlib.Core.Path.{◌≡◌, ap}
use mathlib.Core.Logic.{◌⊎◌, inl, inr}
use Prim.Native.Nat.{ℕ, suc, ◌+◌, ◌-◌, ◌*◌, ◌≤◌, ◌<◌}
use native.Mathlib.Nat.{mul-pos, mul-le-mul, mul-le-mul_left, le_of_lt, lt_of_not-le, le_of_mul-le-mul_left, mul_assoc, add-zero}
use native.Mathlib.Decide.{dec_le}
use native.Mathlib.Omega.{arith}
use Rattle.exact.specs.Fraction.{Fraction, square, ◌*ᶠ◌, ◌≤ᶠ◌, ◌<ᶠ◌}
use Rattle.normal.specs.Probability.{AtLeastInside, AtMostInside, AtMostTail, AtLeastTail}
use Rattle.normal.proofs.Sums.{over}
use Rattle.normal.proofs.Enclosures.{half_pi_low, half_pi_high, area_low, area_high, exponential_low, exponential_high, half_pi_narrow, area_narrow, exponential_narrow}
use Rattle.normal.proofs.Enclosures.{Enough, more, at_most_inside, at_least_inside}

squares : (N M X B K : ℕ) → N * X ≤ M * B → N * N * (X * X * K) ≤ M * M * (B * B * K)
squares N M X B K h = omega (arith, mul-le-mul_left K (mul-le-mul h h))

products : (N M P p E e a L : ℕ) → N * P ≤ M * p → N * E ≤ M * e → N * N * (a * a * (P * E) * L) ≤ M * M * (a * a * (p * e) * L)
products N M P p E e a L h k = omega (arith, mul-le-mul_left (a * a * L) (mul-le-mul h k))

fourths : (Q R a b Y : ℕ) → R * a ≤ Q * b → R * R * (a * a * Y) ≤ Q * Q * (b * b * Y)
fourths Q R a b Y h = omega (arith, mul-le-mul_left Y (mul-le-mul h h))

joined : (Q R x y z u v : ℕ) → Q * x ≤ R * y → y ≤ z → Q * z ≤ R * u → R * R * u ≤ Q * Q * v → Q * Q * x ≤ Q * Q * v
joined Q R x y z u v h₁ h₂ h₃ h₄ = omega (arith, mul-le-mul_left Q h₁, mul-le-mul_left (Q * R) h₂, mul-le-mul_left R h₃)

-- What is beyond a sum is at most one part in N of it, so three sums move a / d by less than to b / d; M stands for N + 1.
squeezed : (N M X B P p E e a b K L : ℕ) → 0 < N → N * X ≤ M * B → N * P ≤ M * p → N * E ≤ M * e → M * M * a ≤ N * N * b
    → B * B * K ≤ a * a * (P * E) * L → X * X * K ≤ b * b * (p * e) * L
squeezed N M X B P p E e a b K L some hX hP hE hab h =
    le_of_mul-le-mul_left {k = N * N * (N * N)}
    (joined (N * N) (M * M) (X * X * K) (B * B * K) (a * a * (P * E) * L) (a * a * (p * e) * L) (b * b * (p * e) * L) (squares N M X B K hX) h
    (products N M P p E e a L hP hE) (regrouped (fourths (N * N) (M * M) a b (p * e * L) hab)))
    (mul-pos (mul-pos some some) (mul-pos some some))
  where
    regrouped : M * M * (M * M) * (a * a * (p * e * L)) ≤ N * N * (N * N) * (b * b * (p * e * L)) → M * M * (M * M) * (a * a * (p * e) * L) ≤ N * N * (N * N) * (b * b * (p * e) * L)
    regrouped g = rw (mul_assoc (a * a) (p * e) L, mul_assoc (b * b) (p * e) L) g

one_or_more : (p q r : ℕ) → 0 < r → r * q ≤ p * r → 1 * (q * 1) ≤ (p * 1 + 0 * q) * 1
one_or_more p q r some h =
    let le : q ≤ p = le_of_mul-le-mul_left {k = r} (omega arith) some in
    omega (arith, le)

rest_most : (p q r : ℕ) → p * r ≤ q * r → (p * (q * r) + (q * r - p * r) * q) * 1 ≤ 1 * (q * (q * r))
rest_most p q r h = by_rest (q * r - p * r) (omega (arith, h))
  where
    by_rest : (c : ℕ) → c + p * r ≡ q * r → (p * (q * r) + c * q) * 1 ≤ 1 * (q * (q * r))
    by_rest c e = omega (arith, ap (λ z. q * z) e)

rest_least : (p q r : ℕ) → 1 * (r * (q * r)) ≤ (p * (q * r) + (q * r - p * q) * r) * 1
rest_least p q r = by_rest (q * r - p * q) (omega arith)
  where
    by_rest : (c : ℕ) → q * r ≤ p * q + c → 1 * (r * (q * r)) ≤ (p * (q * r) + c * r) * 1
    by_rest c e = omega (arith, mul-le-mul_left r e)

-- N = 3 a + 1 parts are enough.
parts : (a b : ℕ) → a < b → suc (suc (3 * a)) * suc (suc (3 * a)) * a ≤ suc (3 * a) * suc (3 * a) * b
parts a b h = omega (arith, mul-le-mul_left (suc (3 * a) * suc (3 * a)) h)

beyond : (N u S : ℕ) → N * u ≤ S → N * (S + u) ≤ suc N * S
beyond N u S h = omega arith

module _ (x : Fraction) where
  first : ℕ
  first = 2 * (x.top * x.top)

  enough_after : (j : ℕ) → Enough x (first + j)
  unfolding first
  enough_after j = plenty (x.top * x.top) (x.bottom * x.bottom) (mul-pos x.positive x.positive)
    where
      plenty : (P Q : ℕ) → 0 < Q → 2 * P ≤ suc (2 * P + j) * Q
      plenty P Q some = omega (arith, mul-le-mul_left (suc (2 * P + j)) some)

  enough_first : Enough x first
  enough_first = rw add-zero at (enough_after 0)

  located_inside : (a b d : ℕ) (some : 0 < d) → a < b → AtLeastInside x (over b d some) ⊎ AtMostInside x (over a d some)
  located_inside a b d some h = decided (dec_le _ _)
    where
      n : ℕ
      n = first + 3 * a

      decided : Dec (square (over a d some) *ᶠ (half_pi_high n *ᶠ exponential_high (square x) n) ≤ᶠ square (area_low x n))
          → AtLeastInside x (over b d some) ⊎ AtMostInside x (over a d some)
      decided (yes below) = inr (at_most_inside x (over a d some) n (enough_after (3 * a)) below)
      decided (no above) =
          inl
          (at_least_inside x (over b d some) n (enough_after (3 * a))
          (squeezed (suc (3 * a)) (suc (suc (3 * a))) (area_high x n).top (area_low x n).top (half_pi_high n).top (half_pi_low n).top
          (exponential_high (square x) n).top (exponential_low (square x) n).top a b (d * d * ((half_pi_low n).bottom * (exponential_low (square x) n).bottom))
          ((area_low x n).bottom * (area_low x n).bottom) (omega arith)
          (beyond (suc (3 * a)) _ _ (area_narrow x first (more first (x.top * x.top) (x.bottom * x.bottom) enough_first) (3 * a)))
          (beyond (suc (3 * a)) _ _ (half_pi_narrow first (3 * a)))
          (beyond (suc (3 * a)) _ _ (exponential_narrow (x.top * x.top) (x.bottom * x.bottom) first enough_first (3 * a)))
          (parts a b h) (le_of_lt (lt_of_not-le above))))

  -- over one denominator d, by what is left of 1
  pub located : (t u : Fraction) → t <ᶠ u → AtMostTail x t ⊎ AtLeastTail x u
  located t u h = decided (dec_le d (u.top * t.bottom))
    where
      d : ℕ
      d = t.bottom * u.bottom

      some : 0 < d
      some = mul-pos t.positive u.positive

      a : ℕ
      a = d - u.top * t.bottom

      b : ℕ
      b = d - t.top * u.bottom

      by_cuts : u.top * t.bottom < d → AtLeastInside x (over b d some) ⊎ AtMostInside x (over a d some) → AtMostTail x t ⊎ AtLeastTail x u
      by_cuts small (inl inside) = inl (over b d some, inside, rest_most t.top t.bottom u.bottom (omega (arith, h, small)))
      by_cuts small (inr inside) = inr (over a d some, inside, rest_least u.top t.bottom u.bottom)

      decided : Dec (d ≤ u.top * t.bottom) → AtMostTail x t ⊎ AtLeastTail x u
      decided (yes large) = inr (over 0 1 (omega arith), at_most_inside x (over 0 1 (omega arith)) first enough_first (omega arith), one_or_more u.top u.bottom t.bottom t.positive large)
      decided (no small) = by_cuts (lt_of_not-le small) (located_inside a b d some (omega (arith, h, lt_of_not-le small)))

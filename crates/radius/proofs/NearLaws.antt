-- The guess from a cell is the root or one less.
use Rattle.std.proofs.Common.{◌≡◌, ℕ, zero, suc, ◌+◌, ◌*◌, ◌/◌, ◌%◌, ◌^◌, ◌<◌, ◌≤◌, true, refl, ap, ◌∙◌, le_trans, lt_of_lt_of_le, mul-le-mul_right, mod-lt, mul-le-mul, mul-le-mul_left, mul-lt-mul_of_pos_right, lt_of_not-le, div-add-mod', arith, pow_pos, pow_mono, pow-add}
use native.Mathlib.Nat.{le_of_mul-le-mul_left, lt_of_mul-lt-mul_left}
use lib.Count.{count_leading_zeros, leading_top}
use Rattle.root_lookup.specs.Cells.{in_cell}
use Rattle.radius.specs.Root.{NearRoot}
use Rattle.radius.proofs.RootLaws.{below_root, above_root}
use Rattle.radius.proofs.CellLaws.{root_at, Serves, served, zero_cell, flat}

-- ---- over plain numbers: x is moved up by P², s, and lies at t in cell n; y is what the cell gives, at D, and r is that, moved back

module _ (x s P D w W E n t y r : ℕ) (above : 0 < P) (positive : 0 < D) (whole : w * D ≡ W) (is : s ≡ x * (P * P)) where
  at_most_lem : r * (D * P) ≤ y → (n * D + t) * w ≤ s → y * y ≤ W * (n * D + t) * D → r * r ≤ x
  at_most_lem back low most =
      let h0 : (n * D + t) * w * (D * D) ≤ s * (D * D) = mul-le-mul_right (D * D) low in
      let h1 : w * D * ((n * D + t) * D) ≡ W * ((n * D + t) * D) = ap (λ z. z * ((n * D + t) * D)) whole in
      let h2 : s * (D * D) ≡ x * (P * P) * (D * D) = ap (λ z. z * (D * D)) is in
      let h3 : 0 < D * P = mul-le-mul positive above in
      le_of_mul-le-mul_left {k = D * P * (D * P)} (omega (arith, mul-le-mul back back, h0, h1, h2, most)) (mul-le-mul h3 h3)

  next_above : y < (r + 1) * (D * P) → s < (n * D + t + 1) * w → W * (n * D + t + 1) * D ≤ (y + E * D) * (y + E * D) → E ≤ P → x < (r + 2) * (r + 2)
  next_above back high least enough =
      let h0 : suc s * (D * D) ≤ (n * D + t + 1) * w * (D * D) = mul-le-mul_right (D * D) high in
      let h1 : w * D * ((n * D + t + 1) * D) ≡ W * ((n * D + t + 1) * D) = ap (λ z. z * ((n * D + t + 1) * D)) whole in
      let h2 : s * (D * D) ≡ x * (P * P) * (D * D) = ap (λ z. z * (D * D)) is in
      let h3 : E * D ≤ P * D = mul-le-mul_right D enough in
      let h4 : y + E * D ≤ (r + 2) * (D * P) = omega (arith, h3, back) in
      let h5 : 0 < D * D = mul-le-mul positive positive in
      let h6 : s * (D * D) < (y + E * D) * (y + E * D) = omega (arith, h0, h1, h5, least) in
      lt_of_mul-lt-mul_left (D * P * (D * P)) (omega (arith, mul-le-mul h4 h4, h6, h2))

-- ---- x, moved up by as many places as are free, less one where that is odd

abbrev pub Moved : (x p : ℕ) → Type 0
Moved x p = count_leading_zeros 64 x < 64 → (2 * p ≤ count_leading_zeros 64 x) × (count_leading_zeros 64 x ≤ 2 * p + 1)

module _ (x p : ℕ) (some : 0 < x) (below : x < 2 ^ 48) (moved : Moved x p) where
  scaled_range : (2 ^ 62 ≤ x * 2 ^ (2 * p)) × (x * 2 ^ (2 * p) < 2 ^ 64) × (8 ≤ p)
  scaled_range =
      let (j, sum, low, high) = leading_top 64 x some (omega arith) in
      let (most, least) = moved (omega arith) in
      let up : 62 ≤ j + 2 * p = omega arith in
      let free : suc j + 2 * p ≤ 64 = omega arith in
      let few : j < 48 = lt_of_not-le λ (g : 48 ≤ j). let f : ⊥ = omega (arith, pow_mono g, low) in f in (
        le_trans (pow_mono up) (rw pow-add (mul-le-mul_right (2 ^ (2 * p)) low)),
        lt_of_lt_of_le (mul-lt-mul_of_pos_right high (pow_pos (2 * p))) (rw (← pow-add 2 (suc j) (2 * p)) (pow_mono free)),
        omega arith,
      )

-- ---- the guess

module _ (x p n t a b c : ℕ) (below : x < 2 ^ 48) (moved : Moved x p) (within : t < 2 ^ 32)
    (low : (n * 2 ^ 32 + t) * 2 ^ 25 ≤ x * 2 ^ (2 * p) % 2 ^ 64) (high : x * 2 ^ (2 * p) % 2 ^ 64 < (n * 2 ^ 32 + t + 1) * 2 ^ 25)
    (cell : in_cell n a b c ≡ true) where
  abbrev y : ℕ
  y = root_at (2 ^ 32) a b c t

  abbrev r : ℕ
  r = y / 2 ^ (32 + p)

  parts : r * 2 ^ (32 + p) + y % 2 ^ (32 + p) ≡ y
  parts = div-add-mod' y (2 ^ (32 + p))

  near_some : 0 < x → NearRoot x r
  near_some some =
      let P : ℕ = 2 ^ p in
      let s : ℕ = x * 2 ^ (2 * p) % 2 ^ 64 in
      let (least, most, places) = scaled_range x p some below moved in
      let own : s ≡ x * 2 ^ (2 * p) = omega arith in
      let is : s ≡ x * (P * P) = own ∙ ap (λ z. x * z) (ap (λ i. 2 ^ i) (omega arith) ∙ pow-add 2 p p) in
      let v : Serves (2 ^ 57) (2 ^ 32) (2 ^ 8) n a b c t = served n a b c t within (omega arith) (omega arith) cell in
      let rest : y % 2 ^ (32 + p) < 2 ^ (32 + p) = mod-lt y (pow_pos (32 + p)) in
      let back : r * (2 ^ 32 * P) ≤ y = rw (← pow-add 2 32 p) (omega (arith, parts)) in
      let next : y < (r + 1) * (2 ^ 32 * P) = rw (← pow-add 2 32 p) (omega (arith, parts, rest)) in
      let lower = at_most_lem x s P (2 ^ 32) (2 ^ 25) (2 ^ 57) (2 ^ 8) n t y r (pow_pos p) (omega arith) refl is back low v.at_most in
      let upper = next_above x s P (2 ^ 32) (2 ^ 25) (2 ^ 57) (2 ^ 8) n t y r (pow_pos p) (omega arith) refl is next high v.at_least (pow_mono places) in
      record { low = below_root x r lower; high = omega (arith, above_root x (r + 2) upper) }

  near_none : x ≡ 0 → NearRoot x r
  near_none none =
      let still : x * 2 ^ (2 * p) ≡ 0 = ap (λ z. z * 2 ^ (2 * p)) none ∙ omega arith in
      let y-is : y ≡ 0 = flat (2 ^ 32) a b c t (c * t / 2 ^ 32) (zero_cell n a b c (omega arith) cell) in
      let r-is : r ≡ 0 = omega (arith, parts, mul-le-mul_left r (pow_pos (32 + p))) in
      record { low = rw r-is (omega arith); high = omega (arith, r-is, above_root x 1 (omega arith)) }

pub near_is :
    (x p n t a b c k : ℕ) → x < 2 ^ 48 → Moved x p → t < 2 ^ 32 → (n * 2 ^ 32 + t) * 2 ^ 25 ≤ x * 2 ^ (2 * p) % 2 ^ 64 →
    x * 2 ^ (2 * p) % 2 ^ 64 < (n * 2 ^ 32 + t + 1) * 2 ^ 25 → in_cell n a b c ≡ true → k ≡ 32 + p → NearRoot x (root_at (2 ^ 32) a b c t / 2 ^ k)
near_is zero p n t a b c k below moved within low high cell e = rw e (near_none zero p n t a b c below moved within low high cell refl)
near_is (suc x) p n t a b c k below moved within low high cell e = rw e (near_some (suc x) p n t a b c below moved within low high cell (omega arith))

-- ---- what fits

pub product_fits : (a b : ℕ) → a < 2 ^ 32 → b < 2 ^ 32 → a * b < 2 ^ 64
product_fits a b p q = omega (arith, mul-le-mul p q)

pub moved_back : (y k : ℕ) → y < 2 ^ 64 → 32 ≤ k → y / 2 ^ k < 2 ^ 32
moved_back y k h far =
    let parts = div-add-mod' y (2 ^ k) in
    let whole : y / 2 ^ k * 2 ^ 32 ≤ y / 2 ^ k * 2 ^ k = mul-le-mul_left (y / 2 ^ k) (pow_mono far) in
    omega (arith, parts, whole)

-- How far the table-made cosine and sine are from the exact rotation, in whole numbers.
use Rattle.std.proofs.Common.{ℕ, ◌+◌, ◌-◌, ◌*◌, ◌<◌, ◌≤◌, mul-le-mul_right, add-sub_of_le, mul-le-mul, mul-le-mul_left, mul-pos, arith}
use native.Mathlib.Nat.{le_of_mul-le-mul_left}
use native.Mathlib.Decide.{dec_le}

-- Two ends that are below their neighbours by at most n: the product is below by at most n times the sum.
shifted : (n s t u v : ℕ) → s ≤ u → t ≤ v → (n + s) * (n + t) ≤ u * v + n * (n + s) + n * (n + t)
shifted n s t u v hs ht = omega (arith, mul-le-mul hs ht)

product_low : (n a b u v : ℕ) → a ≤ u + n → b ≤ v + n → a * b ≤ u * v + n * a + n * b
product_low n a b u v ha hb = go (dec_le a n) (dec_le b n)
  where
    go : Dec (a ≤ n) → Dec (b ≤ n) → a * b ≤ u * v + n * a + n * b
    go (yes p) y = omega (arith, mul-le-mul_right b p)
    go (no p) (yes q) = omega (arith, mul-le-mul_left a q)
    go (no p) (no q) =
        let p' : n ≤ a = omega arith in
        let q' : n ≤ b = omega arith in
        let h = shifted n (a - n) (b - n) u v (omega arith) (omega arith) in
        rw (add-sub_of_le p', add-sub_of_le q') at h

-- the same from above
product_high : (n a b u v : ℕ) → u ≤ a + n → v ≤ b + n → u * v ≤ a * b + n * a + n * b + n * n
product_high n a b u v ha hb = omega (arith, mul-le-mul ha hb)

-- An entry x at the scale R and the ends of an enclosure over n (2 to the number of fraction bits): every point between the ends is at most half a
-- unit of 1/R from the entry, and the entry is at most R.
pub record HalfUnit (R n x low high : ℕ) : Type 0 where
  pub below : 2 * x * n ≤ 2 * R * low + n
  pub above : 2 * R * high ≤ 2 * x * n + n
  pub small : x ≤ R

-- a product of two entries, at R² n², against the products of low ends and of high ends
low_ends : {R n x y l l' h h' : ℕ} → HalfUnit R n x l h → HalfUnit R n y l' h' → 2 * (n * n * (x * y)) ≤ 2 * (R * R * (l * l')) + n * n * (x + y)
low_ends {R} {n} {x} {y} {l} {l'} e e' = from (product_low n (2 * x * n) (2 * y * n) (2 * R * l) (2 * R * l') e.below e'.below)
  where
    from : 2 * x * n * (2 * y * n) ≤ 2 * R * l * (2 * R * l') + n * (2 * x * n) + n * (2 * y * n)
        → 2 * (n * n * (x * y)) ≤ 2 * (R * R * (l * l')) + n * n * (x + y)
    from t = omega (arith, t)

high_ends : {R n x y l l' h h' : ℕ} → HalfUnit R n x l h → HalfUnit R n y l' h'
    → 4 * (R * R * (h * h')) ≤ 4 * (n * n * (x * y)) + 2 * (n * n * (x + y)) + n * n
high_ends {R} {n} {x} {y} {h = h} {h' = h'} e e' = from (product_high n (2 * x * n) (2 * y * n) (2 * R * h) (2 * R * h') e.above e'.above)
  where
    from : 2 * R * h * (2 * R * h') ≤ 2 * x * n * (2 * y * n) + n * (2 * x * n) + n * (2 * y * n) + n * n
        → 4 * (R * R * (h * h')) ≤ 4 * (n * n * (x * y)) + 2 * (n * n * (x + y)) + n * n
    from t = omega (arith, t)

-- R n (n G) against R n (R z + 3 n), and R n (R z) against R n (n (G + 3)), from their monomials
monomials_low : (R n G z : ℕ) → 0 < R * n → n * n * (R * G) ≤ R * R * (n * z) + 3 * (R * (n * n)) → n * G ≤ R * z + 3 * n
monomials_low R n G z positive h = le_of_mul-le-mul_left {k = R * n} (omega (arith, h)) positive

monomials_high : (R n G z : ℕ) → 0 < R * n → R * R * (n * z) ≤ n * n * (R * G) + 3 * (R * (n * n)) → R * z ≤ n * (G + 3)
monomials_high R n G z positive h = le_of_mul-le-mul_left {k = R * n} (omega (arith, h)) positive

-- the entries C, D of a coarse and c, s of a fine rotation
pub record FourEntries (R n C D c s cl ch sl sh cl' ch' sl' sh' : ℕ) : Type 0 where
  pub some : 1 ≤ R
  pub enough : 2 * R * R ≤ n
  pub cos_coarse : HalfUnit R n C cl ch
  pub sin_coarse : HalfUnit R n D sl sh
  pub cos_fine : HalfUnit R n c cl' ch'
  pub sin_fine : HalfUnit R n s sl' sh'

-- what the scales and the sizes give: 2 R² n ≤ n², n² ≤ R n², and (x + y) n² + (x' + y') n² ≤ 4 R n²
wide : (R n : ℕ) → 2 * R * R ≤ n → 2 * (R * R * n) ≤ n * n
wide R n h = omega (arith, mul-le-mul_right n h)

unit : (R n : ℕ) → 1 ≤ R → n * n ≤ R * (n * n)
unit R n h = omega (arith, mul-le-mul_right (n * n) h)

four : {R x y x' y' : ℕ} (n : ℕ) → x ≤ R → y ≤ R → x' ≤ R → y' ≤ R → n * n * (x + y) + n * n * (x' + y') ≤ 4 * (R * (n * n))
four {R} {x} {y} {x'} {y'} n hx hy hx' hy' =
    let t : x + y + (x' + y') ≤ 4 * R = omega arith in
    omega (arith, mul-le-mul_left (n * n) t)

scale : (R n : ℕ) → 1 ≤ R → 2 * R * R ≤ n → 0 < R * n
scale R n some enough = mul-pos some (omega (arith, mul-le-mul some some))

module _ {R n C D c s cl ch sl sh cl' ch' sl' sh' : ℕ} (e : FourEntries R n C D c s cl ch sl sh cl' ch' sl' sh') (G z : ℕ) where
  pub cosine_low : R * G + D * s ≤ C * c → cl * cl' ≤ n * z + n + sh * sh' → n * G ≤ R * z + 3 * n
  cosine_low hG hz =
      let h₁ = low_ends e.cos_coarse e.cos_fine in
      let h₂ = high_ends e.sin_coarse e.sin_fine in
      let h₃ = four n e.cos_coarse.small e.cos_fine.small e.sin_coarse.small e.sin_fine.small in
      let h₄ = wide R n e.enough in
      let h₅ = unit R n e.some in
      monomials_low R n G z (scale R n e.some e.enough) (omega (arith, mul-le-mul_left (n * n) hG, mul-le-mul_left (R * R) hz))

  pub cosine_high : C * c < R * G + R + D * s → n * z + sl * sl' ≤ ch * ch' + n → R * z ≤ n * (G + 3)
  cosine_high hG hz =
      let h₁ = high_ends e.cos_coarse e.cos_fine in
      let h₂ = low_ends e.sin_coarse e.sin_fine in
      let h₃ = four n e.cos_coarse.small e.cos_fine.small e.sin_coarse.small e.sin_fine.small in
      let h₄ = wide R n e.enough in
      monomials_high R n G z (scale R n e.some e.enough) (omega (arith, mul-le-mul_left (n * n) hG, mul-le-mul_left (R * R) hz))

  pub sine_low : R * G ≤ D * c + C * s → sl * cl' + cl * sl' ≤ n * z + n → n * G ≤ R * z + 3 * n
  sine_low hG hz =
      let h₁ = low_ends e.sin_coarse e.cos_fine in
      let h₂ = low_ends e.cos_coarse e.sin_fine in
      let h₃ = four n e.sin_coarse.small e.cos_fine.small e.cos_coarse.small e.sin_fine.small in
      let h₄ = wide R n e.enough in
      let h₅ = unit R n e.some in
      monomials_low R n G z (scale R n e.some e.enough) (omega (arith, mul-le-mul_left (n * n) hG, mul-le-mul_left (R * R) hz))

  pub sine_high : D * c + C * s < R * G + R → n * z ≤ sh * ch' + ch * sh' + n → R * z ≤ n * (G + 3)
  sine_high hG hz =
      let h₁ = high_ends e.sin_coarse e.cos_fine in
      let h₂ = high_ends e.cos_coarse e.sin_fine in
      let h₃ = four n e.sin_coarse.small e.cos_fine.small e.cos_coarse.small e.sin_fine.small in
      let h₄ = wide R n e.enough in
      monomials_high R n G z (scale R n e.some e.enough) (omega (arith, mul-le-mul_left (n * n) hG, mul-le-mul_left (R * R) hz))

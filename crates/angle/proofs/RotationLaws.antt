-- The sine and the cosine of w from the halves of two numbers, in the machine's arithmetic.
use Rattle.std.proofs.Common.{◌≡◌, ℕ, ◌+◌, ◌-◌, ◌*◌, ◌/◌, ◌%◌, ◌^◌, ◌<◌, ◌≤◌, mul-le-mul, arith}
use Rattle.tables.proofs.Bounds.{bounds}
use Rattle.angle.specs.Steps.{sine, cosine, sine_at, cosine_at}
use Rattle.angle.specs.Rotations.{Rotated}

-- products of numbers of 32 bits fit 64 bits, and so does a sum of two that have a factor of 31 bits each
pub product_fits : (x y : ℕ) → x < 2 ^ 32 → y < 2 ^ 32 → x * y < 2 ^ 64
product_fits x y h k =
    let p : x ≤ 2 ^ 32 - 1 = omega arith in
    let q : y ≤ 2 ^ 32 - 1 = omega arith in
    omega (arith, mul-le-mul p q)

pub sum_fits : (x y u v : ℕ) → x < 2 ^ 31 → y < 2 ^ 32 → u < 2 ^ 32 → v < 2 ^ 31 → x * y + u * v < 2 ^ 64
sum_fits x y u v hx hy hu hv =
    let p : x ≤ 2 ^ 31 - 1 = omega arith in
    let q : y ≤ 2 ^ 32 - 1 = omega arith in
    let r : u ≤ 2 ^ 32 - 1 = omega arith in
    let s : v ≤ 2 ^ 31 - 1 = omega arith in
    omega (arith, mul-le-mul p q, mul-le-mul r s)

lower : (x e : ℕ) → x % 2 ^ 32 ≡ e → e ≤ 2 ^ 30 → x % 2 ^ 31 ≡ e
lower x e is most = omega arith

quotient : (n : ℕ) → n ≤ 2 ^ 60 → n / 2 ^ 30 % 2 ^ 32 ≡ n / 2 ^ 30
quotient n most = omega arith

difference : (d n m : ℕ) → d < 2 ^ 64 → (d + m) % 2 ^ 64 ≡ n → m ≤ n → n ≤ 2 ^ 60 → d / 2 ^ 30 % 2 ^ 32 ≡ (n - m) / 2 ^ 30
difference d n m fits is order most = omega arith

module _ {w coarse fine : ℕ} (r : Rotated w coarse fine) where
  pub sine_from : (coarse % 2 ^ 31 * (fine / 2 ^ 32) + coarse / 2 ^ 32 * (fine % 2 ^ 31)) / 2 ^ 30 % 2 ^ 32 ≡ sine_at w
  unfolding sine_at sine
  sine_from =
      rw (lower _ _ r.sin_coarse_lem (bounds.sin_coarse_lem _), lower _ _ r.sin_fine_lem (bounds.sin_fine_lem _), r.cos_coarse_lem, r.cos_fine_lem)
      (quotient _ (bounds.sine _ _))

  pub cosine_from : (d : ℕ) → d < 2 ^ 64 → (d + coarse % 2 ^ 32 * (fine % 2 ^ 32)) % 2 ^ 64 ≡ coarse / 2 ^ 32 * (fine / 2 ^ 32)
      → d / 2 ^ 30 % 2 ^ 32 ≡ cosine_at w
  unfolding cosine_at cosine
  cosine_from d fits is =
      difference d _ _ fits (rw (r.sin_coarse_lem, r.sin_fine_lem, r.cos_coarse_lem, r.cos_fine_lem) at is) (bounds.cosine _ _)
      (mul-le-mul (bounds.cos_coarse_lem _) (bounds.cos_fine_lem _))

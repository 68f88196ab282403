-- The ranges of the sine and the cosine at the tables, from the tables' bounds.
use Rattle.std.proofs.Common.{ℕ, ◌/◌, ◌%◌, ◌^◌, ◌≤◌, pos, neg_ℤ, nat_abs, mul-le-mul, arith}
use Rattle.exact.proofs.MemberLaws.{turn_keeps}
use Rattle.tables.proofs.Bounds.{bounds}
use Rattle.angle.specs.Steps.{coarse_angle, fine_angle, sine, cosine, sine_at, cosine_at, signed_of}
use Rattle.signs.proofs.Sizes.{nat_abs_neg}

pub sine_range : (w : ℕ) → sine_at w ≤ 2 ^ 30
unfolding sine_at sine
sine_range w = omega (arith, bounds.sine (coarse_angle w) (fine_angle w))

pub cosine_range : (w : ℕ) → cosine_at w ≤ 2 ^ 30
unfolding cosine_at cosine
cosine_range w =
    let product = mul-le-mul (bounds.cos_coarse_lem (coarse_angle w)) (bounds.cos_fine_lem (fine_angle w)) in
    omega (arith, product)

pub signed_range : (v : ℕ) → (nat_abs (signed_of v).0 ≤ 2 ^ 30) × (nat_abs (signed_of v).1 ≤ 2 ^ 30)
unfolding signed_of
signed_range v =
    turn_keeps neg_ℤ neg_ℤ (λ x y. nat_abs x ≤ 2 ^ 30) (λ x y h. rw (nat_abs_neg x) h) (v / 16384) _ (pos 0, pos 0)
    (sine_range (v % 16384)) (cosine_range (v % 16384))

-- The mean square of a sample over all inputs.
use mathlib.Core.Path.{◌≡◌}
use mathlib.Core.Bool.{Bool, ◌&&◌}
use mathlib.Core.List.{List, zip_with}
use Prim.Native.Nat.{ℕ, ◌+◌, ◌-◌, ◌*◌, ◌^◌, ◌≤◌, ◌<◌}
use native.Mathlib.Nat.{mul-pos, mul-le-mul_left, mul-le-mul_right, le_of_mul-le-mul_left, div-add-mod, mod-lt}
use native.Mathlib.Omega.{arith}
use lib.Dec.{T, leb, leb→le}
use lib.ListN.{length}
use lib.Pow.{pow_pos}
use store.Enc.{and_l, and_r}
use Rattle.tables.specs.Values.{cos_coarse_list, sin_coarse_list, cos_fine_list, sin_fine_list}
use Rattle.radius.specs.Steps.{number_bits, radius_of}
use Rattle.box_muller.specs.Steps.{fraction_bits, fraction_bits18, size}
use Rattle.tails.specs.Counts.{sum_below, sum_inputs}
use Rattle.tails.specs.Variances.{first_square, bounds, bounds18, VarianceWithin, Variances}
use Rattle.tails.proofs.EachAngle.{halves}
use Rattle.tails.proofs.Angles.{sum_over, grid, cosines_of, sines_of, cosines, sines, cosines_length, sines_length, by_entries, inputs_by_angles}
use Rattle.tails.proofs.RadiusSquares.{radius_most, radius_least, squares_high, squares_low, sum_high, squares_high_lem, squares_low_lem, sum_high_lem}
use Rattle.tails.proofs.Roundings.{sum_most, sum_least, itself, squared, list_most, list_least}
use Rattle.tails.proofs.Symmetry.{inputs_turned}

-- the sum over all k of the squares of the samples of a sine or cosine g
abbrev squares_at : ℕ → ℕ → ℕ
squares_at f g = sum_below (2 ^ number_bits) (λ k. size f (radius_of k) g * size f (radius_of k) g)

-- ---- arithmetic: Q and P are the sums over the sizes g of all sines and cosines of a quarter, of g² and of g; w is (2 H)²

together_most : (w H a b p q S S' F E A B R : ℕ) → w * S ≤ F * a + 2 * H * (E * p) + R → w * S' ≤ F * b + 2 * H * (E * q) + R → F ≤ A → E ≤ B
    → w * (S + S') ≤ A * (a + b) + 2 * H * (B * (p + q)) + 2 * R
together_most w H a b p q S S' F E A B R h h' f e =
    omega (arith, h, h', mul-le-mul_right (a + b) f, mul-le-mul_left (2 * H) (mul-le-mul_right (p + q) e))

together_least : (w H a b p q S S' F E A B : ℕ) → F * a ≤ w * S + 2 * H * (E * p) → F * b ≤ w * S' + 2 * H * (E * q) → A ≤ F → E ≤ B
    → A * (a + b) ≤ w * (S + S') + 2 * H * (B * (p + q))
together_least w H a b p q S S' F E A B h h' f e =
    omega (arith, h, h', mul-le-mul_right (a + b) f, mul-le-mul_left (2 * H) (mul-le-mul_right (p + q) e))

scaled_most : (w N X c high : ℕ) → 0 < w → w * N ≤ X → c * (2 * X) ≤ w * high → c * (2 * N) ≤ high
scaled_most w N X c high some h t = le_of_mul-le-mul_left {k = w} (omega (arith, mul-le-mul_left (2 * c) h, t)) some

scaled_least : (w N X Y c low : ℕ) → 0 < w → X ≤ w * N + Y → w * low + c * (2 * Y) ≤ c * (2 * X) → low ≤ c * (2 * N)
scaled_least w N X Y c low some h t = le_of_mul-le-mul_left {k = w} (omega (arith, mul-le-mul_left (2 * c) h, t)) some

-- ---- the test, and what it says

module _ (H low high : ℕ) where
  close_low : ℕ → ℕ → Bool
  close_low Q P = leb (2 * H * (2 * H) * low + 100_000 * (2 * (2 * H * (sum_high * P)))) (100_000 * (2 * (squares_low * Q)))

  close_high : ℕ → ℕ → Bool
  close_high Q P = leb (100_000 * (2 * (squares_high * Q + 2 * H * (sum_high * P) + 2 * (2 ^ number_bits * (H * H) * 16384)))) (2 * H * (2 * H) * high)

  close : List ℕ → List ℕ → Bool
  close cs ss =
      let Q : ℕ = sum_over squared cs + sum_over squared ss in
      let P : ℕ = sum_over itself cs + sum_over itself ss in
      close_low Q P && close_high Q P

module _ (f : ℕ) (few : f ≤ 49) where
  abbrev H : ℕ
  H = 2 ^ (49 - f)

  near : (F g : ℕ) → (2 * H * size f F g ≤ F * g + H) × (F * g < 2 * H * size f F g + H)
  unfolding size
  near F g =
      let d = rw (halves f few) at (div-add-mod (F * g + H) (2 ^ (50 - f))) in
      let m = rw (halves f few) at (mod-lt (F * g + H) (pow_pos (50 - f))) in
      rw (halves f few) (omega (arith, d, m), omega (arith, d, m))

  list_high : (gs : List ℕ) → 2 * H * (2 * H) * sum_over (squares_at f) gs
      ≤ sum_below (2 ^ number_bits) (λ k. radius_of k * radius_of k) * sum_over squared gs + 2 * H * (sum_below (2 ^ number_bits) radius_of * sum_over itself gs)
      + 2 ^ number_bits * (H * H) * length gs
  list_high =
      list_most (2 * H * (2 * H)) H _ _ (2 ^ number_bits) (squares_at f)
      (λ g. sum_most H g radius_of (λ k. size f (radius_of k) g) (2 ^ number_bits) (λ k. (near (radius_of k) g).0))

  list_low : (gs : List ℕ) → sum_below (2 ^ number_bits) (λ k. radius_of k * radius_of k) * sum_over squared gs
      ≤ 2 * H * (2 * H) * sum_over (squares_at f) gs + 2 * H * (sum_below (2 ^ number_bits) radius_of * sum_over itself gs)
  list_low =
      list_least (2 * H * (2 * H)) H _ _ (2 ^ number_bits) (squares_at f)
      (λ g. sum_least H g radius_of (λ k. size f (radius_of k) g) (2 ^ number_bits) (λ k. (near (radius_of k) g).1))

  width_pos : 0 < 2 * H * (2 * H)
  width_pos = mul-pos (twice_pos (pow_pos (49 - f))) (twice_pos (pow_pos (49 - f)))
    where
      twice_pos : {x : ℕ} → 0 < x → 0 < 2 * x
      twice_pos h = omega arith

  abbrev N : ℕ
  N = sum_over (squares_at f) cosines + sum_over (squares_at f) sines

  abbrev Q : ℕ
  Q = sum_over squared cosines + sum_over squared sines

  abbrev P : ℕ
  P = sum_over itself cosines + sum_over itself sines

  all_high : 2 * H * (2 * H) * N ≤ squares_high * Q + 2 * H * (sum_high * P) + 2 * (2 ^ number_bits * (H * H) * 16384)
  all_high =
      together_most (2 * H * (2 * H)) H _ _ _ _ (sum_over (squares_at f) cosines) (sum_over (squares_at f) sines) _ _ squares_high sum_high (2 ^ number_bits * (H * H) * 16384)
      (rw cosines_length at (list_high cosines)) (rw sines_length at (list_high sines)) squares_high_lem sum_high_lem

  all_low : squares_low * Q ≤ 2 * H * (2 * H) * N + 2 * H * (sum_high * P)
  all_low =
      together_least (2 * H * (2 * H)) H _ _ _ _ (sum_over (squares_at f) cosines) (sum_over (squares_at f) sines) _ _ squares_low sum_high
      (list_low cosines) (list_low sines) squares_low_lem sum_high_lem

  -- at the tables' entries, so that antt computes it
  within : (low high : ℕ)
      → T (close H (low * (2 ^ (2 * f) * 2 ^ 64)) (high * (2 ^ (2 * f) * 2 ^ 64)) (cosines_of cos_coarse_list sin_coarse_list cos_fine_list sin_fine_list)
      (sines_of cos_coarse_list sin_coarse_list cos_fine_list sin_fine_list))
      → VarianceWithin (low, high) f
  unfolding close close_low close_high
  within low high tested =
      let a = low * (2 ^ (2 * f) * 2 ^ 64) in
      let b = high * (2 ^ (2 * f) * 2 ^ 64) in
      let t : T (close H a b cosines sines) = by_entries (λ C D c s. T (close H a b (cosines_of C D c s) (sines_of C D c s))) tested in
      let l = leb→le _ _ (and_l (close_low H a b Q P) _ t) in
      let h = leb→le _ _ (and_r (close_low H a b Q P) _ t) in
      let all : sum_inputs f first_square ≡ 2 * N = inputs_by_angles f (λ x. x * x) in
      rw all (
        scaled_least (2 * H * (2 * H)) N _ _ 100_000 a width_pos all_low l,
        scaled_most (2 * H * (2 * H)) N _ 100_000 b width_pos all_high h,
      )

pub variances : Variances
unfolding close close_low close_high sum_over grid zip_with
variances = record {
  radius_most = radius_most;
  radius_least = radius_least;
  variance = within fraction_bits (omega arith) bounds.0 bounds.1 tt;
  variance18 = within fraction_bits18 (omega arith) bounds18.0 bounds18.1 tt;
  second = λ f few. inputs_turned f few first_square;
}

-- The half-angle and the addition formulas hold in the limit, of the high ends of the enclosures.
use mathlib.Core.Path.{◌≡◌, ap}
use Prim.Native.Nat.{ℕ, zero, suc, ◌+◌, ◌-◌, ◌*◌, ◌^◌, ◌≤◌, ◌<◌, min}
use native.Mathlib.Nat.{le_refl, min-le_right, div-mul-le_self, mul-le-mul, mul-le-mul_left, mul-le-mul_right}
use native.Mathlib.Omega.{arith}
use lib.Pow.{pow_pos}
use Rattle.exact.specs.Root.{root_up}
use Rattle.exact.specs.Rotation.{Rotation, quotient_up, half, compose}
use Rattle.exact.proofs.RootLaws.{lt_of_square_lt, root_down_at_most, root_down_le_root_up, root_up_at_least}
use Rattle.exact.proofs.RootLaws.{root_up_previous}
use Rattle.exact.proofs.RotationLaws.{Good, good_half, quotient_up_at_least, scaled_min}
use Rattle.exact.proofs.Limit.{Below, below_sum, below_by, below_slack, below_times, below_halve, below_excess, below_root}

-- a rotation at every n, and the high ends of its cosine and its sine
abbrev pub Family : Type 0
Family = ℕ → Rotation

abbrev pub cos : Family → ℕ → ℕ
cos r n = (r n).cos_high

abbrev pub sin : Family → ℕ → ℕ
sin r n = (r n).sin_high

abbrev pub half_of : Family → Family
half_of r n = half n (r n)

abbrev pub compose_of : Family → Family → Family
compose_of f t n = compose n (f n) (t n)

-- every enclosure is good, and the widths fall to 0
pub record Sound (r : Family) : Type 0 where
  pub good : (n : ℕ) → Good n (r n)
  pub cosine : Below 1 (cos r) (λ n. (r n).cos_low)
  pub sine : Below 1 (sin r) (λ n. (r n).sin_low)

-- the high ends have a length of at least 1
abbrev pub Long : Family → Type 0
Long r = (n : ℕ) → 2 ^ n * 2 ^ n ≤ cos r n * cos r n + sin r n * sin r n

-- the cosine of f and t together is at least 0
abbrev pub Acute : Family → Family → Type 0
Acute f t = Below 2 (λ n. sin f n * sin t n) (λ n. cos f n * cos t n)

-- an inequality times 1, a cosine or a sine
pub times_one : {d : ℕ} {f g : ℕ → ℕ} → Below d f g → Below (suc d) (λ n. f n * 2 ^ n) (λ n. g n * 2 ^ n)
times_one = below_times (λ n. 2 ^ n) (λ n. le_refl _)

pub times_cos : {r : Family} {d : ℕ} {f g : ℕ → ℕ} → Sound r → Below d f g →
    Below (suc d) (λ n. f n * cos r n) (λ n. g n * cos r n)
times_cos {r} w = below_times (cos r) (λ n. (w.good n).cosine_most)

pub times_sin : {r : Family} {d : ℕ} {f g : ℕ → ℕ} → Sound r → Below d f g →
    Below (suc d) (λ n. f n * sin r n) (λ n. g n * sin r n)
times_sin {r} w = below_times (sin r) (λ n. (w.good n).sine_most)

-- twice the square of a root rounded up
root_up_close : (N m : ℕ) → zero < N → root_up m ≤ N → 2 * (root_up m * root_up m) ≤ m + 8 * N
root_up_close N m p l =
    let x = root_up_previous m in
    let y = root_down_le_root_up (le_refl m) in
    omega (arith, mul-le-mul x x, root_down_at_most m)

-- h is half of r: 2 cos² h = 1 + cos r, 2 sin² h = 1 - cos r
module _ (r : Family) (w : Sound r) where
  half_cos_least : (n : ℕ) → 2 ^ n * 2 ^ n + 2 ^ n * cos r n ≤ 2 * (cos (half_of r) n * cos (half_of r) n)
  unfolding half
  half_cos_least n = omega (arith, root_up_at_least ((2 ^ n + cos r n) * 2 ^ n))

  half_cos_most : Below 2 (λ n. 2 * (cos (half_of r) n * cos (half_of r) n)) (λ n. 2 ^ n * 2 ^ n + 2 ^ n * cos r n)
  unfolding half
  half_cos_most = below_slack (λ n.
      let most = (good_half n (w.good n)).cosine_most in
      omega (arith, root_up_close (2 ^ n) ((2 ^ n + cos r n) * 2 ^ n) (pow_pos n) most))

  half_sin_least : (n : ℕ) → 2 ^ n * 2 ^ n ≤ 2 * (sin (half_of r) n * sin (half_of r) n) + 2 ^ n * cos r n
  unfolding half
  half_sin_least n =
      let l : 2 ^ n ≤ 2 ^ n - (r n).cos_low + cos r n = omega (arith, (w.good n).cosine) in
      omega (arith, root_up_at_least ((2 ^ n - (r n).cos_low) * 2 ^ n), mul-le-mul_right (2 ^ n) l)

  half_sin_most : Below 2 (λ n. 2 * (sin (half_of r) n * sin (half_of r) n) + 2 ^ n * cos r n) (λ n. 2 ^ n * 2 ^ n)
  unfolding half
  half_sin_most = below_by (below_sum (below_slack root) (times_one w.cosine)) (λ n.
      let l : 2 ^ n - (r n).cos_low + (r n).cos_low ≤ 2 ^ n = omega (arith, w.good n) in
      omega (arith, mul-le-mul_right (2 ^ n) l))
    where
      root : (n : ℕ) → 2 * (sin (half_of r) n * sin (half_of r) n) ≤ (2 ^ n - (r n).cos_low) * 2 ^ n + 8 * 2 ^ n
      root n = root_up_close (2 ^ n) ((2 ^ n - (r n).cos_low) * 2 ^ n) (pow_pos n) (good_half n (w.good n)).sine_most

  -- cos h is at least 1/2
  pub half_cos_half : (n : ℕ) → 2 ^ n ≤ 2 * cos (half_of r) n
  half_cos_half n =
      let l = lt_of_square_lt (2 ^ n) (2 * cos (half_of r) n + 1) (omega (arith, half_cos_least n)) in
      omega arith

  pub half_long : Long (half_of r)
  half_long n = omega (arith, half_cos_least n, half_sin_least n)

  -- cos r = cos² h - sin² h, and sin r is at least 2 sin h cos h
  pub double_cos_least :
      Below 2 (λ n. cos (half_of r) n * cos (half_of r) n) (λ n. 2 ^ n * cos r n + sin (half_of r) n * sin (half_of r) n)
  double_cos_least = below_halve (below_by half_cos_most (λ n. omega (arith, half_sin_least n)))

  pub double_cos_most :
      Below 2 (λ n. 2 ^ n * cos r n + sin (half_of r) n * sin (half_of r) n) (λ n. cos (half_of r) n * cos (half_of r) n)
  double_cos_most = below_halve (below_by half_sin_most (λ n. omega (arith, half_cos_least n)))

  -- (2 sin h cos h)² = (1 - cos r) (1 + cos r), which is at most sin² r
  pub double_sin_least : Long r → Below 2 (λ n. 2 * (sin (half_of r) n * cos (half_of r) n)) (λ n. 2 ^ n * sin r n)
  double_sin_least long =
      let c : ℕ → ℕ = cos (half_of r) in
      let u : ℕ → ℕ = λ n. 2 ^ n - cos r n in
      let most : (n : ℕ) → c n ≤ 2 ^ n = λ n. (good_half n (w.good n)).cosine_most in
      let x = below_times c most (below_times c most half_sin_most) in
      let y = times_one (below_times u (λ n. omega arith) half_cos_most) in
      below_root (below_by (below_sum (below_sum x x) y) (λ n.
      let one : 2 ^ n ≡ u n + cos r n = omega (arith, (w.good n).cosine_most) in
      let a = ap (λ m. m * (2 ^ n * (c n * c n))) one in
      let b = ap (λ m. m * (2 ^ n * (2 ^ n * 2 ^ n + 2 ^ n * cos r n))) one in
      omega (arith, a, b, mul-le-mul_left (2 ^ n * 2 ^ n) (long n))))

-- a composition has the cosine and the sine of the addition formulas, where f and t sum to at most a quarter turn
module _ (f t : Family) (v : Sound f) (w : Sound t) where
  pub compose_cos_least : (n : ℕ) → cos f n * cos t n ≤ 2 ^ n * cos (compose_of f t) n + sin f n * sin t n
  unfolding compose
  compose_cos_least n =
      let N : ℕ = 2 ^ n in
      let b : ℕ = cos f n * cos t n - (f n).sin_low * (t n).sin_low in
      let most = mul-le-mul (v.good n).cosine_most (w.good n).cosine_most in
      let up = quotient_up_at_least b N (pow_pos n) in
      let least = scaled_min N N (quotient_up b N) b (omega (arith, most)) (omega (arith, up)) in
      omega (arith, least, mul-le-mul (v.good n).sine (w.good n).sine)

  -- the product of the sines by high ends is that by low ends
  sines : Below 2 (λ n. sin f n * sin t n) (λ n. (f n).sin_low * (t n).sin_low)
  sines =
      let least : (n : ℕ) → (f n).sin_low ≤ 2 ^ n = λ n. omega (arith, v.good n) in
      below_by (below_sum (times_sin w v.sine) (below_times (λ n. (f n).sin_low) least w.sine)) (λ n. omega arith)

  ceiling_most : (n b : ℕ) → 2 ^ n * min (2 ^ n) (quotient_up b (2 ^ n)) ≤ b + 8 * 2 ^ n
  ceiling_most n b =
      let up = div-mul-le_self (b + (2 ^ n - 1)) (2 ^ n) in
      omega (arith, up, mul-le-mul_left (2 ^ n) (min-le_right (2 ^ n) (quotient_up b (2 ^ n))))

  pub compose_cos_most : Acute f t → Below 2 (λ n. 2 ^ n * cos (compose_of f t) n + sin f n * sin t n) (λ n. cos f n * cos t n)
  unfolding compose
  compose_cos_most a =
      let up = below_slack (λ n. ceiling_most n (cos f n * cos t n - (f n).sin_low * (t n).sin_low)) in
      below_by (below_sum up (below_sum sines (below_excess a)))
      (λ n. omega (arith, mul-le-mul (v.good n).sine (w.good n).sine))

  pub compose_sin_most : Below 2 (λ n. 2 ^ n * sin (compose_of f t) n) (λ n. sin f n * cos t n + cos f n * sin t n)
  unfolding compose
  compose_sin_most = below_slack (λ n. ceiling_most n (sin f n * cos t n + cos f n * sin t n))

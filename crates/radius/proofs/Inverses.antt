-- The inverse of a divisor h (65536 + i) from the reciprocal of h, and the quotient by way of it.
use Rattle.std.proofs.Common.{◌≡◌, ℕ, ◌+◌, ◌*◌, ◌/◌, ◌%◌, ◌^◌, ◌<◌, ◌≤◌, refl, ap, le_of_lt, mul-le-mul_right, mod-eq_of_lt, div-lt_iff_lt-mul, mul-le-mul, le_antisymm, mul-le-mul_left, lt_of_not-le, le-div_iff_mul-le, arith}
use native.Mathlib.Decide.{dec_le}
use Rattle.tables.specs.Tables.{entry_of}
use Rattle.log_coarse_lookup.specs.Reciprocals.{reciprocals}
use Rattle.log_coarse_lookup.proofs.Quotients.{reciprocal_is, product_is}
use Rattle.radius.specs.Cells.{NearInverse}

-- ---- (1 - t) (1 + t^2) (1 + t) is 1 - t^4: X is half of 2^32 + q, q = i^2, and p is 2^32 - q
product_near : (X p q : ℕ) → p + q ≡ 2 ^ 32 → q ≤ 2 ^ 16 → X ≡ 2 ^ 31 + q / 2 → (X * p ≤ 2 ^ 63) × (2 ^ 63 ≤ X * p + 2 ^ 32)
product_near X p q sum small half =
    let most : 2 * X ≤ 2 ^ 32 + q = omega arith in
    let least : 2 ^ 32 + q ≤ 2 * X + 1 = omega arith in
    let upper = mul-le-mul_right p most in
    let lower = mul-le-mul_right p least in
    let squares : q * q ≤ 2 ^ 16 * 2 ^ 16 = mul-le-mul small small in
    let times : (p + q) * q ≡ 2 ^ 32 * q = ap (λ t. t * q) sum in
    (omega (arith, upper, times), least_of (X * p) (2 ^ 32 * p) (2 ^ 32 * q) p (p * q) (q * q) (omega (arith, lower)) (omega (arith, times)) (omega arith) (omega arith) (omega arith))
  where
    least_of : (Y a b p m s : ℕ) → a + m ≤ 2 * Y + p → m + s ≡ b → a + b ≡ 2 ^ 64 → s ≤ 2 ^ 32 → p ≤ 2 ^ 32 → 2 ^ 63 ≤ Y + 2 ^ 32
    least_of Y a b p m s one two three four five = omega arith

-- ---- the inverse of 65536 + i at 2^45
module _ (i X c : ℕ) (half : X ≡ 2 ^ 31 + i * i / 2) (sum : c + i ≡ 65536) (small : i < 256) where
  abbrev w : ℕ
  w = 65536 + i

  abbrev fine : ℕ
  fine = X * c / 2 ^ 18

  square_at_most : i * i ≤ 2 ^ 16
  square_at_most = omega (arith, mul-le-mul small small)

  -- 2^32 less the square
  less_square : c * w + i * i ≡ 2 ^ 32
  less_square =
      let one : c * (c + i) ≡ c * 65536 = ap (λ t. c * t) sum in
      let two : i * (c + i) ≡ i * 65536 = ap (λ t. i * t) sum in
      omega (arith, one, two, sum)

  fine_near : (fine * w ≤ 2 ^ 45) × (2 ^ 45 ≤ fine * w + 90000)
  fine_near =
      let near = product_near X (c * w) (i * i) less_square square_at_most half in
      let below : fine * 2 ^ 18 ≤ X * c = omega arith in
      let above : X * c ≤ fine * 2 ^ 18 + 2 ^ 18 = omega arith in
      let low = mul-le-mul_right w below in
      let high = mul-le-mul_right w above in
      scaled fine w X c low high near.0 near.1 (omega arith)
    where
      scaled :
          (f w X c : ℕ) → f * 2 ^ 18 * w ≤ X * c * w → X * c * w ≤ (f * 2 ^ 18 + 2 ^ 18) * w → X * (c * w) ≤ 2 ^ 63 → 2 ^ 63 ≤ X * (c * w) + 2 ^ 32 →
          w < 65792 → (f * w ≤ 2 ^ 45) × (2 ^ 45 ≤ f * w + 90000)
      scaled f w X c low high most least few = (omega arith, omega arith)

-- ---- and with the reciprocal R of h that of h (65536 + i) at 2^53: a is the inverse of w
joined :
    (R h a w v : ℕ) → 2 ^ 39 ≤ R * h → R * h ≤ 2 ^ 39 + 2 ^ 9 → a * w ≤ 2 ^ 45 → 2 ^ 45 ≤ a * w + 90000 → h * w < 2 ^ 25 + 2 ^ 17 → v ≡ R * a / 2 ^ 31 →
    NearInverse v (h * w)
joined R h a w v least most few near small is =
    let below : v * 2 ^ 31 ≤ R * a = omega arith in
    let above : R * a ≤ v * 2 ^ 31 + 2 ^ 31 = omega arith in
    let low = mul-le-mul_right (h * w) below in
    let high = mul-le-mul_right (h * w) above in
    let upper : R * h * (a * w) ≤ (2 ^ 39 + 2 ^ 9) * 2 ^ 45 = mul-le-mul most few in
    let lower : 2 ^ 39 * 2 ^ 45 ≤ R * h * (a * w + 90000) = mul-le-mul least near in
    record {
      low = omega (arith, high, lower);
      high = omega (arith, low, upper);
    }

pub inverse_near :
    (R i h X c : ℕ) → i < 256 → 256 ≤ h → h < 512 → R ≡ entry_of reciprocals 256 h → X ≡ 2 ^ 31 + i * i / 2 → c + i ≡ 65536 →
    NearInverse (R * (X * c / 2 ^ 18) / 2 ^ 31) (h * (65536 + i))
inverse_near R i h X c small least most is half sum =
    let fine = fine_near i X c half sum small in
    let product = product_is h (omega arith) in
    let divisor : h * (65536 + i) < 2 ^ 25 + 2 ^ 17 = omega (arith, mul-le-mul most small) in
    joined R h _ (65536 + i) _
    (rw (is, reciprocal_is h least most) product.0) (rw (is, reciprocal_is h least most) (omega (arith, product.1, most)))
    fine.0 fine.1 divisor refl

-- ---- The ranges on the way
pub square_small : (i : ℕ) → i < 256 → i * i < 2 ^ 16
square_small i small = omega (arith, mul-le-mul small small)

module _ (R X c : ℕ) (few : R < 2 ^ 32) (X-few : X ≤ 2 ^ 31 + 2 ^ 16) (c-few : c ≤ 2 ^ 16) where
  pub product_fits : X * c < 2 ^ 64
  product_fits = omega (arith, mul-le-mul X-few c-few)

  result_small : R * (X * c / 2 ^ 18) < 2 ^ 62
  result_small =
      let fine : X * c / 2 ^ 18 ≤ 2 ^ 29 + 2 ^ 14 = omega (arith, mul-le-mul X-few c-few) in
      omega (arith, mul-le-mul few fine)

  pub result_fits : R * (X * c / 2 ^ 18) < 2 ^ 64
  result_fits = omega (arith, result_small)

  pub inverse_small : R * (X * c / 2 ^ 18) / 2 ^ 31 < 2 ^ 31
  inverse_small = omega (arith, result_small)

module _ (x d v half : ℕ) (few : x < 2 ^ 32) (d-few : d < 2 ^ 32) (v-few : v < 2 ^ 31) (half-few : half < 2 ^ 63) where
  halved_small : x * v ≤ 2 ^ 63
  halved_small = omega (arith, mul-le-mul few v-few)

  pub halved_fits : x * v < 2 ^ 64
  halved_fits = omega (arith, halved_small)

  pub sum_fits : x * v + half < 2 ^ 64
  sum_fits = omega (arith, halved_small)

  pub multiple_fits : (x * v + half) / 2 ^ 36 * d < 2 ^ 64
  multiple_fits =
      let nearest : (x * v + half) / 2 ^ 36 ≤ 2 ^ 28 = omega (arith, halved_small) in
      omega (arith, mul-le-mul nearest d-few)

-- ---- The quotient: the nearest number to the product with the inverse is the quotient, or one more where that has too many divisors
most_of : (y d m x : ℕ) → 2 ^ 36 * m ≤ y + 2 ^ 35 * d → y ≤ 2 ^ 53 * x + 2 ^ 34 * d → m ≤ 2 ^ 17 * x + d
most_of y d m x times product = omega arith

least_of : (y d m x : ℕ) → y + 2 ^ 35 * d ≤ 2 ^ 36 * m → 2 ^ 53 * x ≤ y + 2 ^ 34 * d → 2 ^ 19 * x + d ≤ 4 * m
least_of y d m x times product = omega arith

module _ (r d v : ℕ) (few : r < 2 ^ 33) (least : 2 ^ 24 ≤ d) (near : NearInverse v d) where
  abbrev x : ℕ
  x = r / 2

  abbrev N : ℕ
  N = (x * v + 2 ^ 35) / 2 ^ 36

  half_small : 2 ^ 26 * x ≤ 2 ^ 34 * d
  half_small = omega (arith, few, least)

  pub nearest_most : N * d ≤ r * 2 ^ 16 + d
  nearest_most =
      let below : N * 2 ^ 36 ≤ x * v + 2 ^ 35 = omega arith in
      let times = mul-le-mul_right d below in
      let product = mul-le-mul_left x near.high in
      let most = most_of (x * v * d) d (N * d) x (omega (arith, times)) (omega (arith, product, half_small)) in
      omega (arith, most)

  pub nearest_least : r * 2 ^ 16 < (N + 1) * d
  nearest_least =
      let above : x * v + 2 ^ 35 ≤ (N + 1) * 2 ^ 36 = omega arith in
      let times = mul-le-mul_right d above in
      let product = mul-le-mul_left x near.low in
      let four = least_of (x * v * d) d ((N + 1) * d) x (omega (arith, times)) (omega (arith, product, half_small)) in
      omega (arith, four, least)

-- the sign bit of the difference, mod 2^64, tells which
unique : (n d q : ℕ) → 0 < d → q * d ≤ n → n < (q + 1) * d → q ≡ n / d
unique n d q some low high =
    let below : n / d < q + 1 = (div-lt_iff_lt-mul some).1 high in
    le_antisymm ((le-div_iff_mul-le some).1 low) (omega (arith, below))

by_sign :
    (n d N b s : ℕ) → 0 < d → d < 2 ^ 25 → n < 2 ^ 49 → N < 2 ^ 64 → N * d ≤ n + d → n < (N + 1) * d → (b + N * d) % 2 ^ 64 ≡ n → b < 2 ^ 64 →
    (s + b / 2 ^ 63) % 2 ^ 64 ≡ N → s < 2 ^ 64 → s ≡ n / d
by_sign n d N b s some few small fits most least difference b-fits less s-fits = go (dec_le (N * d) n)
  where
    go : Dec (N * d ≤ n) → s ≡ n / d
    go (yes le) =
        let same : s ≡ N = omega arith in
        unique n d s some (rw same le) (rw same least)
    go (no gt) =
        let one : b / 2 ^ 63 ≡ 1 = omega arith in
        let some_more : 0 < N = lt_of_not-le λ (none : N ≤ 0). gt (omega (arith, mul-le-mul_right d none)) in
        let next : s + 1 ≡ N = omega arith in
        unique n d s some (omega (arith, ap (λ t. t * d) next)) (rw next (omega arith))

halves : (r : ℕ) → r < 2 ^ 33 → (r / 2 % 2 ^ 32 ≡ r / 2) × (r / 2 ≤ 2 ^ 32) × (r * 2 ^ 16 < 2 ^ 49)
halves r few = (omega arith, omega arith, omega arith)

pub correction_by :
    (r d v b s half : ℕ) → r < 2 ^ 33 → 2 ^ 24 ≤ d → d < 2 ^ 25 → NearInverse v d → v < 2 ^ 31 → half ≡ 2 ^ 35 →
    (b + (r / 2 % 2 ^ 32 * v + half) / 2 ^ 36 * d) % 2 ^ 64 ≡ r * 2 ^ 16 % 2 ^ 64 → b < 2 ^ 64 →
    (s + b / 2 ^ 63) % 2 ^ 64 ≡ (r / 2 % 2 ^ 32 * v + half) / 2 ^ 36 → s < 2 ^ 64 → s ≡ r * 2 ^ 16 / d
correction_by r d v b s half few least most near v-small half_is difference b-fits less s-fits =
    let (whole, below, small) = halves r few in
    let kept : r * 2 ^ 16 % 2 ^ 64 ≡ r * 2 ^ 16 = mod-eq_of_lt (fits_on _ small) in
    by_sign (r * 2 ^ 16) d (N r d v few least near) b s (positive d least) most small (quotient_fits _ (mul-le-mul below (le_of_lt v-small)))
    (nearest_most r d v few least near) (nearest_least r d v few least near)
    (rw (whole, kept, half_is) at difference) b-fits (rw (whole, half_is) at less) s-fits
  where
    fits_on : (n : ℕ) → n < 2 ^ 49 → n < 2 ^ 64
    fits_on n h = omega arith

    positive : (d : ℕ) → 2 ^ 24 ≤ d → 0 < d
    positive d h = omega arith

    quotient_fits : (n : ℕ) → n ≤ 2 ^ 32 * 2 ^ 31 → (n + 2 ^ 35) / 2 ^ 36 < 2 ^ 64
    quotient_fits n h = omega arith

-- The cell of a k: 2^15 M from e, i by the reciprocal of h, and 2Q from what the cell says.
use Rattle.std.proofs.Common.{◌≡◌, ℕ, ◌+◌, ◌-◌, ◌*◌, ◌/◌, ◌%◌, ◌^◌, ◌<◌, ◌≤◌, get_or, ap, ◌∙◌, ap₂, mul-le-mul_right, mod-eq_of_lt, mul_comm, arith}
use native.Mathlib.Decide.{dec_le}
use native.Mathlib.Nat.{div-div-eq-div-mul}
use Rattle.tables.specs.Tables.{entry_of, log_coarse, log_fine, ln_two}
use Rattle.tables.proofs.Bounds.{bounds}
use Rattle.log_coarse_lookup.specs.Reciprocals.{reciprocals}
use Rattle.log_coarse_lookup.proofs.Quotients.{quotient_is}
use Rattle.log_fine_lookup.proofs.Entries.{fine_entry}
use Rattle.radius.specs.Steps.{number_bits, width, numerator, top_bit, mantissa, coarse_index, rest, fine_index, remainder, correction, logarithm, under_root}
use Rattle.radius.specs.Cells.{InCell, NearInverse}
use Rattle.radius.proofs.StepLaws.{top_at, mantissa_at, mantissa_split, coarse_range, fine_range, rest_split, correction_range}

-- ---- Over plain numbers

-- the parts of 2^15 M + i
record Parts (place h i r : ℕ) : Type 0 where
  low : place % 256 ≡ i
  top : place / 2 ^ 55 ≡ h
  divisor_least : 2 ^ 24 ≤ h * (65536 + i)
  divisor_small : h * (65536 + i) < 2 ^ 25
  remainder_small : r < 2 ^ 33
  left : (q : ℕ) → q < 2 ^ 64 → (q + h * (65536 + i) * 2 ^ 39) % 2 ^ 64 ≡ place → q / 2 ^ 15 ≡ r

left_is : (place M i d r q : ℕ) → place ≡ 2 ^ 15 * M + i → M ≡ d * 2 ^ 24 + r → i < 256 → place < 2 ^ 64 → q < 2 ^ 64 → (q + d * 2 ^ 39) % 2 ^ 64 ≡ place → q / 2 ^ 15 ≡ r
left_is place M i d r q is M-is few fits q-fits e =
    let sum : place ≡ 2 ^ 15 * r + i + d * 2 ^ 39 = omega (arith, is, M-is) in
    let same : q ≡ 2 ^ 15 * r + i = omega (arith, sum, e, fits, q-fits) in
    omega (arith, same, few)

parts_of :
    (place M h i d r : ℕ) → place ≡ 2 ^ 15 * M + i → M ≡ h * 2 ^ 40 + d → d ≡ i * (h * 2 ^ 24) + r → M < 2 ^ 49 → d < 2 ^ 40 → 256 ≤ h → h < 512 → i < 256 →
    r < h * 2 ^ 24 → Parts place h i r
parts_of place M h i d r is M-is d-is M-small d_small least most few small =
    let whole : M ≡ h * (65536 + i) * 2 ^ 24 + r = omega (arith, M-is, d-is) in
    record {
      low = omega (arith, is, few);
      top = omega (arith, is, M-is, d_small, few);
      divisor_least = omega (arith, least);
      divisor_small = omega (arith, whole, M-small);
      remainder_small = omega (arith, small, most);
      left = λ q q-fits e. left_is place M i (h * (65536 + i)) r q is whole few (omega (arith, is, M-small, few)) q-fits e;
    }

-- the difference of step 5, mod 2^64, cut at 0 by its bit 50
cut : (D A B s log x : ℕ) → (log + (A + B)) % 2 ^ 64 ≡ D → (x + s) % 2 ^ 64 ≡ log → x < 2 ^ 64 → A ≤ 2 ^ 40 → B ≤ 2 ^ 40 → s < 2 ^ 24 → D < 2 ^ 46 →
    (1 - x / 2 ^ 50 % 2) * x ≡ D - A - B - s
cut D A B s log x first second fits a b few small = go (dec_le (A + B + s) D)
  where
    go : Dec (A + B + s ≤ D) → (1 - x / 2 ^ 50 % 2) * x ≡ D - A - B - s
    go (yes le) =
        let is : x ≡ D - A - B - s = omega arith in
        let bit : x / 2 ^ 50 % 2 ≡ 0 = omega (arith, is, small) in
        rw bit (omega (arith, is))
    go (no gt) =
        let bit : x / 2 ^ 50 % 2 ≡ 1 = omega arith in
        rw bit (omega arith)

-- ---- Of a k
module _ (k : ℕ) (below : k < 2 ^ number_bits) where
  abbrev m : ℕ
  m = numerator k

  abbrev M : ℕ
  M = mantissa width m

  abbrev h : ℕ
  h = coarse_index width m

  abbrev i : ℕ
  i = fine_index width m

  split : (M ≡ h * 2 ^ 40 + rest width m) × (rest width m < 2 ^ 40)
  split = mantissa_split width m (omega arith) (omega arith) (omega arith) (omega arith)

  coarse_at : (256 ≤ h) × (h < 512)
  coarse_at = coarse_range width m (omega arith) (omega arith) (omega arith) (omega arith)

  fine_at : i < 256
  fine_at = fine_range width m (omega arith) (omega arith) (omega arith) (omega arith)

  again : (rest width m ≡ i * (h * 2 ^ 24) + remainder width m) × (remainder width m < h * 2 ^ 24)
  again = rest_split width m (omega arith) (omega arith) (omega arith) (omega arith)

  -- 2^15 M is 2k + 1, moved up until its highest bit is bit 63
  pub top_few : top_bit m ≤ 48
  top_few = omega (arith, top_at k below)

  pub scaled_is : (e n s : ℕ) → e ≡ top_bit m → n ≡ m * 2 ^ 15 → s ≡ width - 1 - e → n * 2 ^ s % 2 ^ 64 ≡ 2 ^ 15 * M
  unfolding mantissa
  scaled_is e n s e-is n_is s-is = rw (n_is, s-is, e-is) (mod-eq_of_lt (omega (arith, (mantissa_at k below).1)) ∙ omega arith)

  parts : (place : ℕ) → place ≡ 2 ^ 15 * M + i → Parts place h i (remainder width m)
  parts place is =
      parts_of place M h i (rest width m) (remainder width m) is split.0 again.0 (mantissa_at k below).1 split.1
      coarse_at.0 coarse_at.1 fine_at again.1

  -- h and i from 2^15 M, and the cell
  module _ (N n R : ℕ) (N-is : N ≡ 2 ^ 15 * M) (n_is : n ≡ N / 2 ^ 55 % 256 + 256) (R-is : R ≡ entry_of reciprocals 256 n) where
    row_is : n ≡ h
    row_is = rw (n_is, N-is) (omega (arith, split, coarse_at))

    fine_is : N % 2 ^ 55 / 2 ^ 39 * R / 2 ^ 39 ≡ i
    unfolding fine_index
    fine_is =
        let d : ℕ = rest width m in
        let digits : N % 2 ^ 55 / 2 ^ 39 ≡ d / 2 ^ 24 = rw N-is (omega (arith, split)) in
        rw (digits, R-is, row_is)
        (quotient_is (d / 2 ^ 24) h (omega (arith, split.1)) coarse_at.0 coarse_at.1
        ∙ div-div-eq-div-mul d (2 ^ 24) h ∙ ap (λ n. d / n) (mul_comm (2 ^ 24) h))

    pub place_fits : N + N % 2 ^ 55 / 2 ^ 39 * R / 2 ^ 39 < 2 ^ 64
    place_fits = rw (fine_is, N-is) (omega (arith, (mantissa_at k below).1, fine_at))

    pub cell_is :
        (a b K e t log : ℕ) → a ≡ entry_of log_coarse 256 n → b ≡ get_or log_fine (N % 2 ^ 55 / 2 ^ 39 * R / 2 ^ 39) 0xffffffff → K ≡ ln_two →
        e ≡ top_bit m → t ≡ width - e → (log + (a + b)) % 2 ^ 64 ≡ t * K → InCell k (N + N % 2 ^ 55 / 2 ^ 39 * R / 2 ^ 39) R log
    cell_is a b K e t log a-is b-is K-is e-is t-is log_is = record {
      place_is = ap₂ ◌+◌ N-is fine_is;
      reciprocal_is = R-is ∙ ap (λ n. entry_of reciprocals 256 n) row_is;
      log_is = rw (a-is, b-is, row_is, fine_is, fine_entry i fine_at, K-is, t-is, e-is) at log_is;
    }

  -- 2Q, from what each step gives
  pub under_root_is :
      (place reciprocal log u q v s x y : ℕ) → InCell k place reciprocal log → u ≡ place / 2 ^ 55 * (65536 + place % 256) % 2 ^ 32 * 2 ^ 39 % 2 ^ 64 →
      (q + u) % 2 ^ 64 ≡ place → q < 2 ^ 64 →
      ((h : ℕ) → 256 ≤ h → h < 512 → reciprocal ≡ entry_of reciprocals 256 h → NearInverse v (h * (65536 + place % 256))) →
      (q / 2 ^ 15 < 2 ^ 33 → 2 ^ 24 ≤ place / 2 ^ 55 * (65536 + place % 256) % 2 ^ 32 → place / 2 ^ 55 * (65536 + place % 256) % 2 ^ 32 < 2 ^ 25 →
      NearInverse v (place / 2 ^ 55 * (65536 + place % 256) % 2 ^ 32) → s ≡ q / 2 ^ 15 * 2 ^ 16 / (place / 2 ^ 55 * (65536 + place % 256) % 2 ^ 32)) →
      (x + s) % 2 ^ 64 ≡ log → x < 2 ^ 64 → y ≡ (1 - x / 2 ^ 50 % 2) * x → y * 2 % 2 ^ 64 ≡ under_root k
  unfolding under_root logarithm correction
  under_root_is place reciprocal log u q v s x y cell u-is difference q-fits near quotient last x_Fits y-is =
      let p = parts place cell.place_is in
      let d : ℕ = h * (65536 + i) in
      let same : place / 2 ^ 55 * (65536 + place % 256) % 2 ^ 32 ≡ d = rw (p.low, p.top) (mod-eq_of_lt (omega (arith, p.divisor_small))) in
      let shifted : d * 2 ^ 39 % 2 ^ 64 ≡ d * 2 ^ 39 = mod-eq_of_lt (omega (arith, p.divisor_small)) in
      let r-is : q / 2 ^ 15 ≡ remainder width m = p.left q q-fits (rw (u-is, same, shifted) at difference) in
      let v-near : NearInverse v d = rw p.low at (near h coarse_at.0 coarse_at.1 cell.reciprocal_is) in
      let s-is : s ≡ remainder width m * 2 ^ 16 / d = (rw (same, r-is) at quotient) p.remainder_small p.divisor_least p.divisor_small v-near in
      let D : ℕ = (width - top_bit m) * ln_two in
      let A : ℕ = entry_of log_coarse 256 h in
      let B : ℕ = entry_of log_fine 0 i in
      let factor : width - top_bit m ≤ 49 = omega arith in
      let D-small : D < 2 ^ 46 = omega (arith, mul-le-mul_right ln_two factor, bounds.ln_two_lem) in
      let few : s < 2 ^ 24 = rw s-is (correction_range width m (omega arith) (omega arith) (omega arith) (omega arith)) in
      let cut-is =
      cut D A B s log x cell.log_is last x_Fits (omega (arith, bounds.log_coarse_lem h, bounds.ln_two_lem)) (omega (arith, bounds.log_fine_lem i, bounds.ln_two_lem)) few D-small in
      rw (y-is, cut-is, s-is) (doubled D A B _ D-small)
    where
      doubled : (D A B s : ℕ) → D < 2 ^ 46 → (D - A - B - s) * 2 % 2 ^ 64 ≡ 2 * (D - A - B - s)
      doubled D A B s small = omega arith

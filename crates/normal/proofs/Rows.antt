-- The tables of specs/NormalRows.antt: a share between the bounds of a row of `tail_rows` against the probability.
use mathlib.Core.Path.{◌≡◌, refl}
use mathlib.Core.Bool.{Bool, true, false, ◌&&◌}
use mathlib.Core.List.{List, [], ◌∷◌}
use Prim.Native.Nat.{ℕ, ◌+◌, ◌-◌, ◌*◌, ◌^◌, ◌≤◌, ◌<◌}
use native.Mathlib.Nat.{mul-pos, mul-le-mul_left, mul-le-mul_right}
use native.Mathlib.Omega.{arith}
use lib.Dec.{T, leb, leb→le}
use lib.Pow.{pow_pos}
use store.Enc.{and_l, and_r}
use Rattle.exact.specs.Fraction.{Fraction}
use Rattle.exact.specs.Series.{factorial}
use Rattle.exact.proofs.SeriesLaws.{scaled_top, scaled_bottom}
use Rattle.box_muller.specs.Steps.{fraction_bits, fraction_bits18}
use Rattle.tails.specs.Counts.{first_beyond}
use Rattle.tail_rows.specs.Rows.{Row, Holds, Every, rows}
use Rattle.tail_rows.proofs.Table.{tail_rows}
use Rattle.tail_rows.specs.Rows18.{rows18}
use Rattle.tail_rows.proofs.Table18.{tail_rows18}
use Rattle.normal.specs.Probability.{double_factorial, half_pi_term, area_term}
use Rattle.normal.specs.NormalRows.{NearTail, Nearness, Near, nearness, nearness18, half_unit_before, share_of, in_hundred_millions}
use Rattle.normal.proofs.Sums.{over, top_to}
use Rattle.normal.proofs.TailTest.{enough, most_inside, least_inside, at_least_tail, at_most_tail}

-- ---- low / 2^64 = (1 - short) t, and high / 2^64 = (1 + over) t, with M for 10^8, W for 2^64, D for M - short and M + over

least_part : (W M D N low short : ℕ) → M ≤ D + short → low ≤ N
    → low * M * (W * (M * (W * D))) ≤ (N * (M * (W * D)) + short * (low * M) * W) * (W * D)
least_part W M D N low short all h = omega (arith, mul-le-mul_left (W * M * W * D) (sum low N D short M h all))
  where
    sum : (low N D short M : ℕ) → low ≤ N → M ≤ D + short → low * M ≤ N * D + short * low
    sum low N D short M h all = omega (arith, mul-le-mul_left low all, mul-le-mul_right D h)

most_part : (W M D N high over : ℕ) → D ≡ M + over → N ≤ high
    → N * (W * D * (M * (W * D))) ≤ (high * M * (M * (W * D)) + over * (high * M) * (W * D)) * W
most_part W M D N high over all h = rw all (omega (arith, mul-le-mul_left (W * W * M * (M + over) * (M + over)) h))

-- ---- the test of a row

abbrev hundred_million : ℕ
hundred_million = 100_000_000

short_bottom : ℕ → ℕ
short_bottom short = 2 ^ 64 * (hundred_million - short)

over_bottom : ℕ → ℕ
over_bottom over = 2 ^ 64 * (hundred_million + over)

passed : ℕ → Row → Nearness → Bool
passed f r n =
    leb r.size n.size && (leb n.size r.size
    && (leb (n.short + 1) hundred_million && (leb (r.high * hundred_million) (over_bottom n.over)
    && (enough (half_unit_before f n.size)
    && (most_inside (half_unit_before f n.size) (r.low * hundred_million) (short_bottom n.short)
    && least_inside (half_unit_before f n.size) (r.high * hundred_million) (over_bottom n.over))))))

module _ (f : ℕ) (r : Row) (n : Nearness) where
  x : Fraction
  x = half_unit_before f n.size

  count_within : r.size ≡ n.size → Holds f r → (r.low ≤ first_beyond f n.size) × (first_beyond f n.size ≤ r.high)
  count_within e h = rw e at h

  near_tail : (low high N : ℕ) → low ≤ N → N ≤ high → n.short + 1 ≤ hundred_million → high * hundred_million ≤ over_bottom n.over → T (enough x)
      → T (most_inside x (low * hundred_million) (short_bottom n.short)) → T (least_inside x (high * hundred_million) (over_bottom n.over))
      → NearTail x (share_of N) (in_hundred_millions n.short) (in_hundred_millions n.over)
  unfolding short_bottom over_bottom
  near_tail low high N l h short within e t u = record {
    least = (
      over (low * hundred_million) (short_bottom n.short) some_short,
      at_least_tail x (low * hundred_million) (short_bottom n.short) some_short e t,
      least_part (2 ^ 64) hundred_million (hundred_million - n.short) N low n.short (omega arith) l,
    );
    most = (
      over (high * hundred_million) (over_bottom n.over) some_over,
      at_most_tail x (high * hundred_million) (over_bottom n.over) some_over e within u,
      most_part (2 ^ 64) hundred_million (hundred_million + n.over) N high n.over refl h,
    );
  }
    where
      some_short : 0 < short_bottom n.short
      some_short = mul-pos (pow_pos 64) (omega (arith, short))

      some_over : 0 < over_bottom n.over
      some_over = mul-pos (pow_pos 64) (omega arith)

  row_holds : Holds f r → T (passed f r n) → Near f n
  unfolding passed enough x
  row_holds h t =
      let t₁ = and_r (leb r.size n.size) _ t in
      let t₂ = and_r (leb n.size r.size) _ t₁ in
      let t₃ = and_r (leb (n.short + 1) hundred_million) _ t₂ in
      let t₄ = and_r (leb (r.high * hundred_million) (over_bottom n.over)) _ t₃ in
      let t₅ = and_r (enough x) _ t₄ in
      let a : r.size ≤ n.size = leb→le _ _ (and_l (leb r.size n.size) _ t) in
      let b : n.size ≤ r.size = leb→le _ _ (and_l (leb n.size r.size) _ t₁) in
      let e : r.size ≡ n.size = omega (arith, a, b) in
      let w = count_within e h in
      near_tail r.low r.high (first_beyond f n.size) w.0 w.1
      (leb→le _ _ (and_l (leb (n.short + 1) hundred_million) _ t₂))
      (leb→le _ _ (and_l (leb (r.high * hundred_million) (over_bottom n.over)) _ t₃))
      (and_l (enough x) _ t₄)
      (and_l (most_inside x (r.low * hundred_million) (short_bottom n.short)) _ t₅)
      (and_r (most_inside x (r.low * hundred_million) (short_bottom n.short)) _ t₅)

-- ---- each row of a table

all_passed : ℕ → List Row → List Nearness → Bool
all_passed f rs [] = true
all_passed f [] (n ∷ ns) = false
all_passed f (r ∷ rs) (n ∷ ns) = passed f r n && all_passed f rs ns

all_hold : (f : ℕ) (rs : List Row) (ns : List Nearness) → Every (Holds f) rs → T (all_passed f rs ns) → Every (Near f) ns
unfolding all_passed
all_hold f rs [] h t = tt
all_hold f [] (n ∷ ns) h t = absurd t
all_hold f (r ∷ rs) (n ∷ ns) h t = (row_holds f r n h.0 (and_l (passed f r n) _ t), all_hold f rs ns h.1 (and_r (passed f r n) _ t))

tested : T (all_passed fraction_bits rows nearness)
unfolding all_passed passed enough most_inside least_inside short_bottom over_bottom top_to half_pi_term area_term double_factorial factorial scaled_top scaled_bottom
tested = tt

tested18 : T (all_passed fraction_bits18 rows18 nearness18)
unfolding all_passed passed enough most_inside least_inside short_bottom over_bottom top_to half_pi_term area_term double_factorial factorial scaled_top scaled_bottom
tested18 = tt

pub table : Every (Near fraction_bits) nearness
table = all_hold fraction_bits rows nearness tail_rows.table tested

pub table18 : Every (Near fraction_bits18) nearness18
table18 = all_hold fraction_bits18 rows18 nearness18 tail_rows18.table18 tested18

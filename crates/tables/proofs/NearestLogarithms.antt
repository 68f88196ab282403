-- The logarithm tables and ln 2 hold the nearest whole numbers: one test over any index and scale, which antt computes with 20 terms
-- of the series, and one lemma that carries it to each entry.
use mathlib.Core.Path.{◌≡◌}
use mathlib.Core.Bool.{Bool, ◌&&◌}
use mathlib.Core.List.{List}
use Prim.Native.Nat.{ℕ, zero, suc, ◌+◌, ◌*◌, ◌^◌, ◌<◌, ◌≤◌}
use native.Mathlib.Nat.{mul-pos, one-le-pow, lt_irrefl, mul-le-mul_right}
use native.Mathlib.Decide.{dec_lt}
use native.Mathlib.Omega.{arith}
use lib.Dec.{T, leb, leb→le}
use lib.ListN.{length}
use store.Enc.{and_l, and_r}
use Rattle.exact.specs.Fraction.{Fraction, whole, dyadic, ◌<ᶠ◌}
use Rattle.exact.proofs.FractionLaws.{≤ᶠ-refl, <ᶠ-≤ᶠ-trans, ≤ᶠ-<ᶠ-trans}
use Rattle.exact.specs.Series.{AtMostLn, AtLeastLn, partial_sum, term}
use Rattle.exact.proofs.SeriesLaws.{scaled_top, scaled_bottom}
use Rattle.exact.proofs.LogarithmLaws.{ln_at_least_mono, ln_at_least_scaled, tail}
use Rattle.tables.specs.Values.{ln_two_value}
use Rattle.tables.specs.Tables.{entry_of, log_coarse, log_fine, ln_two, log_coarse_is, log_fine_is, ln_two_is}
use Rattle.tables.specs.Promise.{NearestLn, lower, upper}
use Rattle.tables.proofs.Entries.{lengths, every, at}

-- y is at most ln z: n terms and the last once more are at most z, and from there on the terms at least halve
most : ℕ → Fraction → Fraction → Bool
most n y z =
    leb (2 * y.top) (suc n * y.bottom)
    && leb ((scaled_top y.top y.bottom n + y.top ^ n) * z.bottom) (z.top * scaled_bottom y.bottom n)

-- y is at least ln z: n terms are at least z
least : ℕ → Fraction → Fraction → Bool
least n y z = leb (z.top * scaled_bottom y.bottom n) (scaled_top y.top y.bottom n * z.bottom)

most_is : (n : ℕ) (y z : Fraction) → T (most n y z) → AtMostLn y z
unfolding most
most_is n y z t =
    tail y z n (leb→le _ _ (and_l (leb (2 * y.top) (suc n * y.bottom)) _ t))
    (leb→le _ _ (and_r (leb (2 * y.top) (suc n * y.bottom)) _ t))

least_is : (n : ℕ) (y z : Fraction) → T (least n y z) → AtLeastLn y z
unfolding least
least_is n y z t = ln_at_least_scaled y z n (leb→le _ _ t)

-- the test of an entry x for the logarithm of z, at f fraction bits
is_nearest_ln : ℕ → ℕ → Fraction → ℕ → Bool
is_nearest_ln n f z x = most n (lower f x) z && least n (upper f x) z

nearest_ln : (n f : ℕ) (z : Fraction) (x : ℕ) → T (is_nearest_ln n f z x) → NearestLn f z x
unfolding is_nearest_ln
nearest_ln n f z x t = record {
  low = most_is n _ z (and_l (most n (lower f x) z) _ t);
  high = least_is n _ z (and_r (most n (lower f x) z) _ t);
}

test : ℕ → ℕ → (ℕ → Fraction) → ℕ → List ℕ → Bool
test n f number first table = every (λ i x. is_nearest_ln n f (number i) x) first table

carried :
    (n f : ℕ) (number : ℕ → Fraction) (first : ℕ) (table : List ℕ) → T (test n f number first table) →
    (i : ℕ) → first ≤ i → i < first + length table → NearestLn f (number i) (entry_of table first i)
unfolding test
carried n f number first table t i low high =
    nearest_ln n f (number i) _ (at (λ i x. is_nearest_ln n f (number i) x) first table t i low high)

tested :
    T (test 20 40 (λ h. dyadic 8 h) 256 log_coarse) ×
    T (test 20 40 (λ i. dyadic 16 (65536 + i)) 0 log_fine) ×
    T (is_nearest_ln 20 40 (whole 2) ln_two)
unfolding ln_two_value test is_nearest_ln most least scaled_top scaled_bottom
tested = rw (log_coarse_is, log_fine_is, ln_two_is) (tt, tt, tt)

pub log_coarse_lem : (h : ℕ) → 256 ≤ h → h < 512 → NearestLn 40 (dyadic 8 h) (entry_of log_coarse 256 h)
log_coarse_lem h low high = carried 20 40 (λ h. dyadic 8 h) 256 log_coarse tested.0 h low (omega (arith, lengths))

pub log_fine_lem : (i : ℕ) → i < 256 → NearestLn 40 (dyadic 16 (65536 + i)) (entry_of log_fine 0 i)
log_fine_lem i high = carried 20 40 (λ i. dyadic 16 (65536 + i)) 0 log_fine tested.1 i (omega arith) (omega (arith, lengths))

pub ln_two_lem : NearestLn 40 (whole 2) ln_two
ln_two_lem = nearest_ln 20 40 (whole 2) ln_two tested.2

-- Uniqueness, at any scale and for any number: the partial sums of a fraction above 0 grow for ever, so that it is not both at most
-- and at least one logarithm.
grows : (y : Fraction) (n : ℕ) → zero < y.top → partial_sum y n <ᶠ partial_sum y (suc n)
unfolding partial_sum term
grows y n p =
    omega (arith, mul-pos (mul-pos (one-le-pow (suc n) y.top p) (partial_sum y n).positive) (partial_sum y n).positive)

apart : (y z : Fraction) → zero < y.top → AtMostLn y z → AtLeastLn y z → ⊥
unfolding AtMostLn AtLeastLn
apart y z p m l =
    let n : ℕ = l.0 in
    lt_irrefl _
    (≤ᶠ-<ᶠ-trans z (partial_sum y n) z l.1
    (<ᶠ-≤ᶠ-trans (partial_sum y n) (partial_sum y (suc n)) z (grows y n p) (m (suc n))))

not_below_lem : (f : ℕ) (z : Fraction) (x y : ℕ) → NearestLn f z x → NearestLn f z y → x < y → ⊥
not_below_lem f z x y nx ny h =
    apart (lower f y) z (omega arith) ny.low
    (ln_at_least_mono (upper f x) (lower f y) z z
    (mul-le-mul_right (2 ^ suc f) (omega arith)) (≤ᶠ-refl z) nx.high)

pub ln_unique : (f : ℕ) (z : Fraction) (x y : ℕ) → NearestLn f z x → NearestLn f z y → x ≡ y
ln_unique f z x y nx ny = go (dec_lt x y) (dec_lt y x)
  where
    go : Dec (x < y) → Dec (y < x) → x ≡ y
    go (yes h) d = absurd (not_below_lem f z x y nx ny h)
    go (no h) (yes k) = absurd (not_below_lem f z y x ny nx k)
    go (no h) (no k) = omega arith

-- P(|X| < x) comes as near to 1 as one likes: (π/2) e^y - B² is at most 2 e^(y/2), for y = x².
use mathlib.Core.Path.{◌≡◌, sym}
use Prim.Native.Nat.{ℕ, zero, suc, ◌+◌, ◌-◌, ◌*◌, ◌^◌, ◌≤◌, ◌<◌}
use native.Mathlib.Nat.{le_refl, le_of_eq, pow-zero, pow-suc, mul-pos, mul-le-mul, mul-le-mul_left, mul-le-mul_right, le_of_mul-le-mul_left, suc-add}
use native.Mathlib.Omega.{arith}
use Rattle.exact.specs.Fraction.{Fraction, whole, square, halved, ◌+ᶠ◌, ◌*ᶠ◌, ◌≤ᶠ◌, ◌<ᶠ◌}
use Rattle.exact.specs.Series.{factorial, term, partial_sum, AtMostLn}
use Rattle.exact.proofs.FractionLaws.{≤ᶠ-refl, ≤ᶠ-trans, *ᶠ-mono, +ᶠ-mono, square_mono, ◌≤ᶠ⟨◌⟩◌, ◌∎ᶠ, chained}
use Rattle.exact.proofs.SeriesSums.{partial_sum_sum_at_least}
use Rattle.exact.proofs.SeriesLaws.{scaled_top, scaled_bottom, scaled_sum, partial_sum_mono, scaled_at_most_partial_sum}
use Rattle.tails.specs.Counts.{sum_below}
use Rattle.tails.proofs.OddProduct.{mul_pow}
use Rattle.normal.specs.Probability.{double_factorial, half_pi_term, area_term, sum_to, AtLeastSum, AtMostSum, AtMostInside}
use Rattle.normal.proofs.Sums.{over, top_to}
use Rattle.normal.proofs.Enclosures.{half_pi_step, half_pi_low, half_pi_high, half_pi_falls, half_pi_high_lem, exponential_high, exponential_high_lem, exponential_narrow}
use Rattle.normal.proofs.Diagonals.{outside}
use Rattle.normal.proofs.AreaSquare.{distributes, w, square_terms, square_term, product, part, part_add, part_is, area_sum, area_is}

-- m! 2^m is at most (2 m + 1)!!
half_pi_halves : (m : ℕ) → factorial m * 2 ^ m ≤ double_factorial m
unfolding factorial double_factorial
half_pi_halves zero = rw (pow-zero 2) (omega arith)
half_pi_halves (suc m) = rw (pow-suc 2 m) (again (factorial m) (2 ^ m) (double_factorial m) (half_pi_halves m))
  where
    again : (f t o : ℕ) → f * t ≤ o → suc m * f * (t * 2) ≤ (2 * m + 3) * o
    again f t o h = omega (arith, mul-le-mul_left (2 * suc m) h)

-- the m-th term of π/2 times a term of e^y is at most twice that of e^(y/2)
halved_term : (y : Fraction) (m : ℕ) → half_pi_term m *ᶠ term y (suc m) ≤ᶠ whole 2 *ᶠ term (halved y) (suc m)
unfolding half_pi_term term
halved_term y m =
    rw (mul_pow 2 y.bottom (suc m), pow-suc 2 m)
    (crossed (factorial m) (y.top ^ suc m) (2 ^ m) (y.bottom ^ suc m) (factorial (suc m)) (double_factorial m) (half_pi_halves m))
  where
    crossed : (f a t b g o : ℕ) → f * t ≤ o → f * a * (1 * (t * 2 * b * g)) ≤ 2 * a * (o * (b * g))
    crossed f a t b g o h = omega (arith, mul-le-mul_left (2 * a * b * g) h)

-- π/2 from above is at most a partial sum and its last term once more.
half_pi_split : (y : Fraction) (n m : ℕ) → m ≤ n → half_pi_high n *ᶠ term y (suc m) ≤ᶠ half_pi_low m *ᶠ term y (suc m) +ᶠ whole 2 *ᶠ term (halved y) (suc m)
half_pi_split y n m h =
    chained
    (half_pi_high n *ᶠ term y (suc m) ≤ᶠ⟨ *ᶠ-mono (half_pi_high n) (half_pi_high m) (term y (suc m)) (term y (suc m)) (half_pi_falls m n h) (≤ᶠ-refl (term y (suc m))) ⟩
    half_pi_high m *ᶠ term y (suc m) ≤ᶠ⟨ apart (top_to half_pi_term half_pi_step m) (half_pi_term m) (term y (suc m)) ⟩
    half_pi_low m *ᶠ term y (suc m) +ᶠ half_pi_term m *ᶠ term y (suc m) ≤ᶠ⟨ +ᶠ-mono (half_pi_low m *ᶠ term y (suc m)) (half_pi_low m *ᶠ term y (suc m)) (half_pi_term m *ᶠ term y (suc m))
    (whole 2 *ᶠ term (halved y) (suc m)) (≤ᶠ-refl (half_pi_low m *ᶠ term y (suc m))) (halved_term y m) ⟩
    half_pi_low m *ᶠ term y (suc m) +ᶠ whole 2 *ᶠ term (halved y) (suc m) ∎ᶠ)
  where
    apart : (s : ℕ) (c t : Fraction) → over (s + c.top) c.bottom c.positive *ᶠ t ≤ᶠ over s c.bottom c.positive *ᶠ t +ᶠ c *ᶠ t
    apart s c t = omega arith

crosswise : (a b c d : Fraction) → (a +ᶠ b) +ᶠ (c +ᶠ d) ≤ᶠ (a +ᶠ c) +ᶠ (b +ᶠ d)
crosswise a b c d = omega arith

first_two : half_pi_high 0 *ᶠ whole 1 ≤ᶠ whole 2 *ᶠ whole 1
unfolding top_to half_pi_term double_factorial factorial
first_two = omega arith

module _ (x : Fraction) (n : ℕ) where
  abbrev y : Fraction
  y = square x

  step : (H S T S' T' Z z : Fraction) → H *ᶠ S ≤ᶠ Z +ᶠ whole 2 *ᶠ S' → H *ᶠ T ≤ᶠ z +ᶠ whole 2 *ᶠ T' → H *ᶠ (S +ᶠ T) ≤ᶠ (Z +ᶠ z) +ᶠ whole 2 *ᶠ (S' +ᶠ T')
  step H S T S' T' Z z h k =
      chained
      (H *ᶠ (S +ᶠ T) ≤ᶠ⟨ le_of_eq (distributes H S T) ⟩
      H *ᶠ S +ᶠ H *ᶠ T ≤ᶠ⟨ +ᶠ-mono (H *ᶠ S) (Z +ᶠ whole 2 *ᶠ S') (H *ᶠ T) (z +ᶠ whole 2 *ᶠ T') h k ⟩
      (Z +ᶠ whole 2 *ᶠ S') +ᶠ (z +ᶠ whole 2 *ᶠ T') ≤ᶠ⟨ crosswise Z (whole 2 *ᶠ S') z (whole 2 *ᶠ T') ⟩
      (Z +ᶠ z) +ᶠ (whole 2 *ᶠ S' +ᶠ whole 2 *ᶠ T') ≤ᶠ⟨ +ᶠ-mono (Z +ᶠ z) (Z +ᶠ z) (whole 2 *ᶠ S' +ᶠ whole 2 *ᶠ T') (whole 2 *ᶠ (S' +ᶠ T')) (≤ᶠ-refl (Z +ᶠ z)) (le_of_eq (sym (distributes (whole 2) S' T'))) ⟩
      (Z +ᶠ z) +ᶠ whole 2 *ᶠ (S' +ᶠ T') ∎ᶠ)

  one_split : (m : ℕ) → m ≤ n → half_pi_high n *ᶠ term y (suc m) ≤ᶠ part x n (square_terms x n m) +ᶠ whole 2 *ᶠ term (halved y) (suc m)
  one_split m h =
      ≤ᶠ-trans (half_pi_high n *ᶠ term y (suc m)) (half_pi_low m *ᶠ term y (suc m) +ᶠ whole 2 *ᶠ term (halved y) (suc m))
      (part x n (square_terms x n m) +ᶠ whole 2 *ᶠ term (halved y) (suc m)) (half_pi_split y n m h)
      (+ᶠ-mono (half_pi_low m *ᶠ term y (suc m)) (part x n (square_terms x n m)) (whole 2 *ᶠ term (halved y) (suc m)) (whole 2 *ᶠ term (halved y) (suc m))
      (le_of_eq (part_is x n m h)) (≤ᶠ-refl (whole 2 *ᶠ term (halved y) (suc m))))

  half_pi_two : half_pi_high n *ᶠ whole 1 ≤ᶠ whole 2 *ᶠ whole 1
  half_pi_two =
      ≤ᶠ-trans (half_pi_high n *ᶠ whole 1) (half_pi_high 0 *ᶠ whole 1) (whole 2 *ᶠ whole 1)
      (*ᶠ-mono (half_pi_high n) (half_pi_high 0) (whole 1) (whole 1) (half_pi_falls 0 n (omega arith)) (le_refl _)) first_two

  abbrev parts : ℕ → Fraction
  parts m = part x n (sum_below m (square_terms x n))

  abbrev twice : ℕ → Fraction
  twice m = whole 2 *ᶠ partial_sum (halved y) m

  many_least : (m : ℕ) → m ≤ suc n → half_pi_high n *ᶠ partial_sum y m ≤ᶠ parts m +ᶠ twice m
  unfolding sum_below partial_sum
  many_least zero h =
      ≤ᶠ-trans (half_pi_high n *ᶠ whole 1) (whole 2 *ᶠ whole 1) (parts 0 +ᶠ whole 2 *ᶠ whole 1) half_pi_two (adds (parts 0) (whole 2 *ᶠ whole 1))
    where
      adds : (a b : Fraction) → b ≤ᶠ a +ᶠ b
      adds a b = omega arith
  many_least (suc m) h =
      chained
      (half_pi_high n *ᶠ (partial_sum y m +ᶠ term y (suc m)) ≤ᶠ⟨ step (half_pi_high n) (partial_sum y m) (term y (suc m)) (partial_sum (halved y) m)
      (term (halved y) (suc m)) (parts m) (part x n (square_terms x n m)) (many_least m (omega (arith, h))) (one_split m (omega (arith, h))) ⟩
      (parts m +ᶠ part x n (square_terms x n m)) +ᶠ twice (suc m) ≤ᶠ⟨ +ᶠ-mono (parts m +ᶠ part x n (square_terms x n m)) (parts (suc m)) (twice (suc m)) (twice (suc m))
      (le_of_eq (sym (part_add x n (sum_below m (square_terms x n)) (square_terms x n m)))) (≤ᶠ-refl (twice (suc m))) ⟩
      parts (suc m) +ᶠ twice (suc m) ∎ᶠ)

  squared : parts (suc n) ≤ᶠ square (area_sum x n n)
  unfolding square_term product
  squared = crossed x.top x.bottom (sum_below (suc n) (w x n)) (w x n 0) (sum_below (suc n) (square_terms x n)) (outside (w x n) (w x n) (suc n) (suc n) (le_refl (suc n)))
    where
      crossed : (p q s u₀ t : ℕ) → t ≤ s * s → p * p * t * (q * u₀ * (q * u₀)) ≤ p * s * (p * s) * (q * q * (u₀ * u₀))
      crossed p q s u₀ t h = omega (arith, mul-le-mul_left (p * p * q * q * u₀ * u₀) h)

  pub whole_least : half_pi_high n *ᶠ partial_sum y (suc n) ≤ᶠ square (sum_to (area_term x) n) +ᶠ twice (suc n)
  whole_least =
      chained
      (half_pi_high n *ᶠ partial_sum y (suc n) ≤ᶠ⟨ many_least (suc n) (le_refl _) ⟩
      parts (suc n) +ᶠ twice (suc n) ≤ᶠ⟨ +ᶠ-mono (parts (suc n)) (square (sum_to (area_term x) n)) (twice (suc n)) (twice (suc n))
      (≤ᶠ-trans (parts (suc n)) (square (area_sum x n n)) (square (sum_to (area_term x) n)) squared
      (square_mono (area_sum x n n) (sum_to (area_term x) n) (le_of_eq (sym (area_is x n n (le_refl n))))))
      (≤ᶠ-refl (twice (suc n))) ⟩
      square (sum_to (area_term x) n) +ᶠ twice (suc n) ∎ᶠ)

-- ---- so every c below 1 is at most P(|X| < x) for some x: 8 times the denominator of c

cancelled : (b r r' t t' : ℕ) → 0 < r' → (4 * b + 2) * r * t' * r' ≤ (4 * suc b * t * r' + 2 * r * t') * r' → b * r * t' ≤ suc b * t * r'
cancelled b r r' t t' some h =
    let k : (4 * b + 2) * r * t' ≤ 4 * suc b * t * r' + 2 * r * t' = le_of_mul-le-mul_left {k = r'} (omega (arith, h)) some in
    omega (arith, k)

squares_under : (a b r r' t t' : ℕ) → a ≤ b → b * r * t' ≤ suc b * t * r' → a * a * r * t' ≤ t * (suc b * suc b * r')
squares_under a b r r' t t' h k = omega (arith, mul-le-mul_right (r * t') (mul-le-mul h h), mul-le-mul_left b k)

module _ (c H E E' G S : Fraction) (b : ℕ) (is : c.bottom ≡ suc b) (less : c.top ≤ b) (narrow : whole (suc (2 * b)) *ᶠ G ≤ᶠ whole (2 * suc b) *ᶠ E)
    (small : whole (4 * suc b) *ᶠ E' ≤ᶠ G) (one : whole 1 ≤ᶠ H) (area : H *ᶠ E ≤ᶠ S +ᶠ whole 2 *ᶠ E') where
  places : whole 2 *ᶠ (H *ᶠ (whole (2 * suc b) *ᶠ E)) ≤ᶠ whole (4 * suc b) *ᶠ (H *ᶠ E)
  places = omega arith

  exchange : whole (4 * suc b) *ᶠ (whole 2 *ᶠ E') ≤ᶠ whole 2 *ᶠ (whole (4 * suc b) *ᶠ E')
  exchange = omega arith

  single : whole (4 * suc b) *ᶠ E' ≤ᶠ H *ᶠ G
  single = ≤ᶠ-trans (whole (4 * suc b) *ᶠ E') (whole 1 *ᶠ G) (H *ᶠ G) (omega (arith, small)) (*ᶠ-mono (whole 1) H G G one (≤ᶠ-refl G))

  weighed : whole 2 *ᶠ (H *ᶠ (whole (suc (2 * b)) *ᶠ G)) ≤ᶠ whole (4 * suc b) *ᶠ S +ᶠ whole 2 *ᶠ (H *ᶠ G)
  weighed =
      chained
      (whole 2 *ᶠ (H *ᶠ (whole (suc (2 * b)) *ᶠ G)) ≤ᶠ⟨ *ᶠ-mono (whole 2) (whole 2) (H *ᶠ (whole (suc (2 * b)) *ᶠ G)) (H *ᶠ (whole (2 * suc b) *ᶠ E)) (le_refl _)
      (*ᶠ-mono H H (whole (suc (2 * b)) *ᶠ G) (whole (2 * suc b) *ᶠ E) (≤ᶠ-refl H) narrow) ⟩
      whole 2 *ᶠ (H *ᶠ (whole (2 * suc b) *ᶠ E)) ≤ᶠ⟨ places ⟩
      whole (4 * suc b) *ᶠ (H *ᶠ E) ≤ᶠ⟨ *ᶠ-mono (whole (4 * suc b)) (whole (4 * suc b)) (H *ᶠ E) (S +ᶠ whole 2 *ᶠ E') (le_refl _) area ⟩
      whole (4 * suc b) *ᶠ (S +ᶠ whole 2 *ᶠ E') ≤ᶠ⟨ le_of_eq (distributes (whole (4 * suc b)) S (whole 2 *ᶠ E')) ⟩
      whole (4 * suc b) *ᶠ S +ᶠ whole (4 * suc b) *ᶠ (whole 2 *ᶠ E') ≤ᶠ⟨ +ᶠ-mono (whole (4 * suc b) *ᶠ S) (whole (4 * suc b) *ᶠ S) (whole (4 * suc b) *ᶠ (whole 2 *ᶠ E')) (whole 2 *ᶠ (H *ᶠ G))
      (≤ᶠ-refl (whole (4 * suc b) *ᶠ S))
      (≤ᶠ-trans (whole (4 * suc b) *ᶠ (whole 2 *ᶠ E')) (whole 2 *ᶠ (whole (4 * suc b) *ᶠ E')) (whole 2 *ᶠ (H *ᶠ G)) exchange
      (*ᶠ-mono (whole 2) (whole 2) (whole (4 * suc b) *ᶠ E') (H *ᶠ G) (le_refl _) single)) ⟩
      whole (4 * suc b) *ᶠ S +ᶠ whole 2 *ᶠ (H *ᶠ G) ∎ᶠ)

  ordered : square c *ᶠ (H *ᶠ G) ≤ᶠ S
  ordered =
      rw is
      (squares_under c.top b (H.top * G.top) (H.bottom * G.bottom) S.top S.bottom less
      (cancelled b (H.top * G.top) (H.bottom * G.bottom) S.top S.bottom (mul-pos H.positive G.positive)
      (regrouped b H.top G.top H.bottom G.bottom S.top S.bottom weighed)))
    where
      regrouped : (b h g h' g' t t' : ℕ) → 2 * (h * (suc (2 * b) * g)) * (1 * t' * (1 * (h' * g'))) ≤ (4 * suc b * t * (1 * (h' * g')) + 2 * (h * g) * (1 * t')) * (1 * (h' * (1 * g')))
          → (4 * b + 2) * (h * g) * t' * (h' * g') ≤ (4 * suc b * t * (h' * g') + 2 * (h * g) * t') * (h' * g')
      regrouped b h g h' g' t t' k = omega (arith, k)

at_least_first : (p : Fraction) → AtLeastSum half_pi_term p → whole 1 ≤ᶠ p
unfolding AtLeastSum sum_to half_pi_term double_factorial factorial
at_least_first p h = omega (arith, h 0)

half_pi_one : (n : ℕ) → whole 1 ≤ᶠ half_pi_high n
half_pi_one n = at_least_first (half_pi_high n) (half_pi_high_lem n)

module _ (b : ℕ) where
  k : ℕ
  k = 8 * suc b

  abbrev x' : Fraction
  x' = whole k

  n' : ℕ
  n' = 2 * (k * k) + 2 * b

  few : 2 * (k * k) ≤ suc (suc n') * (1 * 1)
  unfolding n'
  few = omega arith

  bound : Fraction
  bound = exponential_high (square x') (suc n')

  bound_fits : AtMostLn (square x') bound
  unfolding bound
  bound_fits = exponential_high_lem (square x') (suc n') few

  narrow_bound : whole (suc (2 * b)) *ᶠ bound ≤ᶠ whole (2 * suc b) *ᶠ partial_sum (square x') (suc n')
  unfolding bound scaled_sum n'
  narrow_bound =
      ≤ᶠ-trans (whole (suc (2 * b)) *ᶠ bound) (whole (2 * suc b) *ᶠ scaled_sum (square x') (suc n')) (whole (2 * suc b) *ᶠ partial_sum (square x') (suc n'))
      (parts (scaled_top (k * k) (1 * 1) (suc n')) ((k * k) ^ suc n') (scaled_bottom (1 * 1) (suc n'))
      (rw (suc-add (2 * (k * k)) (2 * b)) at (exponential_narrow (k * k) (1 * 1) (suc (2 * (k * k))) (omega arith) (2 * b))))
      (*ᶠ-mono (whole (2 * suc b)) (whole (2 * suc b)) (scaled_sum (square x') (suc n')) (partial_sum (square x') (suc n')) (le_refl _) (scaled_at_most_partial_sum (square x') (suc n')))
    where
      parts : (T p D : ℕ) → suc (2 * b) * p ≤ T → suc (2 * b) * (T + p) * (1 * D) ≤ 2 * suc b * T * (1 * D)
      parts T p D h = omega (arith, mul-le-mul_right D h)

  half_first : whole (4 * suc b) ≤ᶠ partial_sum (halved (square x')) 1
  unfolding partial_sum term factorial k
  half_first = rw (pow-suc (8 * suc b * (8 * suc b)) 0, pow-zero (8 * suc b * (8 * suc b))) (omega arith)

  half_small : whole (4 * suc b) *ᶠ partial_sum (halved (square x')) (suc n') ≤ᶠ bound
  unfolding AtMostLn
  half_small =
      chained
      (whole (4 * suc b) *ᶠ partial_sum z (suc n') ≤ᶠ⟨ *ᶠ-mono (whole (4 * suc b)) (partial_sum z 1) (partial_sum z (suc n')) (partial_sum z (suc n')) half_first (≤ᶠ-refl (partial_sum z (suc n'))) ⟩
      partial_sum z 1 *ᶠ partial_sum z (suc n') ≤ᶠ⟨ partial_sum_sum_at_least z z 1 (suc n') ⟩
      partial_sum (z +ᶠ z) (suc n' + 1) ≤ᶠ⟨ partial_sum_mono (z +ᶠ z) (square x') (suc n' + 1) (omega arith) ⟩
      partial_sum (square x') (suc n' + 1) ≤ᶠ⟨ bound_fits (suc n' + 1) ⟩
      bound ∎ᶠ)
    where
      z : Fraction
      z = halved (square x')

  reaches : (c : Fraction) → c.bottom ≡ suc b → c.top ≤ b → AtMostInside x' c
  unfolding AtMostSum
  reaches c is less = record {
    area = sum_to (area_term x') n';
    half_pi = half_pi_high n';
    exponential = bound;
    area_fits = (n', ≤ᶠ-refl (sum_to (area_term x') n'));
    half_pi_fits = half_pi_high_lem n';
    exponential_fits = bound_fits;
    order =
        ordered c (half_pi_high n') (partial_sum (square x') (suc n')) (partial_sum (halved (square x')) (suc n')) bound (square (sum_to (area_term x') n')) b is less
        narrow_bound half_small (half_pi_one n') (whole_least x' n');
  }

pub near_one : (c : Fraction) → c <ᶠ whole 1 → (x : Fraction) × AtMostInside x c
near_one c h = (x' (c.bottom - 1), reaches (c.bottom - 1) c (omega (arith, c.positive)) (omega (arith, h, c.positive)))

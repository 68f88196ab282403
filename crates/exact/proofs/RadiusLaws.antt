-- Laws of the exact radius: any two enclosures overlap, and some are as narrow as one likes.
use mathlib.Core.Logic.{◌⊎◌, inl, inr}
use Prim.Native.Nat.{ℕ, zero, suc, ◌+◌, ◌*◌, ◌^◌, ◌≤◌, ◌<◌}
use native.Mathlib.Nat.{le_refl, le_trans, le_of_lt, lt_of_not-le, lt_of_lt_of_le, add-suc, suc-add}
use native.Mathlib.Nat.{mul-pos, mul-le-mul, mul-le-mul_left, mul-le-mul_right, le-mul_of_pos_right, le_of_mul-le-mul_left}
use native.Mathlib.Nat.{pow-zero, pow-suc, pow-le-pow_left}
use native.Mathlib.Decide.{dec_le}
use native.Mathlib.Omega.{arith}
use lib.Pow.{pow_pos, pow-add}
use Rattle.exact.specs.Fraction.{Fraction, whole, square, halved, ◌+ᶠ◌, ◌≤ᶠ◌, ◌<ᶠ◌}
use Rattle.exact.proofs.FractionLaws.{half_square_mono, half_square_cancel}
use Rattle.exact.specs.Series.{AtMostLn, AtLeastLn}
use Rattle.exact.proofs.SeriesLaws.{scaled_top, scaled_bottom, scaled_bottom_pos}
use Rattle.exact.proofs.LogarithmLaws.{logarithm_cuts_meet, ln_at_most_mono, ln_at_least_mono}
use Rattle.exact.proofs.LogarithmLaws.{ln_at_least_scaled, ln_one_at_most, tail}
use Rattle.exact.specs.Radius.{AtMostRadius, AtLeastRadius, RadiusEnclosure}

-- A lower cut of the radius is at most every upper cut.
pub radius_cuts_meet : (z g g' : Fraction) → AtMostRadius z g → AtLeastRadius z g' → g ≤ᶠ g'
unfolding AtMostRadius AtLeastRadius
radius_cuts_meet z g g' h h' =
    half_square_cancel g g' (logarithm_cuts_meet (halved (square g)) (halved (square g')) z h h')

-- Any two enclosures of a radius overlap; one is never empty.
pub radius_enclosures_overlap : {z : Fraction} (e e' : RadiusEnclosure z) → (e.low ≤ᶠ e'.high) × (e'.low ≤ᶠ e.high)
radius_enclosures_overlap {z} e e' = (
  radius_cuts_meet z e.low e'.high e.at_most e'.at_least,
  radius_cuts_meet z e'.low e.high e'.at_most e.at_least,
)

-- What is below a lower cut is one, and what is above an upper cut; so a fraction may be put for an equal one.
pub radius_at_most_mono : (z g g' : Fraction) → g' ≤ᶠ g → AtMostRadius z g → AtMostRadius z g'
unfolding AtMostRadius
radius_at_most_mono z g g' h =
    ln_at_most_mono (halved (square g)) (halved (square g')) z z (half_square_mono g' g h) (le_refl _)

pub radius_at_least_mono : (z g g' : Fraction) → g ≤ᶠ g' → AtLeastRadius z g → AtLeastRadius z g'
unfolding AtLeastRadius
radius_at_least_mono z g g' h =
    ln_at_least_mono (halved (square g)) (halved (square g')) z z (half_square_mono g g' h) (le_refl _)

-- A partial sum of p' / q is above that of p / q by p' / q - p / q or more.
gap_step :
    (k q a a' b e e' p p' : ℕ) → e ≤ e' → q * a + p' * b ≤ q * a' + p * b →
    q * (k * q * a + e) + p' * (k * q * b) ≤ q * (k * q * a' + e') + p * (k * q * b)
gap_step k q a a' b e e' p p' le h = omega (arith, mul-le-mul_left (k * q) h, mul-le-mul_left q le)

gap :
    (p p' q n : ℕ) → p ≤ p' →
    q * scaled_top p q (suc n) + p' * scaled_bottom q (suc n) ≤ q * scaled_top p' q (suc n) + p * scaled_bottom q (suc n)
unfolding scaled_top scaled_bottom
gap p p' q zero le = rw (pow-suc p 0, pow-zero p, pow-suc p' 0, pow-zero p') (omega arith)
gap p p' q (suc n) le =
    let k : ℕ = suc (suc n) in
    gap_step k q (scaled_top p q (suc n)) (scaled_top p' q (suc n)) (scaled_bottom q (suc n)) (p ^ k) (p' ^ k) p p'
    (pow-le-pow_left le k) (gap p p' q n le)

-- The terms of P / q fall below 1 / q.
doubling : (n : ℕ) → n ≤ 2 ^ n
doubling zero = omega arith
doubling (suc n) = omega (arith, doubling n, pow_pos n)

at_most_times : (n q : ℕ) {m : ℕ} → zero < q → m ≤ n → m ≤ n * q
at_most_times n q pos h = le_trans h (le-mul_of_pos_right n pos)

falling : (P q k : ℕ) → zero < q → P ^ k * 2 ^ k ≤ scaled_bottom q (suc (2 * P + k))
unfolding scaled_bottom
falling P q zero pos = rw (pow-zero P) (omega (arith, scaled_bottom_pos q (suc (2 * P + 0)) pos))
falling P q (suc k) pos =
    rw (add-suc, pow-suc P k, pow-suc 2 k)
    (omega (arith, mul-le-mul (at_most_times (suc (suc (2 * P + k))) q {m = 2 * P} pos (omega arith)) (falling P q k pos)))

fallen : (P q k : ℕ) → zero < q → q * P ^ suc (2 * P) ≤ 2 ^ k → q * P ^ suc (2 * P + k) ≤ scaled_bottom q (suc (2 * P + k))
fallen P q k pos h =
    rw (← suc-add (2 * P) k, pow-add P (suc (2 * P)) k, suc-add (2 * P) k)
    (omega (arith, falling P q k pos, mul-le-mul_left (P ^ k) h))

small_term : (P q : ℕ) → zero < q → (n : ℕ) × (2 * P ≤ suc (suc n) * q) × (q * P ^ suc n ≤ scaled_bottom q (suc n))
small_term P q pos =
    let k : ℕ = q * P ^ suc (2 * P) in
    (2 * P + k, at_most_times (suc (suc (2 * P + k))) q pos (omega arith), fallen P q k pos (doubling k))

-- A test that a number passes is passed by 0, or not by some smaller number and by the next.
abbrev Crossed : (ℕ → Type 0) → ℕ → Type 0
Crossed test n = test 0 ⊎ ((i : ℕ) × (i < n) × (¬ test i) × test (suc i))

crossing : (test : ℕ → Type 0) → ((i : ℕ) → Dec (test i)) → (n : ℕ) → test n → Crossed test n
crossing test dec zero h = inl h
crossing test dec (suc n) h = decided (dec n) (crossing test dec n)
  where
    lifted : Crossed test n → Crossed test (suc n)
    lifted (inl g) = inl g
    lifted (inr (i, lt, g, g')) = inr (i, omega arith, g, g')

    decided : Dec (test n) → (test n → Crossed test n) → Crossed test (suc n)
    decided (yes g) earlier = lifted (earlier g)
    decided (no g) earlier = inr (n, le_refl _, g, h)

-- On a grid of radii of step ε / 3: a partial sum of one is at least that of the one before and its last term once more, if
-- that term is small.
before_reached :
    (p p' P q n w t : ℕ) → zero < q → p < p' → p ≤ P → q * P ^ suc n ≤ scaled_bottom q (suc n) →
    scaled_top p' q (suc n) * w < t * scaled_bottom q (suc n) → (scaled_top p q (suc n) + p ^ suc n) * w ≤ t * scaled_bottom q (suc n)
before_reached p p' P q n w t pos lt le small h =
    omega (arith, mul-le-mul_right w step)
  where
    step : scaled_top p q (suc n) + p ^ suc n ≤ scaled_top p' q (suc n)
    step =
        le_of_mul-le-mul_left
        (omega (
          arith,
          gap p p' q n (le_of_lt lt),
          mul-le-mul_right (scaled_bottom q (suc n)) lt,
          mul-le-mul_left q (pow-le-pow_left le (suc n)),
        )) pos

-- A partial sum of p / q is at least p / q.
reaches : (p q n w t : ℕ) → zero < q → t * q ≤ p * w → t * scaled_bottom q (suc n) ≤ scaled_top p q (suc n) * w
reaches p q n w t pos h =
    le_of_mul-le-mul_left
    (omega (arith, mul-le-mul_right (scaled_bottom q (suc n)) h, mul-le-mul_right w (gap 0 p q n (omega arith)))) pos

far : (t d w h : ℕ) → zero < t → zero < d → zero < w → t * (2 * (h * h)) ≤ 2 * (h * t) * d * (2 * (h * t) * d) * w
far t d w h post posd posw =
    omega (arith, mul-le-mul_left (2 * (h * h)) (le-mul_of_pos_right t (mul-pos (mul-pos post (mul-pos posd posd)) posw)))

abbrev grid : Fraction → ℕ → Fraction
grid ε i = record { top = i * ε.top; bottom = 3 * ε.bottom; positive = omega (arith, ε.positive) }

-- Cuts of a logarithm by half squares: some are as near as one likes.
pub record NarrowRoot (z ε : Fraction) : Type 0 where
  pub low : Fraction
  pub high : Fraction
  pub at_most : AtMostLn (halved (square low)) z
  pub at_least : AtLeastLn (halved (square high)) z
  pub narrow : high <ᶠ low +ᶠ ε

pub narrow_root : (z ε : Fraction) → z.bottom ≤ z.top → zero < ε.top → NarrowRoot z ε
narrow_root z ε above pos =
    found
    (crossing reached (λ i. dec_le _ _) last
    (reaches (p last) q n z.bottom z.top posq
    (far z.top ε.top z.bottom (3 * ε.bottom) (lt_of_lt_of_le z.positive above) pos z.positive)))
  where
    p : ℕ → ℕ
    p i = i * ε.top * (i * ε.top)

    q : ℕ
    q = 2 * (3 * ε.bottom * (3 * ε.bottom))

    posq : zero < q
    posq = (halved (square (grid ε 0))).positive

    last : ℕ
    last = 2 * (3 * ε.bottom * z.top)

    small : (n : ℕ) × (2 * p last ≤ suc (suc n) * q) × (q * p last ^ suc n ≤ scaled_bottom q (suc n))
    small = small_term (p last) q posq

    n : ℕ
    n = small.0

    reached : ℕ → Type 0
    reached i = z.top * scaled_bottom q (suc n) ≤ scaled_top (p i) q (suc n) * z.bottom

    step : zero < ε.top * (ε.bottom * ε.bottom)
    step = mul-pos pos (mul-pos ε.positive ε.positive)

    least : AtMostLn (halved (square (grid ε 0))) z
    least = ln_at_most_mono (halved (square (grid ε 0))) (halved (square (grid ε 0))) (whole 1) z (le_refl _) (omega arith)
        (ln_one_at_most (halved (square (grid ε 0))) (omega arith))

    up_to_last : (i : ℕ) → i < last → p i ≤ p last
    up_to_last i lt = mul-le-mul (mul-le-mul_right ε.top (le_of_lt lt)) (mul-le-mul_right ε.top (le_of_lt lt))

    lower : (i : ℕ) → i < last → ¬ reached i → (low : Fraction) × AtMostLn (halved (square low)) z × (grid ε (suc i) <ᶠ low +ᶠ ε)
    lower zero lt h = (grid ε 0, least, omega (arith, step))
    lower (suc i) lt h = (
      grid ε i,
      tail (halved (square (grid ε i))) z (suc n) (le_trans (mul-le-mul_left 2 (up_to_last i (le_of_lt lt))) small.1)
          (before_reached (p i) (p (suc i)) (p last) q n z.bottom z.top posq (omega (arith, mul-pos pos pos))
          (up_to_last i (le_of_lt lt)) small.2 (lt_of_not-le h)),
      omega (arith, step),
    )

    found : Crossed reached last → NarrowRoot z ε
    found (inl h) = record {
      low = grid ε 0;
      high = grid ε 0;
      at_most = least;
      at_least = ln_at_least_scaled (halved (square (grid ε 0))) z (suc n) h;
      narrow = omega (arith, step);
    }
    found (inr (i, lt, short, h)) =
        let (low, at_most, narrow) = lower i lt short in
        record {
          low = low;
          high = grid ε (suc i);
          at_most = at_most;
          at_least = ln_at_least_scaled (halved (square (grid ε (suc i)))) z (suc n) h;
          narrow = narrow;
        }

-- For every first number above 0 and at most 1, and every fraction above 0, there is a narrower enclosure of the radius.
pub radius_narrow : (z ε : Fraction) → whole 1 ≤ᶠ z → zero < ε.top → (e : RadiusEnclosure z) × (e.high <ᶠ e.low +ᶠ ε)
unfolding AtMostRadius AtLeastRadius
radius_narrow z ε le pos =
    let root : NarrowRoot z ε = narrow_root z ε (omega arith) pos in
    (record { low = root.low; high = root.high; at_most = root.at_most; at_least = root.at_least }, root.narrow)

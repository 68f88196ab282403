-- The width of the enclosures of a rotation falls below every fraction above 0, for all angles at once.
use mathlib.Core.Path.{◌≡◌, ap}
use Prim.Native.Nat.{ℕ, zero, suc, ◌+◌, ◌-◌, ◌*◌, ◌/◌, ◌%◌, ◌^◌, ◌≤◌, ◌<◌, min, max}
use native.Mathlib.Nat.{le_dest, min-le_right, mul-sub, mul-pos, mul-le-mul_left, mul-le-mul_right, pow-succ'}
use native.Mathlib.Nat.{le_of_mul-le-mul_left, div-mul-le_self, lt-div-mul-add}
use native.Mathlib.Decide.{dec_le}
use native.Mathlib.Omega.{arith}
use lib.Pow.{pow_pos, pow_mono, pow-add}
use Rattle.exact.specs.Fraction.{Fraction, whole, dyadic, ◌+ᶠ◌, ◌<ᶠ◌}
use Rattle.exact.specs.Root.{root_down, root_up}
use Rattle.exact.specs.Rotation.{Rotation, quotient_up, none, half, compose}
use Rattle.exact.specs.Rotation.{halving, bit_rotation, bits_rotation, bit_by_bit, rotation}
use Rattle.exact.proofs.RootLaws.{lt_of_square_lt, root_down_at_most, root_down_next, root_up_previous}
use Rattle.exact.proofs.RotationLaws.{Good, good_bit, good_bits}

-- the cosine and the sine are enclosed to 2 ^ -e
pub record Narrow (e n : ℕ) (r : Rotation) : Type 0 where
  pub cosine : 2 ^ e * r.cos_high ≤ 2 ^ e * r.cos_low + 2 ^ n
  pub sine : 2 ^ e * r.sin_high ≤ 2 ^ e * r.sin_low + 2 ^ n

-- of rotations at n bits, one for each x: for every e they are all enclosed to 2 ^ -e from some n on
pub record Narrowing (r : ℕ → ℕ → Rotation) : Type 0 where
  pub start : ℕ → ℕ
  pub narrow : (e n x : ℕ) → start e ≤ n → Narrow e n (r n x)

-- such a family may be read at other numbers
narrowing_at : {r : ℕ → ℕ → Rotation} (f : ℕ → ℕ) → Narrowing r → Narrowing (λ n x. r n (f x))
narrowing_at f w = record { start = w.start; narrow = λ e n x. w.narrow e n (f x) }

-- four units of 2 ^ -n are at most 2 ^ -e
four_units : (e n : ℕ) → e + 2 ≤ n → 4 * 2 ^ e ≤ 2 ^ n
four_units e n h = omega (arith, pow_mono h, pow-add 2 e 2)

-- two roots that are t apart are of numbers at least 2 t² apart
root_gap : (N E z t X Y : ℕ) → X < 2 * (z * z) → 2 * ((z + t) * (z + t)) ≤ Y → 2 * E * E * Y ≤ 2 * E * E * X + N * N →
    2 * E * t ≤ N
root_gap N E z t X Y below above h =
    let apart : X + 2 * (t * t) ≤ Y = omega arith in
    let l = lt_of_square_lt (2 * E * t) (N + 1) (omega (arith, mul-le-mul_left (2 * E * E) apart)) in
    omega arith

-- the roots of two numbers that differ by at most N / (2 E²) differ by at most N / E, rounding included
root_width : (N E x y : ℕ) → 4 * E ≤ N → 2 * E * E * y ≤ 2 * E * E * x + N → E * root_up (y * N) ≤ E * root_down (x * N) + N
root_width N E x y big h = go (dec_le (root_down (x * N) + 1) (root_down (y * N)))
  where
    up : E * root_up (y * N) ≤ E * (root_down (y * N) + 1)
    up = mul-le-mul_left E (root_up_previous (y * N))

    scaled : 2 * E * E * (y * N) ≤ 2 * E * E * (x * N) + N * N
    scaled = omega (arith, mul-le-mul_right N h)

    go : Dec (root_down (x * N) + 1 ≤ root_down (y * N)) → E * root_up (y * N) ≤ E * root_down (x * N) + N
    go (yes l) =
        let (t, e) = le_dest l in
        let least = rw (← e) at (root_down_at_most (y * N)) in
        let gap = root_gap N E (root_down (x * N) + 1) t (x * N) (y * N) (root_down_next (x * N)) least scaled in
        omega (arith, up, gap, ap (λ (m : ℕ). E * m) e)
    go (no l) =
        let m : root_down (y * N) ≤ root_down (x * N) = omega arith in
        omega (arith, up, mul-le-mul_left E m)

-- half an angle to 2 ^ -e, from the angle to 2 ^ -(2 e + 1)
narrow_half : (e n : ℕ) {r : Rotation} → e + 2 ≤ n → Narrow (e + e + 1) n r → Narrow e n (half n r)
unfolding half
narrow_half e n {r} big w =
    let scale : 2 ^ (e + e + 1) ≡ 2 * 2 ^ e * 2 ^ e = rw (pow-add 2 (e + e) 1, pow-add 2 e e) (omega arith) in
    let width : 2 * 2 ^ e * 2 ^ e * r.cos_high ≤ 2 * 2 ^ e * 2 ^ e * r.cos_low + 2 ^ n = rw scale at w.cosine in
    let units = four_units e n big in
    record {
      cosine = root_width (2 ^ n) (2 ^ e) (2 ^ n + r.cos_low) (2 ^ n + r.cos_high) units (omega arith);
      sine = root_width (2 ^ n) (2 ^ e) (2 ^ n - r.cos_high) (2 ^ n - r.cos_low) units (rw (mul-sub, mul-sub) (omega arith));
    }

-- two products, no factor above N
product_width : (N : ℕ) {c c' C C' : ℕ} → c ≤ C → c' ≤ C' → C ≤ N → C' ≤ N → C * C' ≤ c * c' + N * ((C - c) + (C' - c'))
product_width N {c} {c'} {C} {C'} h h' l l' =
    let k : ℕ = C - c in
    let k' : ℕ = C' - c' in
    let d : C ≡ c + k = omega arith in
    let d' : C' ≡ c' + k' = omega arith in
    let m : c ≤ N = omega arith in
    omega (arith, ap (λ (x : ℕ). x * C') d, ap (λ (x : ℕ). c * x) d', mul-le-mul_left k l', mul-le-mul_right k' m)

-- the quotients by N of two numbers that are at most N times a width of N / (2 E) apart
quotient_width : (N E a b width : ℕ) → zero < N → 4 * E ≤ N → 2 * E * width ≤ N → b ≤ a + N * width →
    E * min N (quotient_up b N) ≤ E * (a / N) + N
quotient_width N E a b width p units small h =
    let up = div-mul-le_self (b + (N - 1)) N in
    let down = lt-div-mul-add {a = a} p in
    let l : quotient_up b N ≤ a / N + width + 2 = le_of_mul-le-mul_left {k = N} (omega (arith, up, down)) p in
    omega (arith, mul-le-mul_left E l, mul-le-mul_left E (min-le_right N (quotient_up b N)))

-- a width of at most 2 ^ -(e + 3)
eighth : (e n : ℕ) {low high : ℕ} → low ≤ high → 2 ^ (e + 3) * high ≤ 2 ^ (e + 3) * low + 2 ^ n →
    8 * (2 ^ e * (high - low)) ≤ 2 ^ n
eighth e n l = rw (pow-add 2 e 3, mul-sub) (λ h. omega arith)

-- a composition to 2 ^ -e, from both to 2 ^ -(e + 3): each of the four widths is at most N / (8 E), and their sum at most N / (2 E)
narrow_compose : (e n : ℕ) {r t : Rotation} → e + 2 ≤ n → Good n r → Good n t → Narrow (e + 3) n r → Narrow (e + 3) n t →
    Narrow e n (compose n r t)
unfolding compose
narrow_compose e n {r} {t} big g h w v =
    let N : ℕ = 2 ^ n in
    let E : ℕ = 2 ^ e in
    let width : ℕ = (r.cos_high - r.cos_low) + (t.cos_high - t.cos_low) + (r.sin_high - r.sin_low) + (t.sin_high - t.sin_low) in
    let x = eighth e n g.cosine w.cosine in
    let y = eighth e n g.sine w.sine in
    let x' = eighth e n h.cosine v.cosine in
    let y' = eighth e n h.sine v.sine in
    let small : 2 * E * width ≤ N = omega (arith, x, y, x', y') in
    let cc = product_width N g.cosine h.cosine g.cosine_most h.cosine_most in
    let ss = product_width N g.sine h.sine g.sine_most h.sine_most in
    let sc = product_width N g.sine h.cosine g.sine_most h.cosine_most in
    let cs = product_width N g.cosine h.sine g.cosine_most h.sine_most in
    let units = four_units e n big in
    record {
      cosine = quotient_width N E _ _ width (pow_pos n) units small (omega (arith, cc, ss));
      sine = quotient_width N E _ _ width (pow_pos n) units small (omega (arith, sc, cs));
    }

narrowing_half : {r : ℕ → ℕ → Rotation} → Narrowing r → Narrowing (λ n x. half n (r n x))
narrowing_half w = record {
  start = λ e. max (w.start (e + e + 1)) (e + 2);
  narrow = λ e n x big. narrow_half e n (omega arith) (w.narrow (e + e + 1) n x (omega arith));
}

narrowing_compose : {r t : ℕ → ℕ → Rotation} → ((n x : ℕ) → Good n (r n x)) → ((n x : ℕ) → Good n (t n x)) →
    Narrowing r → Narrowing t → Narrowing (λ n x. compose n (r n x) (t n x))
narrowing_compose g h w v = record {
  start = λ e. max (max (w.start (e + 3)) (v.start (e + 3))) (e + 2);
  narrow = λ e n x big.
      narrow_compose e n (omega arith) (g n x) (h n x) (w.narrow (e + 3) n x (omega arith)) (v.narrow (e + 3) n x (omega arith));
}

pub narrowing_none : Narrowing (λ n x. none n)
narrowing_none = record { start = λ e. 0; narrow = λ e n x big. omega arith }

pub narrowing_halving : (j : ℕ) → Narrowing (λ n x. halving n j)
unfolding halving
narrowing_halving zero = record { start = λ e. 0; narrow = λ e n x big. omega arith }
narrowing_halving (suc j) = narrowing_half (narrowing_halving j)

narrowing_bit : (j : ℕ) → Narrowing (λ n x. bit_rotation n j x)
unfolding bit_rotation
narrowing_bit j = record {
  start = (narrowing_halving j).start;
  narrow = λ e n. elim [ zero ↦ λ big. omega arith | suc x ↦ (narrowing_halving j).narrow e n x ];
}

pub narrowing_bits : (j count : ℕ) → Narrowing (λ n x. bits_rotation n j count x)
unfolding bits_rotation
narrowing_bits j zero = narrowing_none
narrowing_bits j (suc count) =
    narrowing_compose (λ n x. good_bits n j count (x / 2)) (λ n x. good_bit n _ (x % 2))
    (narrowing_at (λ x. x / 2) (narrowing_bits j count)) (narrowing_at (λ x. x % 2) (narrowing_bit _))

narrowing_rotation : Narrowing rotation
unfolding rotation
narrowing_rotation =
    narrowing_compose (λ n w. good_bits n 0 7 (w / 128)) (λ n w. good_bits n 7 7 (w % 128))
    (narrowing_at (λ w. w / 128) (narrowing_bits 0 7)) (narrowing_at (λ w. w % 128) (narrowing_bits 7 7))

-- widths in the words of Fraction.antt
pub record NarrowerThan (ε : Fraction) (n : ℕ) (r : Rotation) : Type 0 where
  pub cosine : dyadic n r.cos_high <ᶠ dyadic n r.cos_low +ᶠ ε
  pub sine : dyadic n r.sin_high <ᶠ dyadic n r.sin_low +ᶠ ε

-- a width of at most N / (2 Q), with q at most Q, is less than N p / q
narrower_than : (N Q p q low high : ℕ) → zero < N → zero < p → q ≤ Q → 2 * Q * high ≤ 2 * Q * low + N →
    high * (N * q) < (low * q + p * N) * N
narrower_than N Q p q low high one some l h = go (dec_le high low)
  where
    scale : N * N ≤ p * (N * N)
    scale = omega (arith, mul-le-mul_right (N * N) some)

    go : Dec (high ≤ low) → high * (N * q) < (low * q + p * N) * N
    go (yes m) = omega (arith, scale, mul-pos one one, mul-le-mul_right (N * q) m)
    go (no m) =
        let (k, d) = le_dest (let m' : low ≤ high = omega arith in m') in
        let small : 2 * (q * k) ≤ N = omega (arith, mul-le-mul_right k l, ap (λ (x : ℕ). Q * x) d) in
        omega (arith, scale, mul-pos one one, mul-le-mul_right N small, ap (λ (x : ℕ). x * (N * q)) d)

-- so 2 ^ -(q + 1) is less than p / q
lt_two_pow : (q : ℕ) → q < 2 ^ q
lt_two_pow zero = omega arith
lt_two_pow (suc q) = omega (arith, lt_two_pow q)

narrower : (ε : Fraction) → whole 0 <ᶠ ε → (n low high : ℕ) →
    2 ^ suc ε.bottom * high ≤ 2 ^ suc ε.bottom * low + 2 ^ n → dyadic n high <ᶠ dyadic n low +ᶠ ε
narrower ε above n low high h =
    let q : ℕ = ε.bottom in
    narrower_than (2 ^ n) (2 ^ q) ε.top q low high (pow_pos n) (omega (arith, above)) (omega (arith, lt_two_pow q))
    (rw (pow-succ' 2 q) at h)

-- for every fraction above 0 there is an n from which on all are narrower
narrower_from : {r : ℕ → ℕ → Rotation} → Narrowing r → (ε : Fraction) → whole 0 <ᶠ ε →
    (start : ℕ) × ((n w : ℕ) → start ≤ n → NarrowerThan ε n (r n w))
narrower_from {r} narrowing ε above = (
  narrowing.start (suc ε.bottom),
  λ n w big.
      let narrow = narrowing.narrow (suc ε.bottom) n w big in
      record {
        cosine = narrower ε above n (r n w).cos_low (r n w).cos_high narrow.cosine;
        sine = narrower ε above n (r n w).sin_low (r n w).sin_high narrow.sine;
      },
)

-- the enclosures of every w, composed either way
pub rotation_narrow : (ε : Fraction) → whole 0 <ᶠ ε → (start : ℕ) × ((n w : ℕ) → start ≤ n → NarrowerThan ε n (rotation n w))
rotation_narrow = narrower_from narrowing_rotation

pub bit_by_bit_narrow : (ε : Fraction) → whole 0 <ᶠ ε → (start : ℕ) × ((n w : ℕ) → start ≤ n → NarrowerThan ε n (bit_by_bit n w))
bit_by_bit_narrow = narrower_from (narrowing_bits 0 14)

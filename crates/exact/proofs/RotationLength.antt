-- The squares of the high ends of a rotation's cosine and sine sum to at least 1. The cosine of a composition must not be cut at 0
-- for that, and it is not: the angles of a rotation's bits, and the next half angle, sum to at most a quarter turn.
use mathlib.Core.Path.{◌≡◌, sym, ap, subst, fun_ext}
use Prim.Native.Nat.{ℕ, zero, suc, ◌+◌, ◌*◌, ◌/◌, ◌%◌, ◌^◌, ◌≤◌, ◌<◌, min}
use native.Mathlib.Nat.{add-zero, add-suc, add-mul, mul-add, mul_assoc, mul_comm, mul_left_comm, pow-succ', le_dest}
use native.Mathlib.Nat.{min-eq_left, min-eq_right, mul-pos, mul-le-mul, mul-le-mul_left, mul-le-mul_right, le_of_mul-le-mul_left}
use native.Mathlib.Decide.{dec_le}
use native.Mathlib.Omega.{arith}
use lib.Pow.{pow_pos, pow-add}
use Rattle.exact.specs.Fraction.{whole, dyadic, square, ◌≤ᶠ◌, ◌+ᶠ◌}
use Rattle.exact.specs.Rotation.{Rotation, none, compose, halving, bit_rotation, bits_rotation, rotation}
use Rattle.exact.proofs.RotationLaws.{Good, good_none, good_halving, good_bits, square_of_difference, quotient_up_at_least}
use Rattle.exact.proofs.RotationLaws.{Inside, inside_compose, inside_halving, inside_bits}
use Rattle.exact.proofs.RotationWidth.{Narrowing, narrowing_none, narrowing_halving, narrowing_bits}
use Rattle.exact.proofs.RotationBits.{compose_none_right}
use Rattle.exact.proofs.Limit.{Below, below_sum, below_by, below_exact, below_cancel}
use Rattle.exact.proofs.RotationLimit.{Family, cos, sin, half_of, compose_of, Sound, Long, Acute}
use Rattle.exact.proofs.RotationLimit.{times_one, times_cos, times_sin}
use Rattle.exact.proofs.RotationLimit.{half_cos_half, half_long, double_cos_least, double_cos_most, double_sin_least}
use Rattle.exact.proofs.RotationLimit.{compose_cos_least, compose_cos_most, compose_sin_most}

-- products multiplied out and sorted
pub ruleset expand = (add-mul, mul-add, mul_assoc, mul_comm, mul_left_comm)

-- the cosine of p and f, and that of p, f and r, are at least 0 in the limit
record Fits (p f r : Family) : Type 0 where
  two : Acute p f
  three :
      Below 3
      (λ n. sin p n * sin f n * cos r n + (sin p n * cos f n + cos p n * sin f n) * sin r n)
      (λ n. cos p n * cos f n * cos r n)

-- cos (p + f) cos 2h against sin (p + f) sin 2h, for cos 2h = c and sin 2h = s by the addition formulas
doubled : (N cp sp cf sf c s ch sh : ℕ) →
    sp * sf * (ch * ch) + cp * cf * (sh * sh) + 2 * ((sp * cf + cp * sf) * (sh * ch)) +
    ((N * c + sh * sh) * sp * sf + ch * ch * cp * cf + (N * s * sp * cf + N * s * cp * sf + cp * cf * c * N)) ≤
    cp * cf * (ch * ch) + sp * sf * (sh * sh) +
    (ch * ch * sp * sf + (N * c + sh * sh) * cp * cf +
    (2 * (sh * ch) * sp * cf + 2 * (sh * ch) * cp * sf + (sp * sf * c + (sp * cf + cp * sf) * s) * N))
doubled N cp sp cf sf c s ch sh = simp expand (omega arith)

-- the same against cos (p + g) cos h and sin (p + g) sin h, for g = f + h by the addition formulas
next : (N cp sp cf sf ch sh cg sg : ℕ) → cf * ch ≤ N * cg + sf * sh →
    (sp * sg * ch + (sp * cg + cp * sg) * sh) * N +
    (cp * cf * (ch * ch) + sp * sf * (sh * sh) +
    (cf * ch * sp * sh + ((sf * ch + cf * sh) * sp * ch + (sf * ch + cf * sh) * cp * sh))) ≤
    cp * cg * ch * N +
    (sp * sf * (ch * ch) + cp * cf * (sh * sh) + 2 * ((sp * cf + cp * sf) * (sh * ch)) +
    ((N * cg + sf * sh) * sp * sh + (N * sg * sp * ch + N * sg * cp * sh)))
next N cp sp cf sf ch sh cg sg l =
    let k = simp expand at (mul-le-mul_right (cp * ch) l) in
    simp expand (omega (arith, k))

-- Half of r, h, in place of r: where p, f and r sum to at most a quarter turn, so do p, f and h, and so do p, f + h and h.
module _ (p f r : Family) (u : Sound p) (v : Sound f) (w : Sound r) (h : Sound (half_of r)) (long : Long r)
    (fits : Fits p f r) where
  fits_doubled :
      Below 4
      (λ n.
      sin p n * sin f n * (cos (half_of r) n * cos (half_of r) n) + cos p n * cos f n * (sin (half_of r) n * sin (half_of r) n)
      + 2 * ((sin p n * cos f n + cos p n * sin f n) * (sin (half_of r) n * cos (half_of r) n)))
      (λ n.
      cos p n * cos f n * (cos (half_of r) n * cos (half_of r) n) + sin p n * sin f n * (sin (half_of r) n * sin (half_of r) n))
  fits_doubled =
      let cosine = times_sin v (times_sin u (double_cos_least r w)) in
      let cosine' = times_cos v (times_cos u (double_cos_most r w)) in
      let sine = times_cos v (times_sin u (double_sin_least r w long)) in
      let sine' = times_sin v (times_cos u (double_sin_least r w long)) in
      below_by (below_sum (below_sum cosine cosine') (below_sum (below_sum sine sine') (times_one fits.three))) (λ n.
      doubled (2 ^ n) (cos p n) (sin p n) (cos f n) (sin f n) (cos r n) (sin r n) (cos (half_of r) n) (sin (half_of r) n))

  fits_half : Fits p f (half_of r)
  fits_half = record {
    two = fits.two;
    three =
        below_cancel (cos (half_of r)) (half_cos_half r w)
        (below_by (below_sum (times_sin h (times_sin h fits.two)) fits_doubled) (λ n. omega arith));
  }

  fits_compose : Acute f (half_of r) → Fits p (compose_of f (half_of r)) (half_of r)
  fits_compose a = record {
    two =
        below_cancel (λ n. 2 ^ n) (λ n. omega arith)
        (below_by (below_sum (times_sin u (compose_sin_most f (half_of r) v h)) fits_half.three) (λ n.
        omega (arith, mul-le-mul_right (cos p n) (compose_cos_least f (half_of r) v h n))));
    three =
        let cosine = times_sin h (times_sin u (compose_cos_most f (half_of r) v h a)) in
        let sine = times_cos h (times_sin u (compose_sin_most f (half_of r) v h)) in
        let sine' = times_sin h (times_cos u (compose_sin_most f (half_of r) v h)) in
        below_cancel (λ n. 2 ^ n) (λ n. omega arith)
        (below_by (below_sum fits_doubled (below_sum cosine (below_sum sine sine'))) (λ n.
        next (2 ^ n) (cos p n) (sin p n) (cos f n) (sin f n) (cos (half_of r) n) (sin (half_of r) n)
        (cos (compose_of f (half_of r)) n) (sin (compose_of f (half_of r)) n) (compose_cos_least f (half_of r) v h n)));
  }

-- the rotations at hand
abbrev no_turn : Family
no_turn n = none n

abbrev pub halved : ℕ → Family
halved k n = halving n k

abbrev pub bits : ℕ → ℕ → ℕ → Family
bits j count x n = bits_rotation n j count x

sound : {r : ℕ → ℕ → Rotation} (x : ℕ) → ((n : ℕ) → Good n (r n x)) → Narrowing r → Sound (λ n. r n x)
sound x good w = record {
  good = good;
  cosine = record { start = w.start; close = λ e n l. omega (arith, (w.narrow e n x l).cosine) };
  sine = record { start = w.start; close = λ e n l. omega (arith, (w.narrow e n x l).sine) };
}

sound_none : Sound no_turn
sound_none = sound 0 good_none narrowing_none

pub sound_halving : (k : ℕ) → Sound (halved k)
sound_halving k = sound 0 (λ n. good_halving n k) (narrowing_halving k)

pub sound_bits : (j count x : ℕ) → Sound (bits j count x)
sound_bits j count x = sound x (λ n. good_bits n j count x) (narrowing_bits j count)

halving_long : (k : ℕ) → Long (halved k)
unfolding halving
halving_long zero = λ n. omega arith
halving_long (suc k) = half_long (halved k) (sound_halving k)

fits_next : (p f : Family) (k : ℕ) → Sound p → Sound f → Fits p f (halved k) → Fits p f (halved (suc k))
unfolding halving
fits_next p f k u v = fits_half p f (halved k) u v (sound_halving k) (sound_halving (suc k)) (halving_long k)

-- one bit more, set or not
fits_bit : (p f : Family) (k b : ℕ) → Sound p → Sound f → Acute f (halved (suc k)) → Fits p f (halved k) →
    Fits p (λ n. compose n (f n) (bit_rotation n (suc k) b)) (halved (suc k))
unfolding halving bit_rotation
fits_bit p f k zero u v a fits =
    let same = fun_ext (λ n. compose_none_right n (v.good n)) in
    subst (λ g. Fits p g (halved (suc k))) (sym same) (fits_next p f k u v fits)
fits_bit p f k (suc b) u v a fits =
    fits_compose p f (halved k) u v (sound_halving k) (sound_halving (suc k)) (halving_long k) fits a

fits_start : (p : Family) (j : ℕ) → Acute p (halved j) → Fits p no_turn (halved j)
fits_start p j a = record { two = below_exact (λ n. omega arith); three = below_by (times_one a) (λ n. omega arith) }

-- for no turn as p, f and r themselves sum to at most a quarter turn
fits_none : {f r : Family} → Fits no_turn f r → Acute f r
fits_none fits = below_cancel (λ n. 2 ^ n) (λ n. omega arith) (below_by fits.three (λ n. omega arith))

-- Where p and a quarter turn halved j times sum to at most a quarter turn, so do p, bits after the first j, and the last angle.
-- Shown with no turn for p beside it, so that the bits and the next angle fit.
bits_fit : (p : Family) (j : ℕ) → Sound p → Acute p (halved j) → (count x : ℕ) →
    Fits no_turn (bits j count x) (halved (j + count)) × Fits p (bits j count x) (halved (j + count))
unfolding bits_rotation
bits_fit p j u a zero x = rw (add-zero j) (fits_start no_turn j (below_exact (λ n. omega arith)), fits_start p j a)
bits_fit p j u a (suc count) x =
    let f : Family = bits j count (x / 2) in
    let k : ℕ = j + count in
    let v = sound_bits j count (x / 2) in
    let before = bits_fit p j u a count (x / 2) in
    let small = fits_none (fits_next no_turn f k sound_none v before.0) in
    let g : ℕ → Family = λ m n. compose n (f n) (bit_rotation n m (x % 2)) in
    subst (λ m. Fits no_turn (g m) (halved m) × Fits p (g m) (halved m)) (sym (add-suc j count))
    (fits_bit no_turn f k (x % 2) sound_none v small before.0, fits_bit p f k (x % 2) u v small before.1)

bits_acute : (j count x : ℕ) → Fits no_turn (bits j count x) (halved (j + count))
bits_acute j count x = (bits_fit no_turn j sound_none (below_exact (λ n. omega arith)) count x).0

pub bits_next : (j count x : ℕ) → Acute (bits j count x) (halved (j + suc count))
bits_next j count x =
    subst (λ m. Acute (bits j count x) (halved m)) (sym (add-suc j count))
    (fits_none (fits_next no_turn (bits j count x) (j + count) sound_none (sound_bits j count x) (bits_acute j count x)))

-- the coarse and the fine rotation sum to at most a quarter turn
pub coarse_fine : (a b : ℕ) → Acute (bits 0 7 a) (bits 7 7 b)
coarse_fine a b = (bits_fit (bits 0 7 a) 7 (sound_bits 0 7 a) (fits_none (bits_acute 0 7 a)) 7 b).1.two

-- lengths

unfoldable pub Nested : Family → Type 0
Nested g = (n d : ℕ) → Inside d (g n) (g (n + d))

-- a length of at least 1 up to 1 / (2 N²), at D times finer units
long_of_finer : (N D C S C' S' : ℕ) → zero < N → zero < D → C' ≤ D * C → S' ≤ D * S →
    2 * (N * N) * (N * D * (N * D)) ≤ 2 * (N * N) * (C' * C' + S' * S') + N * D * (N * D) → N * N ≤ C * C + S * S
long_of_finer N D C S C' S' p q c s h =
    let length : C' * C' + S' * S' ≤ D * D * (C * C + S * S) = omega (arith, mul-le-mul c c, mul-le-mul s s) in
    let scaled = mul-le-mul_left (2 * (N * N)) length in
    let positive = mul-pos (mul-pos p q) (mul-pos p q) in
    let l : 2 * (N * N) ≤ 2 * (C * C + S * S) + 1 = le_of_mul-le-mul_left (omega (arith, h, scaled)) positive in
    omega arith

-- a length of at least 1 in the limit is one at every n, since the enclosures are nested
long_of_limit : (g : Family) → Nested g → Below 2 (λ n. 2 ^ n * 2 ^ n) (λ n. cos g n * cos g n + sin g n * sin g n) → Long g
unfolding Nested
long_of_limit g nested h n =
    let e : ℕ = suc (n + n) in
    let d : ℕ = h.start e in
    let scale : 2 ^ e ≡ 2 * (2 ^ n * 2 ^ n) = rw (pow-succ' 2 (n + n), pow-add 2 n n) in
    let close = rw (pow-add 2 n d, scale) at (h.close e (n + d) (omega arith)) in
    let i = nested n d in
    long_of_finer (2 ^ n) (2 ^ d) _ _ _ _ (pow_pos n) (pow_pos d) i.cos_high i.sin_high (omega (arith, close))

-- (c c' - s s')² + (s c' + c s')² = (c² + s²) (c'² + s'²), for cg at least c c' - s s', and that below 0 by at most N² / E
length_of_sum : (E N c s c' s' cg : ℕ) → zero < E → N * N ≤ c * c + s * s → N * N ≤ c' * c' + s' * s' →
    E * (s * s') ≤ E * (c * c') + N * N → c * c' ≤ N * cg + s * s' →
    E * (N * N * (N * N)) ≤ E * (N * N * (cg * cg)) + E * ((s * c' + c * s') * (s * c' + c * s')) + N * N * (N * N)
length_of_sum E N c s c' s' cg p long long' acute least = go (dec_le (s * s') (c * c'))
  where
    v : ℕ
    v = s * c' + c * s'

    go : Dec (s * s' ≤ c * c') → E * (N * N * (N * N)) ≤ E * (N * N * (cg * cg)) + E * (v * v) + N * N * (N * N)
    go (yes l) =
        let (b, e) = le_dest l in
        let m : b ≤ N * cg = omega arith in
        let q = square_of_difference (c * c') (s * s') b e in
        let sum : N * N * (N * N) ≤ N * N * (cg * cg) + v * v = omega (arith, q, mul-le-mul m m, mul-le-mul long long') in
        omega (arith, mul-le-mul_left E sum)
    go (no l) =
        let m : c * c' ≤ s * s' = omega arith in
        let (b, e) = le_dest m in
        let small : E * b ≤ N * N = omega (arith, ap (λ x. E * x) e) in
        let one : b ≤ N * N = omega (arith, mul-le-mul_right b p) in
        let q = square_of_difference (s * s') (c * c') b e in
        let sum : N * N * (N * N) ≤ b * b + v * v = omega (arith, q, mul-le-mul long long') in
        omega (arith, mul-le-mul_left E sum, mul-le-mul_right b small, mul-le-mul_left (N * N) one)

-- the same with a sine that may be cut at 1
length_of_cut : (E N c s c' s' cg q : ℕ) → zero < E → zero < N → N * N ≤ c * c + s * s → N * N ≤ c' * c' + s' * s' →
    E * (s * s') ≤ E * (c * c') + N * N → c * c' ≤ N * cg + s * s' → s * c' + c * s' ≤ q * N →
    E * (N * N) ≤ E * (cg * cg + min N q * min N q) + N * N
length_of_cut E N c s c' s' cg q p positive long long' acute least up = go (dec_le N q)
  where
    go : Dec (N ≤ q) → E * (N * N) ≤ E * (cg * cg + min N q * min N q) + N * N
    go (yes l) = rw (min-eq_left l) (omega arith)
    go (no l) =
        let m : q ≤ N = omega arith in
        let sum = length_of_sum E N c s c' s' cg p long long' acute least in
        let square = mul-le-mul_left E (mul-le-mul up up) in
        rw (min-eq_right m) (le_of_mul-le-mul_left {k = N * N} (omega (arith, sum, square)) (mul-pos positive positive))

-- f and t have a length of at least 1 and sum to at most a quarter turn: so has their composition
long_compose : (f t : Family) → Sound f → Sound t → Nested f → Nested t → Long f → Long t → Acute f t → Long (compose_of f t)
unfolding compose Nested
long_compose f t v w i j long long' a = long_of_limit (compose_of f t) (λ n d. inside_compose n d (i n d) (j n d)) record {
  start = a.start;
  close = λ e n l.
      let up = quotient_up_at_least (sin f n * cos t n + cos f n * sin t n) (2 ^ n) (pow_pos n) in
      let least = compose_cos_least f t v w n in
      let acute : 2 ^ e * (sin f n * sin t n) ≤ 2 ^ e * (cos f n * cos t n) + 2 ^ n * 2 ^ n = omega (arith, a.close e n l) in
      omega (arith, length_of_cut (2 ^ e) (2 ^ n) _ _ _ _ _ _ (pow_pos e) (pow_pos n) (long n) (long' n) acute least up);
}

pub nested_bits : (j count x : ℕ) → Nested (bits j count x)
unfolding Nested
nested_bits j count x n d = inside_bits n d j count x

nested_halving : (k : ℕ) → Nested (halved k)
unfolding Nested
nested_halving k n d = inside_halving n d k

long_bit : (f : Family) (m b : ℕ) → Sound f → Nested f → Long f → Acute f (halved m) →
    Long (λ n. compose n (f n) (bit_rotation n m b))
unfolding bit_rotation
long_bit f m zero v i long a = subst Long (sym (fun_ext (λ n. compose_none_right n (v.good n)))) long
long_bit f m (suc b) v i long a = long_compose f (halved m) v (sound_halving m) i (nested_halving m) long (halving_long m) a

bits_long : (j count x : ℕ) → Long (bits j count x)
unfolding bits_rotation
bits_long j zero x = λ n. omega arith
bits_long j (suc count) x =
    long_bit (bits j count (x / 2)) (j + suc count) (x % 2) (sound_bits j count (x / 2)) (nested_bits j count (x / 2))
    (bits_long j count (x / 2)) (bits_next j count (x / 2))

rotation_long : (w : ℕ) → Long (λ n. rotation n w)
unfolding rotation
rotation_long w =
    let a : ℕ = w / 128 in
    let b : ℕ = w % 128 in
    long_compose (bits 0 7 a) (bits 7 7 b) (sound_bits 0 7 a) (sound_bits 7 7 b) (nested_bits 0 7 a) (nested_bits 7 7 b)
    (bits_long 0 7 a) (bits_long 7 7 b) (coarse_fine a b)

-- a rotation, beside `rotation_length_low`: the squares of the high ends sum to at least 1
pub rotation_length_high : (n w : ℕ) →
    whole 1 ≤ᶠ square (dyadic n (rotation n w).cos_high) +ᶠ square (dyadic n (rotation n w).sin_high)
rotation_length_high n w = omega (arith, mul-le-mul_right (2 ^ n * 2 ^ n) (rotation_long w n))

-- The order of composition does not matter: the rotations of the 14 bits one after another, and the coarse with the fine, enclose the
-- same cosine and sine.
use mathlib.Core.Path.{◌≡◌, sym, subst, fun_ext}
use Prim.Native.Nat.{ℕ, zero, suc, ◌+◌, ◌*◌, ◌/◌, ◌%◌, ◌^◌, ◌≤◌, ◌<◌}
use native.Mathlib.Nat.{le_refl, add-zero, zero-add, add-suc, div-add-mod', mod-lt, mul-pos, mul-le-mul_left, pow-succ'}
use native.Mathlib.Nat.{le_of_mul-le-mul_left}
use native.Mathlib.Omega.{arith}
use lib.Pow.{pow_pos, pow-add}
use lib.Bits.{block_half, block_odd}
use Rattle.exact.specs.Fraction.{dyadic, ◌≤ᶠ◌}
use Rattle.exact.specs.Rotation.{none, compose, bit_rotation, bits_rotation, bit_by_bit, rotation}
use Rattle.exact.proofs.RotationLaws.{Good, good_bits, good_compose, rotation_good, rotation_nested, Overlap}
use Rattle.exact.proofs.RotationBits.{compose_none_right}
use Rattle.exact.proofs.Limit.{Below, below_sum, below_by, below_exact, below_slack, below_times, below_cancel}
use Rattle.exact.proofs.RotationLimit.{Family, cos, sin, compose_of, Sound, Acute, times_one, times_cos, times_sin}
use Rattle.exact.proofs.RotationLimit.{compose_cos_least, compose_cos_most, compose_sin_most}
use Rattle.exact.proofs.RotationLength.{expand, halved, bits, sound_halving, sound_bits, bits_next, coarse_fine}
use Rattle.exact.proofs.RotationLength.{Nested, nested_bits}

-- f and g are equal in the limit, as products of d numbers
record Equal (d : ℕ) (f g : ℕ → ℕ) : Type 0 where
  most : Below d f g
  least : Below d g f

turned : {d : ℕ} {f g : ℕ → ℕ} → Equal d f g → Equal d g f
turned h = record { most = h.least; least = h.most }

equal_exact : {d : ℕ} {f g : ℕ → ℕ} → ((n : ℕ) → f n ≡ g n) → Equal d f g
equal_exact h = record { most = below_exact (λ n. omega (arith, h n)); least = below_exact (λ n. omega (arith, h n)) }

equal_sum : {d : ℕ} {f g f' g' : ℕ → ℕ} → Equal d f g → Equal d f' g' → Equal d (λ n. f n + f' n) (λ n. g n + g' n)
equal_sum h k = record { most = below_sum h.most k.most; least = below_sum h.least k.least }

-- f' exceeds g' by what f exceeds g
equal_by : {d : ℕ} {f g f' g' : ℕ → ℕ} → Equal d f g → ((n : ℕ) → f' n + g n ≡ g' n + f n) → Equal d f' g'
equal_by h by = record {
  most = below_by h.most (λ n. omega (arith, by n));
  least = below_by h.least (λ n. omega (arith, by n));
}

-- times 1, a cosine or a sine
equal_one : {d : ℕ} {f g : ℕ → ℕ} → Equal d f g → Equal (suc d) (λ n. f n * 2 ^ n) (λ n. g n * 2 ^ n)
equal_one k = record { most = times_one k.most; least = times_one k.least }

equal_cos : {r : Family} {d : ℕ} {f g : ℕ → ℕ} → Sound r → Equal d f g → Equal (suc d) (λ n. f n * cos r n) (λ n. g n * cos r n)
equal_cos w k = record { most = times_cos w k.most; least = times_cos w k.least }

equal_sin : {r : Family} {d : ℕ} {f g : ℕ → ℕ} → Sound r → Equal d f g → Equal (suc d) (λ n. f n * sin r n) (λ n. g n * sin r n)
equal_sin w k = record { most = times_sin w k.most; least = times_sin w k.least }

-- a factor of 1 taken away
equal_cancel : {d : ℕ} {f g : ℕ → ℕ} → Equal (suc d) (λ n. f n * 2 ^ n) (λ n. g n * 2 ^ n) → Equal d f g
equal_cancel k = record {
  most = below_cancel (λ n. 2 ^ n) (λ n. omega arith) k.most;
  least = below_cancel (λ n. 2 ^ n) (λ n. omega arith) k.least;
}

-- the sine of a composition is at least that of the addition formula: by the low ends, which nothing cuts
floor_close : (N x : ℕ) → zero < N → x ≤ N * (x / N) + 8 * N
floor_close N x p = omega (arith, div-add-mod' x N, mod-lt x p)

compose_sin_least : (f t : Family) → Sound f → Sound t →
    Below 2 (λ n. sin f n * cos t n + cos f n * sin t n) (λ n. 2 ^ n * sin (compose_of f t) n)
unfolding compose
compose_sin_least f t v w =
    let cosine = below_times (λ n. (f n).cos_low) (λ n. omega (arith, v.good n)) w.sine in
    let sine = below_times (λ n. (f n).sin_low) (λ n. omega (arith, v.good n)) w.cosine in
    below_by
    (below_sum (below_slack floor) (below_sum (below_sum (times_cos w v.sine) sine) (below_sum (times_sin w v.cosine) cosine)))
    (λ n. omega arith)
  where
    low : ℕ → ℕ
    low n = (f n).sin_low * (t n).cos_low + (f n).cos_low * (t n).sin_low

    floor : (n : ℕ) → low n ≤ 2 ^ n * sin (compose_of f t) n + 8 * 2 ^ n
    floor n =
        let least = (good_compose n (v.good n) (w.good n)).sine in
        omega (arith, floor_close (2 ^ n) (low n) (pow_pos n), mul-le-mul_left (2 ^ n) least)

-- g has the cosine and the sine of the angles of p and f together, by the addition formulas
record Sum (p f g : Family) : Type 0 where
  cosine : Equal 2 (λ n. 2 ^ n * cos g n + sin p n * sin f n) (λ n. cos p n * cos f n)
  sine : Equal 2 (λ n. 2 ^ n * sin g n) (λ n. sin p n * cos f n + cos p n * sin f n)

sum_compose : (f t : Family) → Sound f → Sound t → Acute f t → Sum f t (compose_of f t)
sum_compose f t v w a = record {
  cosine = record { most = compose_cos_most f t v w a; least = below_exact (compose_cos_least f t v w) };
  sine = record { most = compose_sin_most f t v w; least = compose_sin_least f t v w };
}

-- (p + f) + h = p + (f + h)
sum_next : {p f g h f' g' : Family} → Sound p → Sound h → Sum p f g → Sum g h g' → Sum f h f' → Sum p f' g'
sum_next u v s s' t = record {
  cosine =
      equal_cancel
      (equal_by
      (equal_sum (equal_sum (equal_one s'.cosine) (equal_cos v s.cosine))
      (equal_sum (equal_sin v (turned s.sine)) (equal_sum (equal_sin u t.sine) (equal_cos u (turned t.cosine)))))
      (λ n. simp expand (omega arith)));
  sine =
      equal_cancel
      (equal_by
      (equal_sum (equal_sum (equal_one s'.sine) (equal_cos v s.sine))
      (equal_sum (equal_sin v s.cosine) (equal_sum (equal_sin u (turned t.cosine)) (equal_cos u (turned t.sine)))))
      (λ n. simp expand (omega arith)));
}

-- one bit more, set or not
sum_bit : (p f g : Family) (k b : ℕ) → Sound p → Sound f → Sound g → Acute f (halved k) → Acute g (halved k) → Sum p f g →
    Sum p (λ n. compose n (f n) (bit_rotation n k b)) (λ n. compose n (g n) (bit_rotation n k b))
unfolding bit_rotation
sum_bit p f g k zero u v w a a' s =
    let same = fun_ext (λ n. compose_none_right n (v.good n)) in
    let same' = fun_ext (λ n. compose_none_right n (w.good n)) in
    subst (λ x. Sum p x (λ n. compose n (g n) (none n))) (sym same) (subst (λ x. Sum p f x) (sym same') s)
sum_bit p f g k (suc b) u v w a a' s =
    let h = sound_halving k in
    sum_next u h s (sum_compose g (halved k) w h a') (sum_compose f (halved k) v h a)

-- the bits of high, and those of low after them
sum_bits : (high j count low : ℕ) → low < 2 ^ count →
    Sum (bits 0 j high) (bits j count low) (bits 0 (j + count) (high * 2 ^ count + low))
unfolding bits_rotation
sum_bits high j zero low l =
    let whole : high * 2 ^ 0 + low ≡ high = omega arith in
    let e : bits 0 (j + 0) (high * 2 ^ 0 + low) ≡ bits 0 j high = fun_ext (λ n. rw (add-zero j, whole)) in
    subst (λ x. Sum (bits 0 j high) (bits j 0 low) x) (sym e)
    record { cosine = equal_exact (λ n. omega arith); sine = equal_exact (λ n. omega arith) }
sum_bits high j (suc count) low l =
    let y : ℕ = high * 2 ^ count + low / 2 in
    let k : 0 + suc (j + count) ≡ j + suc count = omega arith in
    let g : Family = λ n. compose n (bits_rotation n 0 (j + count) y) (bit_rotation n (j + suc count) (low % 2)) in
    let e : bits 0 (j + suc count) (high * 2 ^ suc count + low) ≡ g = fun_ext (λ n.
    rw (add-suc j count, block_half high count low, block_odd high count low, zero-add (suc (j + count)))) in
    let half : low / 2 < 2 ^ count = omega (arith, pow-succ' 2 count) in
    subst (λ x. Sum (bits 0 j high) (bits j (suc count) low) x) (sym e)
    (sum_bit (bits 0 j high) (bits j count (low / 2)) (bits 0 (j + count) y) (j + suc count) (low % 2)
    (sound_bits 0 j high) (sound_bits j count (low / 2)) (sound_bits 0 (j + count) y) (bits_next j count (low / 2))
    (subst (λ m. Acute (bits 0 (j + count) y) (halved m)) k (bits_next 0 (j + count) y))
    (sum_bits high j count (low / 2) half))

-- two families that have the angles of p and f together are equal
same_sum : {p f g g' : Family} → Sum p f g → Sum p f g' → Equal 1 (cos g) (cos g') × Equal 1 (sin g) (sin g')
same_sum s t = (
  equal_cancel (equal_by (equal_sum s.cosine (turned t.cosine)) (λ n. omega arith)),
  equal_cancel (equal_by (equal_sum s.sine (turned t.sine)) (λ n. omega arith)),
)

-- an end at N, at most x at N M D, and one at M, at least y there
crossed : (N M D low high x y : ℕ) → zero < N → zero < M → zero < D → M * D * low ≤ x → y ≤ N * D * high →
    2 * (N * M) * x ≤ 2 * (N * M) * y + N * (M * D) → low * M ≤ high * N
crossed N M D low high x y p q r lower upper close =
    let scaled = mul-le-mul_left (2 * (N * M)) lower in
    let scaled' = mul-le-mul_left (2 * (N * M)) upper in
    let positive = mul-pos (mul-pos p q) r in
    let l : 2 * (low * M) ≤ 2 * (high * N) + 1 = le_of_mul-le-mul_left {k = N * M * D} (omega (arith, close, scaled, scaled')) positive in
    omega arith

-- what is at most f at all finer units is at most what is at least g there, if f is at most g in the limit
ends_overlap : {f g : ℕ → ℕ} → Below 1 f g → (n m low high : ℕ) → ((d : ℕ) → 2 ^ d * low ≤ f (n + d)) →
    ((d : ℕ) → g (m + d) ≤ 2 ^ d * high) → dyadic n low ≤ᶠ dyadic m high
ends_overlap {f} {g} h n m low high lower upper =
    let e : ℕ = suc (n + m) in
    let d : ℕ = h.start e in
    let k : ℕ = n + (m + d) in
    let same : m + (n + d) ≡ k = omega arith in
    let scale : 2 ^ e ≡ 2 * (2 ^ n * 2 ^ m) = rw (pow-succ' 2 (n + m), pow-add 2 n m) in
    let size : 2 ^ k ≡ 2 ^ n * (2 ^ m * 2 ^ d) = rw (pow-add 2 n (m + d), pow-add 2 m d) in
    let close = rw (scale, size) at (h.close e k (omega arith)) in
    crossed (2 ^ n) (2 ^ m) (2 ^ d) low high (f k) (g k) (pow_pos n) (pow_pos m) (pow_pos d) (rw (pow-add 2 m d) at (lower (m + d)))
    (rw (same, pow-add 2 n d) at (upper (n + d))) (omega (arith, close))

overlap_of_limit : (f g : Family) → Nested f → Nested g → ((n : ℕ) → Good n (f n)) → Below 1 (cos f) (cos g) →
    Below 1 (sin f) (sin g) → (n m : ℕ) → Overlap n m (f n) (g m)
unfolding Nested
overlap_of_limit f g i j good c s n m = record {
  cosine = ends_overlap c n m _ _ (λ d. omega (arith, (i n d).cos_low, (good (n + d)).cosine)) (λ d. (j m d).cos_high);
  sine = ends_overlap s n m _ _ (λ d. omega (arith, (i n d).sin_low, (good (n + d)).sine)) (λ d. (j m d).sin_high);
}

-- any two enclosures of the rotation by the 14 bits of w one after another overlap
pub bit_by_bit_overlaps : (n m w : ℕ) → Overlap n m (bit_by_bit n w) (bit_by_bit m w)
bit_by_bit_overlaps n m w =
    let nested = nested_bits 0 14 w in
    overlap_of_limit (bits 0 14 w) (bits 0 14 w) nested nested (λ k. good_bits k 0 14 w) (below_exact (λ k. le_refl _))
    (below_exact (λ k. le_refl _)) n m

-- and they overlap those of the rotation by the coarse and the fine
pub order_overlaps : (n m w : ℕ) → Overlap n m (bit_by_bit n w) (rotation m w) × Overlap m n (rotation m w) (bit_by_bit n w)
unfolding rotation Nested
order_overlaps n m w =
    let a : ℕ = w / 128 in
    let b : ℕ = w % 128 in
    let P : Family = bits 0 7 a in
    let Q : Family = bits 7 7 b in
    let whole : a * 128 + b ≡ w = omega arith in
    let plain : Sum P Q (bits 0 14 w) = subst (λ x. Sum P Q (bits 0 14 x)) whole (sum_bits a 7 7 b (omega arith)) in
    let parts : Sum P Q (compose_of P Q) = sum_compose P Q (sound_bits 0 7 a) (sound_bits 7 7 b) (coarse_fine a b) in
    let (c, s) = same_sum plain parts in
    let nested : Nested (compose_of P Q) = λ k d. rotation_nested k d w in (
      overlap_of_limit (bits 0 14 w) (compose_of P Q) (nested_bits 0 14 w) nested (λ k. good_bits k 0 14 w) c.most s.most n m,
      overlap_of_limit (compose_of P Q) (bits 0 14 w) nested (nested_bits 0 14 w) (λ k. rotation_good k w) c.least s.least m n,
    )

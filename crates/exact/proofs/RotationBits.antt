-- A rotation composes what document 01 says: no turn changes nothing, and a single bit of w turns by its own half-angle rotation.
use mathlib.Core.Path.{◌≡◌, refl, ap, ◌∙◌}
use Prim.Native.Nat.{ℕ, zero, suc, ◌+◌, ◌-◌, ◌*◌, ◌/◌, ◌^◌, ◌≤◌, ◌<◌, min}
use native.Mathlib.Nat.{sub-zero, suc-sub-suc, pow-succ', mul-div_cancel_left, mul-mod_right, mod-eq_of_lt}
use native.Mathlib.Nat.{div-eq_of_eq-mul_left, div-eq_of_lt, div-eq_of_lt-le}
use native.Mathlib.Decide.{dec_lt}
use native.Mathlib.Omega.{arith}
use lib.Pow.{pow_pos, pow-lt, pow-add}
use Rattle.exact.specs.Rotation.{Rotation, quotient_up, none, compose, halving, bit_rotation, bits_rotation, rotation}
use Rattle.exact.proofs.RotationLaws.{Good, good_none, good_halving}

-- a product by N over N
pub floor_exact : (N x k : ℕ) → zero < N → x ≡ k * N → x / N ≡ k
floor_exact N x k p e = div-eq_of_eq-mul_left p e

pub ceiling_exact : (N x k : ℕ) → zero < N → x ≡ k * N → k ≤ N → min N (quotient_up x N) ≡ k
ceiling_exact N x k p e l =
    let up : quotient_up x N ≡ k = div-eq_of_lt-le N (omega arith) (omega arith) in
    omega (arith, up)

-- rotations with the same ends
same_ends : {r t : Rotation} → r.cos_low ≡ t.cos_low → r.cos_high ≡ t.cos_high → r.sin_low ≡ t.sin_low →
    r.sin_high ≡ t.sin_high → r ≡ t
same_ends a b c d i = record { cos_low = a i; cos_high = b i; sin_low = c i; sin_high = d i }

-- no turn, after or before another, changes nothing
pub compose_none_right : (n : ℕ) {r : Rotation} → Good n r → compose n r (none n) ≡ r
unfolding compose
compose_none_right n g =
    same_ends
    (floor_exact (2 ^ n) _ _ (pow_pos n) (omega arith))
    (ceiling_exact (2 ^ n) _ _ (pow_pos n) (omega arith) g.cosine_most)
    (floor_exact (2 ^ n) _ _ (pow_pos n) (omega arith))
    (ceiling_exact (2 ^ n) _ _ (pow_pos n) (omega arith) g.sine_most)

pub compose_none_left : (n : ℕ) {r : Rotation} → Good n r → compose n (none n) r ≡ r
unfolding compose
compose_none_left n g =
    same_ends
    (floor_exact (2 ^ n) _ _ (pow_pos n) (omega arith))
    (ceiling_exact (2 ^ n) _ _ (pow_pos n) (omega arith) g.cosine_most)
    (floor_exact (2 ^ n) _ _ (pow_pos n) (omega arith))
    (ceiling_exact (2 ^ n) _ _ (pow_pos n) (omega arith) g.sine_most)

-- no bit set
pub bits_of_zero : (n j count : ℕ) → bits_rotation n j count 0 ≡ none n
unfolding bits_rotation bit_rotation
bits_of_zero n j zero = refl
bits_of_zero n j (suc count) = rw (bits_of_zero n j count) (compose_none_right n (good_none n))

-- one bit set
bits_of_power : (n j count i : ℕ) → i < count → bits_rotation n j count (2 ^ i) ≡ halving n (j + (count - i))
unfolding bits_rotation bit_rotation
bits_of_power n j zero i l = absurd (let f : ⊥ = omega arith in f)
bits_of_power n j (suc count) zero l =
    rw (sub-zero (suc count), bits_of_zero n j count) (compose_none_left n (good_halving n (j + suc count)))
bits_of_power n j (suc count) (suc i) l =
    let whole : 2 * 2 ^ i / 2 ≡ 2 ^ i = mul-div_cancel_left (2 ^ i) (omega arith) in
    rw (pow-succ' 2 i, whole, mul-mod_right 2 (2 ^ i), suc-sub-suc count i, bits_of_power n j count i (omega arith))
    (compose_none_right n (good_halving n (j + (count - i))))

-- bit i of w turns by a quarter halved 14 - i times
pub rotation_of_bit : (n i : ℕ) → i < 14 → rotation n (2 ^ i) ≡ halving n (14 - i)
unfolding rotation
rotation_of_bit n i l = go (dec_lt i 7)
  where
    go : Dec (i < 7) → rotation n (2 ^ i) ≡ halving n (14 - i)
    go (yes low) =
        let small : 2 ^ i < 128 = pow-lt low in
        let angle : 7 + (7 - i) ≡ 14 - i = omega arith in
        rw (div-eq_of_lt small, mod-eq_of_lt small, bits_of_zero n 0 7, bits_of_power n 7 7 i low, angle)
        (compose_none_left n (good_halving n (14 - i)))
    go (no high) =
        let k : ℕ = i - 7 in
        let e : i ≡ 7 + k = omega arith in
        let angle : 0 + (7 - k) ≡ 14 - i = omega arith in
        let power : 2 ^ i ≡ 128 * 2 ^ k = ap (λ x. 2 ^ x) e ∙ pow-add 2 7 k in
        let whole : 128 * 2 ^ k / 128 ≡ 2 ^ k = mul-div_cancel_left (2 ^ k) (omega arith) in
        rw (power, whole, mul-mod_right 128 (2 ^ k), bits_of_zero n 7 7, bits_of_power n 0 7 k (omega arith), angle)
        (compose_none_right n (good_halving n (14 - i)))

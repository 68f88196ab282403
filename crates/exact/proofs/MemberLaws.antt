-- Laws of the sine and the cosine of the exact rotation for v, turned by quarters with their signs (`members` of Pair.antt).
use mathlib.Core.Path.{◌≡◌, refl, sym, ap, ap₂}
use mathlib.Core.Bool.{false, not}
use Prim.Native.Nat.{ℕ, zero, suc, ◌/◌, ◌%◌, ◌+◌, ◌*◌, ◌^◌, ◌≤◌, ◌<◌, min}
use native.Mathlib.Nat.{mul-le-mul_right}
use lib.Pow.{pow_pos}
use native.Mathlib.Omega.{arith}
use Rattle.exact.specs.Fraction.{Fraction, whole, dyadic, ◌≤ᶠ◌, ◌<ᶠ◌, ◌+ᶠ◌}
use Rattle.exact.specs.Rotation.{Rotation, quarter_turn, compose, quotient_up, rotation}
use Rattle.exact.proofs.RotationLaws.{Good, rotation_good, rotations_overlap}
use Rattle.exact.proofs.RotationBits.{floor_exact, ceiling_exact}
use Rattle.exact.proofs.RotationWidth.{rotation_narrow}
use Rattle.exact.specs.Pair.{Enclosure, turn, negate, sine_of, cosine_of, members}

-- Quarter turns follow each other: one more of them, mod 4, is one after q.
pub turn_next : {A : Type 0} (neg : A → A) → ((x : A) → neg (neg x) ≡ x) → (q : ℕ) (p : A × A) → q < 4 →
    turn neg ((q + 1) % 4) p ≡ turn neg 1 (turn neg q p)
turn_next neg i zero p l = refl
turn_next neg i (suc zero) p l = refl
turn_next neg i (suc (suc zero)) p l = ap (λ x. (neg p.1, x)) (sym (i p.0))
turn_next neg i (suc (suc (suc zero))) p l = ap (λ x. (p.0, x)) (sym (i p.1))
turn_next neg i (suc (suc (suc (suc q)))) p l = absurd (let f : ⊥ = omega arith in f)

-- two of them change both signs
pub turn_twice : {A : Type 0} (neg : A → A) (p : A × A) → turn neg 1 (turn neg 1 p) ≡ (neg p.0, neg p.1)
turn_twice neg p = refl

-- one of them is what the addition formula gives: the sine of an angle and a quarter is the cosine of the angle
pub turn_quarter : (n : ℕ) (r : Rotation) → Good n r →
    sine_of n (compose n r (quarter_turn n)) ≡ (turn negate 1 (sine_of n r, cosine_of n r)).0
unfolding compose
turn_quarter n r g =
    let low : (r.sin_low * 0 + r.cos_low * 2 ^ n) / 2 ^ n ≡ r.cos_low = floor_exact (2 ^ n) _ _ (pow_pos n) (omega arith) in
    let high : min (2 ^ n) (quotient_up (r.sin_high * 0 + r.cos_high * 2 ^ n) (2 ^ n)) ≡ r.cos_high =
    ceiling_exact (2 ^ n) _ _ (pow_pos n) (omega arith) g.cosine_most in
    ap₂ {A = ℕ} {B = ℕ} (λ x y. record { negative = false; low = dyadic n x; high = dyadic n y }) low high

-- Where a relation is kept when both sides change sign, it is kept by the quarter turns.
pub turn_keeps : {A B : Type 0} (negA : A → A) (negB : B → B) (R : A → B → Type 0) → ((a : A) (b : B) → R a b → R (negA a) (negB b)) →
    (q : ℕ) (p : A × A) (t : B × B) → R p.0 t.0 → R p.1 t.1 →
    R (turn negA q p).0 (turn negB q t).0 × R (turn negA q p).1 (turn negB q t).1
turn_keeps negA negB R k zero p t a b = (a, b)
turn_keeps negA negB R k (suc zero) p t a b = (b, k p.0 t.0 a)
turn_keeps negA negB R k (suc (suc zero)) p t a b = (k p.0 t.0 a, k p.1 t.1 b)
turn_keeps negA negB R k (suc (suc (suc q))) p t a b = (k p.1 t.1 b, a)

-- what holds of the sine and the cosine of every w holds of both members of every v, for a relation that both signs may change in
members_keep : (R : Enclosure → Enclosure → Type 0) → ((e f : Enclosure) → R e f → R (negate e) (negate f)) → (n m : ℕ) →
    ((w : ℕ) → R (sine_of n (rotation n w)) (sine_of m (rotation m w)) × R (cosine_of n (rotation n w)) (cosine_of m (rotation m w))) →
    (v : ℕ) → R (members n v).0 (members m v).0 × R (members n v).1 (members m v).1
unfolding members
members_keep R k n m h v = turn_keeps negate negate R k (v / 16384) _ _ (h (v % 16384)).0 (h (v % 16384)).1

-- an enclosure has a point, and its points are at most 1 in size
pub record Proper (e : Enclosure) : Type 0 where
  pub ends : e.low ≤ᶠ e.high
  pub most : e.high ≤ᶠ whole 1

pub members_proper : (n v : ℕ) → Proper (members n v).0 × Proper (members n v).1
members_proper n =
    members_keep (λ e f. Proper e) (λ e f p. record { ends = p.ends; most = p.most }) n n
    (λ w.
    let g = rotation_good n w in
    omega (arith, mul-le-mul_right (2 ^ n) g.sine, mul-le-mul_right (2 ^ n) g.cosine))

-- two enclosures have a point in common
pub record Meet (e f : Enclosure) : Type 0 where
  pub sign : e.negative ≡ f.negative
  pub low : e.low ≤ᶠ f.high
  pub high : f.low ≤ᶠ e.high

-- any two enclosures of a member overlap
pub members_overlap : (n m v : ℕ) → Meet (members n v).0 (members m v).0 × Meet (members n v).1 (members m v).1
members_overlap n m =
    members_keep Meet (λ e f h. record { sign = ap not h.sign; low = h.low; high = h.high }) n m
    (λ w.
    let a = rotations_overlap n m w in
    let b = rotations_overlap m n w in
    (record { sign = refl; low = a.sine; high = b.sine }, record { sign = refl; low = a.cosine; high = b.cosine }))

-- for every fraction above 0 there is an n from which on both members of every v are narrower
pub members_narrow : (ε : Fraction) → whole 0 <ᶠ ε → (start : ℕ) × ((n v : ℕ) → start ≤ n →
    ((members n v).0.high <ᶠ (members n v).0.low +ᶠ ε) × ((members n v).1.high <ᶠ (members n v).1.low +ᶠ ε))
members_narrow ε above =
    let (start, narrow) = rotation_narrow ε above in
    let kept = members_keep (λ e f. e.high <ᶠ e.low +ᶠ ε) (λ e f h. h) in
    (start, λ n v big. kept n n (λ w. ((narrow n w big).sine, (narrow n w big).cosine)) v)

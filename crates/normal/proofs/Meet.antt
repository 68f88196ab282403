-- The cuts meet: what is at most a probability is at most what is at least it.
use mathlib.Core.Path.{◌≡◌, ap}
use Prim.Native.Nat.{ℕ, zero, ◌+◌, ◌-◌, ◌*◌, ◌≤◌, ◌<◌}
use native.Mathlib.Nat.{mul-pos, mul-le-mul_left, lt_of_lt_of_le, le_of_mul-le-mul_right}
use native.Mathlib.Omega.{arith}
use Rattle.exact.specs.Fraction.{Fraction, whole, square, ◌+ᶠ◌, ◌*ᶠ◌, ◌≤ᶠ◌}
use Rattle.exact.specs.Series.{factorial, partial_sum, AtMostLn, AtLeastLn}
use Rattle.exact.proofs.FractionLaws.{≤ᶠ-refl, ≤ᶠ-trans, *ᶠ-mono, *ᶠ-cancel, +ᶠ-mono, +ᶠ-cancel, square_mono, half_square_cancel, ◌≤ᶠ⟨◌⟩◌, ◌∎ᶠ, chained}
use Rattle.exact.proofs.LogarithmLaws.{one_at_most}
use Rattle.normal.specs.Probability.{double_factorial, half_pi_term, area_term, sum_to, AtLeastSum, AtLeastInside, AtMostInside, AtMostTail, AtLeastTail}
use Rattle.normal.specs.NormalRows.{NearTail}
use Rattle.normal.proofs.Sums.{sums_meet}

exponentials_meet : (y z z' : Fraction) → AtLeastLn y z → AtMostLn y z' → z ≤ᶠ z'
unfolding AtLeastLn AtMostLn
exponentials_meet y z z' (n, low) high = ≤ᶠ-trans z (partial_sum y n) z' low (high n)

-- at least the first term, 1
pub half_pi_some : (p : Fraction) → AtLeastSum half_pi_term p → zero < p.top
unfolding AtLeastSum sum_to half_pi_term double_factorial factorial
half_pi_some p h = omega (arith, h 0, p.positive)

pub exponential_some : (y z : Fraction) → AtMostLn y z → zero < z.top
exponential_some y z h = lt_of_lt_of_le z.positive (one_at_most y z h)

pub square_cancel : (x y : Fraction) → square x ≤ᶠ square y → x ≤ᶠ y
square_cancel x y h = half_square_cancel x y (omega arith)

pub inside_meet : (x c c' : Fraction) → AtMostInside x c → AtLeastInside x c' → c ≤ᶠ c'
inside_meet x c c' l h =
    square_cancel c c'
    (*ᶠ-cancel (square c) (square c') (l.half_pi *ᶠ l.exponential)
    (mul-pos (half_pi_some l.half_pi l.half_pi_fits) (exponential_some (square x) l.exponential l.exponential_fits))
    (chained
    (square c *ᶠ (l.half_pi *ᶠ l.exponential) ≤ᶠ⟨ l.order ⟩
    square l.area ≤ᶠ⟨ square_mono l.area h.area (sums_meet (area_term x) l.area h.area l.area_fits h.area_fits) ⟩
    square h.area ≤ᶠ⟨ h.order ⟩
    square c' *ᶠ (h.half_pi *ᶠ h.exponential) ≤ᶠ⟨ *ᶠ-mono (square c') (square c') (h.half_pi *ᶠ h.exponential) (l.half_pi *ᶠ l.exponential) (≤ᶠ-refl (square c')) factors ⟩
    square c' *ᶠ (l.half_pi *ᶠ l.exponential) ∎ᶠ)))
  where
    factors : h.half_pi *ᶠ h.exponential ≤ᶠ l.half_pi *ᶠ l.exponential
    factors =
        *ᶠ-mono h.half_pi l.half_pi h.exponential l.exponential (sums_meet half_pi_term h.half_pi l.half_pi h.half_pi_fits l.half_pi_fits)
        (exponentials_meet (square x) h.exponential l.exponential h.exponential_fits l.exponential_fits)

pub tails_meet : (x t u : Fraction) → AtMostTail x t → AtLeastTail x u → t ≤ᶠ u
tails_meet x t u (c, inside, low) (c', inside', high) =
    +ᶠ-cancel t u c
    (chained
    (t +ᶠ c ≤ᶠ⟨ low ⟩ whole 1 ≤ᶠ⟨ high ⟩ u +ᶠ c' ≤ᶠ⟨ +ᶠ-mono u u c' c (≤ᶠ-refl u) (inside_meet x c' c inside' inside) ⟩ u +ᶠ c ∎ᶠ))

-- ---- a share that is near by some fraction is near by every one

-- t = a / b ≤ c / d = t', t' ≤ S / W + (e / M) t', e ≤ M
least_for : (a b c d S W e M : ℕ) → zero < d → e ≤ M → a * d ≤ c * b → c * (W * (M * d)) ≤ (S * (M * d) + e * c * W) * d → a * (W * (M * b)) ≤ (S * (M * b) + e * a * W) * b
least_for a b c d S W e M some few h k =
    let is : M ≡ e + (M - e) = omega (arith, few) in
    by_rest (M - e) is
  where
    by_rest : (r : ℕ) → M ≡ e + r → a * (W * (M * b)) ≤ (S * (M * b) + e * a * W) * b
    by_rest r is =
        let one : c * W * r ≤ S * M * d = le_of_mul-le-mul_right (omega (arith, k, ap (λ z. c * W * d * z) is)) some in
        let two : a * W * r ≤ S * M * b = le_of_mul-le-mul_right (omega (arith, mul-le-mul_left (W * r) h, mul-le-mul_left b one)) some in
        omega (arith, mul-le-mul_left b two, ap (λ z. a * W * b * z) is)

pub every_least : (x share short over t : Fraction) → short.top ≤ short.bottom → NearTail x share short over → AtMostTail x t → t ≤ᶠ share +ᶠ short *ᶠ t
every_least x share short over t few near tail =
    let (t', above, k) = near.least in
    least_for t.top t.bottom t'.top t'.bottom share.top share.bottom short.top short.bottom t'.positive few (tails_meet x t t' tail above) k

pub every_most : (x share short over t : Fraction) → NearTail x share short over → AtLeastTail x t → share ≤ᶠ t +ᶠ over *ᶠ t
every_most x share short over t near tail =
    let (t', below, k) = near.most in
    chained
    (share ≤ᶠ⟨ k ⟩ t' +ᶠ over *ᶠ t' ≤ᶠ⟨ +ᶠ-mono t' t (over *ᶠ t') (over *ᶠ t) (tails_meet x t' t below tail) (*ᶠ-mono over over t' t (≤ᶠ-refl over) (tails_meet x t' t below tail)) ⟩ t +ᶠ over *ᶠ t ∎ᶠ)

-- Order, sums and multiples of points.
use Prim.Native.Nat.{ℕ, ◌+◌, ◌*◌, ◌≤◌}
use native.Mathlib.Nat.{add-mul, mul-add, mul_assoc, mul_comm, mul_left_comm}
use native.Mathlib.Nat.{mul-le-mul_left, mul-le-mul_right, mul-lt-mul_of_pos_right, le_of_mul-le-mul_right, lt_of_mul-lt-mul_right}
use native.Mathlib.Omega.{arith}
use Rattle.sums.specs.Points.{Point, ◌≤ᵖ◌, ◌<ᵖ◌, ◌+ᵖ◌, ◌·ᵖ◌}

ruleset expand = (add-mul, mul-add, mul_assoc, mul_comm, mul_left_comm)

pub ≤ᵖ-trans : (x y z : Point) → x ≤ᵖ y → y ≤ᵖ z → x ≤ᵖ z
≤ᵖ-trans x y z h k = le_of_mul-le-mul_right (omega (arith, mul-le-mul_right z.bottom h, mul-le-mul_right x.bottom k)) y.positive

pub ≤ᵖ-<ᵖ-trans : (x y z : Point) → x ≤ᵖ y → y <ᵖ z → x <ᵖ z
≤ᵖ-<ᵖ-trans x y z h k =
    lt_of_mul-lt-mul_right y.bottom (omega (arith, mul-le-mul_right z.bottom h, mul-lt-mul_of_pos_right k x.positive))

sum_mono : (p m b p' m' b' q n c q' n' c' : ℕ) → p * b' + m' * b ≤ p' * b + m * b' → q * c' + n' * c ≤ q' * c + n * c' →
    (p * c + q * b) * (b' * c') + (m' * c' + n' * b') * (b * c) ≤ (p' * c' + q' * b') * (b * c) + (m * c + n * b) * (b' * c')
sum_mono p m b p' m' b' q n c q' n' c' h k =
    let h' = simp expand at (mul-le-mul_right (c * c') h) in
    let k' = simp expand at (mul-le-mul_right (b * b') k) in
    simp expand (omega (arith, h', k'))

pub +ᵖ-mono : (x x' y y' : Point) → x ≤ᵖ x' → y ≤ᵖ y' → x +ᵖ y ≤ᵖ x' +ᵖ y'
+ᵖ-mono x x' y y' = sum_mono x.plus x.minus x.bottom x'.plus x'.minus x'.bottom
    y.plus y.minus y.bottom y'.plus y'.minus y'.bottom

pub ·ᵖ-mono : (d : ℕ) (x x' : Point) → x ≤ᵖ x' → d ·ᵖ x ≤ᵖ d ·ᵖ x'
·ᵖ-mono d x x' h = omega (arith, mul-le-mul_left d h)

-- What the test of a cell shows: at any place in the cell, what the cell gives is from 2^8 below the root up to the root.
use Rattle.std.proofs.Common.{◌≡◌, ℕ, suc, ◌+◌, ◌-◌, ◌*◌, ◌/◌, ◌%◌, ◌^◌, ◌<◌, ◌≤◌, Bool, true, false, ◌&&◌, leb, List, [], ◌∷◌, refl, ap, mul-le-mul_right, mod-lt, mul-le-mul, mul-le-mul_left, div-add-mod', arith, le-leb, leb-true}
use native.Mathlib.Nat.{le_of_mul-le-mul_left}
use native.Mathlib.Decide.{dec_le}
use borrow.Author.Tests.{lt-leb}
use Rattle.exact.proofs.RootLaws.{lt_of_square_lt}
use Rattle.root_lookup.specs.Cells.{in_order, not_above, not_below, in_cell}
use Rattle.radius.proofs.Quartic.{square_of, not_negative_lem}

-- ---- a test that is passed, as inequalities

both : (x y : Bool) → (x && y) ≡ true → (x ≡ true) × (y ≡ true)
both true y e = (refl, e)
both false true e = (e, refl)
both false false e = (e, e)

abbrev InOrder : List (ℕ × ℕ) → Type 0
InOrder [] = Unit {0}
InOrder (two ∷ l) = (two.0 ≤ two.1) × InOrder l

in_order_lem : (l : List (ℕ × ℕ)) → in_order l ≡ true → InOrder l
in_order_lem [] e = tt
in_order_lem (two ∷ l) e =
    let (first, rest) = both (leb two.0 two.1) (in_order l) e in
    (leb-true two.0 two.1 first, in_order_lem l rest)

-- ---- the two inequalities of a cell, u = t / D and v = t / D; over any numbers T0 to T4 in place of D⁴, D³ t, .., t⁴

module _ (W n a b c p0 p1 p2 T0 T1 T2 T3 T4 Z : ℕ) where
  sum_above :
      p0 + a * a ≡ W * n → p1 + 2 * a * b ≡ W → p2 + 2 * a * c ≡ b * b →
      p2 * T2 + c * c * T4 ≤ p0 * T0 + p1 * T1 + 2 * (b * c) * T3 + 0 * T4 →
      Z + 2 * (a * c * T2 + b * c * T3) ≡ a * a * T0 + 2 * (a * b * T1) + b * b * T2 + c * c * T4 → Z ≤ W * n * T0 + W * T1
  sum_above e0 e1 e2 low square =
      let h0 : (p0 + a * a) * T0 ≡ W * n * T0 = ap (λ x. x * T0) e0 in
      let h1 : (p1 + 2 * a * b) * T1 ≡ W * T1 = ap (λ x. x * T1) e1 in
      let h2 : (p2 + 2 * a * c) * T2 ≡ b * b * T2 = ap (λ x. x * T2) e2 in
      omega arith

  sum_below_lem : (w : ℕ) →
      p0 + (W * n + w) ≡ a * a → p1 + 2 * a * b ≡ W → p2 + b * b ≡ 2 * a * c →
      p2 * T2 + 0 * T4 ≤ p0 * T0 + p1 * T1 + 2 * (b * c) * T3 + c * c * T4 →
      Z + 2 * (a * b * T1 + a * c * T2) ≡ a * a * T0 + b * b * T2 + 2 * (b * c * T3) + c * c * T4 → (W * n + w) * T0 ≤ Z + W * T1
  sum_below_lem w e0 e1 e2 low square =
      let h0 : (p0 + (W * n + w)) * T0 ≡ a * a * T0 = ap (λ x. x * T0) e0 in
      let h1 : (p1 + 2 * a * b) * T1 ≡ W * T1 = ap (λ x. x * T1) e1 in
      let h2 : (p2 + b * b) * T2 ≡ 2 * a * c * T2 = ap (λ x. x * T2) e2 in
      omega arith

module _ (a b c D t z : ℕ) where
  square_above : z + c * (t * t) ≡ a * (D * D) + b * (D * t) →
      z * z + 2 * (a * c * (D * D * (t * t)) + b * c * (D * t * (t * t))) ≡
      a * a * (D * D * (D * D)) + 2 * (a * b * (D * D * (D * t))) + b * b * (D * D * (t * t)) + c * c * (t * t * (t * t))
  square_above is = omega (arith, square_of z (c * (t * t)) (a * (D * D) + b * (D * t)) is)

  square_below : z + (b * (D * t) + c * (t * t)) ≡ a * (D * D) →
      z * z + 2 * (a * b * (D * D * (D * t)) + a * c * (D * D * (t * t))) ≡
      a * a * (D * D * (D * D)) + b * b * (D * D * (t * t)) + 2 * (b * c * (D * t * (t * t))) + c * c * (t * t * (t * t))
  square_below is = omega (arith, square_of z (b * (D * t) + c * (t * t)) (a * (D * D)) is)

module _ (W n a b c D t : ℕ) (within : t ≤ D) (e : in_order (not_above W n a b c) ≡ true) where
  pub not_above_lem : (z : ℕ) → z + c * (t * t) ≡ a * (D * D) + b * (D * t) → z * z ≤ W * n * (D * D * (D * D)) + W * (D * D * (D * t))
  not_above_lem z is =
      let (h0, (h1, (h2, (h3, (h4, (h5, _)))))) = in_order_lem (not_above W n a b c) e in
      let p0 : ℕ = W * n - a * a in
      let p1 : ℕ = W - 2 * a * b in
      let p2 : ℕ = b * b - 2 * a * c in
      let l : ℕ = 4 * (b * c) - 3 * (c * c) in
      sum_above W n a b c p0 p1 p2 _ _ _ _ _ _ (omega arith) (omega arith) (omega arith)
      (not_negative_lem p0 p1 p2 (2 * (b * c)) (c * c) 0 l (9 * l - 32 * p1) (32 * p2 + 18 * 0 - (24 * l + 18 * (c * c)))
      (omega arith) (omega arith) (omega arith) h5 h4 D t within)
      (square_above a b c D t z is)

module _ (W w n a b c D t : ℕ) (within : t ≤ D) (e : in_order (not_below W w n a b c) ≡ true) where
  pub not_below_lem : (z : ℕ) → z + (b * (D * t) + c * (t * t)) ≡ a * (D * D) → (W * n + w) * (D * D * (D * D)) ≤ z * z + W * (D * D * (D * t))
  not_below_lem z is =
      let (h0, (h1, (h2, (h4, (h5, _))))) = in_order_lem (not_below W w n a b c) e in
      let p0 : ℕ = a * a - (W * n + w) in
      let p1 : ℕ = W - 2 * a * b in
      let p2 : ℕ = 2 * a * c - b * b in
      let l : ℕ = 4 * (b * c) + 3 * (c * c) in
      sum_below_lem W n a b c p0 p1 p2 _ _ _ _ _ _ w (omega arith) (omega arith) (omega arith)
      (not_negative_lem p0 p1 p2 (2 * (b * c)) 0 (c * c) l (9 * l - 32 * p1) (32 * p2 + 18 * (c * c) - (24 * l + 18 * 0))
      (omega arith) (omega arith) (omega arith) h5 h4 D t within)
      (square_below a b c D t z is)

-- ---- what a cell gives: y / D, with q the whole part of c t / D

module _ (W n a b c D t q y : ℕ) (positive : 0 < D) (within : t ≤ D) (is : y + q * t ≡ a * D + b * t) where
  at_most_lem : c ≤ b → c * t ≤ q * D + D → in_order (not_above W n a (b + 1) c) ≡ true → y * y ≤ W * (n * D + t) * D
  at_most_lem less next e =
      let h0 : c * (t * t) ≤ b * (D * t) = omega (arith, mul-le-mul less (mul-le-mul_right t within)) in
      let z : ℕ = a * (D * D) + (b + 1) * (D * t) - c * (t * t) in
      let is-z : z + c * (t * t) ≡ a * (D * D) + (b + 1) * (D * t) = omega arith in
      let h1 : c * t * t ≤ (q * D + D) * t = mul-le-mul_right t next in
      let h2 : (y + q * t) * D ≡ (a * D + b * t) * D = ap (λ x. x * D) is in
      let h3 : y * D ≤ z = omega (arith, is-z, h1, h2) in
      let h4 = not_above_lem W n a (b + 1) c D t within e z is-z in
      cancelled D y z W n t positive h3 h4
    where
      cancelled : (D y z W n t : ℕ) → 0 < D → y * D ≤ z → z * z ≤ W * n * (D * D * (D * D)) + W * (D * D * (D * t)) → y * y ≤ W * (n * D + t) * D
      cancelled D y z W n t p h k = le_of_mul-le-mul_left {k = D * D} (omega (arith, mul-le-mul h h, k)) (mul-le-mul p p)

  at_least_lem : (w E : ℕ) → 2 * c ≤ b → w * D ≡ W → q * D ≤ c * t → in_order (not_below W w (n + 1) (a + E + b - c) (b - 2 * c) c) ≡ true →
      W * (n * D + t + 1) * D ≤ (y + E * D) * (y + E * D)
  at_least_lem w E less whole low e =
      let fewer : c ≤ b = omega arith in
      let h0 : c * (t * t) ≤ b * (D * t) = omega (arith, mul-le-mul fewer (mul-le-mul_right t within)) in
      let z : ℕ = (a + E) * (D * D) + b * (D * t) - c * (t * t) in
      let is-z : z + c * (t * t) ≡ (a + E) * (D * D) + b * (D * t) = omega arith in
      let h1 : q * D * t ≤ c * t * t = mul-le-mul_right t low in
      let h2 : (y + q * t) * D ≡ (a * D + b * t) * D = ap (λ x. x * D) is in
      let h3 : z ≤ (y + E * D) * D = omega (arith, is-z, h1, h2) in
      let turned = from_end (a + E) b (a + E + b - c) (b - 2 * c) c D t (D - t) z (omega arith) (omega arith) (omega arith) is-z in
      let h4 = not_below_lem W w (n + 1) (a + E + b - c) (b - 2 * c) c D (D - t) (omega arith) e z turned in
      cancelled D (y + E * D) z W w n t (D - t) positive (omega arith) whole h3 h4
    where
      from_end : (a b A B c D t v z : ℕ) → A + c ≡ a + b → B + 2 * c ≡ b → v + t ≡ D → z + c * (t * t) ≡ a * (D * D) + b * (D * t) →
          z + (B * (D * v) + c * (v * v)) ≡ A * (D * D)
      from_end a b A B c D t v z eA eB eD h =
          let h0 : (A + c) * (D * D) ≡ (a + b) * (D * D) = ap (λ x. x * (D * D)) eA in
          let h1 : (B + 2 * c) * (D * t) ≡ b * (D * t) = ap (λ x. x * (D * t)) eB in
          let h2 : (B + 2 * c) * (D * D) ≡ b * (D * D) = ap (λ x. x * (D * D)) eB in
          let h3 : B * D * (v + t) ≡ B * D * D = ap (λ x. B * D * x) eD in
          let h4 : c * D * (v + t) ≡ c * D * D = ap (λ x. c * D * x) eD in
          let h5 : c * v * (v + t) ≡ c * v * D = ap (λ x. c * v * x) eD in
          let h6 : c * t * (v + t) ≡ c * t * D = ap (λ x. c * t * x) eD in
          omega arith

      cancelled : (D y z W w n t v : ℕ) → 0 < D → v + t ≡ D → w * D ≡ W → z ≤ y * D →
          (W * (n + 1) + w) * (D * D * (D * D)) ≤ z * z + W * (D * D * (D * v)) → W * (n * D + t + 1) * D ≤ y * y
      cancelled D y z W w n t v p eD eW h k =
          let h0 : W * (D * D * D) * (v + t) ≡ W * (D * D * D) * D = ap (λ x. W * (D * D * D) * x) eD in
          let h1 : w * D * (D * D * D) ≡ W * (D * D * D) = ap (λ x. x * (D * D * D)) eW in
          le_of_mul-le-mul_left {k = D * D} (omega (arith, mul-le-mul h h, k, h0, h1)) (mul-le-mul p p)

-- ---- the cells from 32 to 127

-- what a cell gives at t, at D
abbrev pub root_at : (D a b c t : ℕ) → ℕ
root_at D a b c t = a * D + (b - c * t / D) * t

-- it is at most the root of W (n + t / D), and with E more it is at least the root at the next t
pub record Serves (W D E n a b c t : ℕ) : Type 0 where
  pub falls : c * t / D ≤ b
  pub at_most : root_at D a b c t * root_at D a b c t ≤ W * (n * D + t) * D
  pub at_least : W * (n * D + t + 1) * D ≤ (root_at D a b c t + E * D) * (root_at D a b c t + E * D)

module _ (W w D E n a b c t : ℕ) (positive : 0 < D) (whole : w * D ≡ W) (within : t < D) (less : 2 * c ≤ b)
    (above : in_order (not_above W n a (b + 1) c) ≡ true) (below : in_order (not_below W w (n + 1) (a + E + b - c) (b - 2 * c) c) ≡ true) where
  serves_by : Serves W D E n a b c t
  serves_by =
      let q : ℕ = c * t / D in
      let parts : q * D + c * t % D ≡ c * t = div-add-mod' (c * t) D in
      let rest : c * t % D < D = mod-lt (c * t) positive in
      let fewer : c ≤ b = omega arith in
      let near : t ≤ D = omega arith in
      let small : q * D ≤ b * D = omega (arith, mul-le-mul fewer near) in
      let falls : q ≤ b = le_of_mul-le-mul_left {k = D} (omega (arith, small)) positive in
      let h : (b - q + q) * t ≡ b * t = ap (λ x. x * t) (omega arith) in
      let is : root_at D a b c t + q * t ≡ a * D + b * t = omega (arith, h) in
      record {
        falls = falls;
        at_most = at_most_lem W n a b c D t q (root_at D a b c t) positive near is fewer (omega arith) above;
        at_least = at_least_lem W n a b c D t q (root_at D a b c t) positive near is w E less whole (omega arith) below;
      }

-- ---- any cell: it serves, or it is 0

pub served : (n a b c t : ℕ) → t < 2 ^ 32 → 32 ≤ n → n ≤ 127 → in_cell n a b c ≡ true → Serves (2 ^ 57) (2 ^ 32) (2 ^ 8) n a b c t
served n a b c t within least most e =
    let (first, below) = both (leb (2 * c) b && in_order (not_above (2 ^ 57) n a (b + 1) c)) _ (rw (le-leb 32 n least, le-leb n 127 most) at e) in
    let (less, above) = both (leb (2 * c) b) (in_order (not_above (2 ^ 57) n a (b + 1) c)) first in
    serves_by (2 ^ 57) (2 ^ 25) (2 ^ 32) (2 ^ 8) n a b c t (omega arith) refl within (leb-true (2 * c) b less) above below

pub zero_cell : (n a b c : ℕ) → n < 32 → in_cell n a b c ≡ true → a + b + c ≡ 0
zero_cell n a b c h e = omega (arith, leb-true (a + b + c) 0 (rw (lt-leb 32 n h) at e))

past_cell : (n a b c : ℕ) → 127 < n → in_cell n a b c ≡ true → a + b + c ≡ 0
past_cell n a b c h e = omega (arith, leb-true (a + b + c) 0 (rw (le-leb 32 n (omega arith), lt-leb n 127 h) at e))

-- what a cell that is 0 gives, whatever is taken from its slope
pub flat : (D a b c t q : ℕ) → a + b + c ≡ 0 → a * D + (b - q) * t ≡ 0
flat D a b c t q empty =
    let none : a ≡ 0 = omega arith in
    let level : b - q ≡ 0 = omega arith in
    omega (arith, ap (λ x. x * D) none, ap (λ x. x * t) level)

-- no step of the guess is below 0 or beyond 64 bits
record Steady (a b c t : ℕ) : Type 0 where
  falls : c * t / 2 ^ 32 ≤ b
  fits : root_at (2 ^ 32) a b c t < 2 ^ 64

below_end : (W n D t y : ℕ) → 0 < D → W * 128 ≡ D * D → n ≤ 127 → t < D → y * y ≤ W * (n * D + t) * D → y < D * D
below_end W n D t y positive whole most within h =
    let h0 : n * D ≤ 127 * D = mul-le-mul_right D most in
    let h1 : W * D * suc (n * D + t) ≤ W * D * (128 * D) = mul-le-mul_left (W * D) (omega arith) in
    let h2 : W * 128 * (D * D) ≡ D * D * (D * D) = ap (λ x. x * (D * D)) whole in
    let h3 : 0 < D * D = mul-le-mul positive positive in
    let h4 : 0 < W = omega arith in
    let h5 : 0 < W * D = mul-le-mul h4 positive in
    lt_of_square_lt y (D * D) (omega (arith, h, h1, h2, h5))

steady : (n a b c t : ℕ) → t < 2 ^ 32 → in_cell n a b c ≡ true → Steady a b c t
steady n a b c t within e = go (dec_le 32 n) (dec_le n 127)
  where
    still : a + b + c ≡ 0 → Steady a b c t
    still empty =
        let idle : c ≡ 0 = omega arith in
        record { falls = omega (arith, ap (λ x. x * t) idle); fits = omega (arith, flat (2 ^ 32) a b c t (c * t / 2 ^ 32) empty) }

    go : Dec (32 ≤ n) → Dec (n ≤ 127) → Steady a b c t
    go (yes least) (yes most) =
        let s = served n a b c t within least most e in
        record { falls = s.falls; fits = below_end (2 ^ 57) n (2 ^ 32) t (root_at (2 ^ 32) a b c t) (omega arith) refl most within s.at_most }
    go (yes least) (no past) = still (past_cell n a b c (omega arith) e)
    go (no before) _ = still (zero_cell n a b c (omega arith) e)

pub slope_left : (n a b c t : ℕ) → t < 2 ^ 32 → in_cell n a b c ≡ true → c * t / 2 ^ 32 ≤ b
slope_left n a b c t within e = (steady n a b c t within e).falls

pub root_fits : (n a b c t : ℕ) → t < 2 ^ 32 → in_cell n a b c ≡ true → root_at (2 ^ 32) a b c t < 2 ^ 64
root_fits n a b c t within e = (steady n a b c t within e).fits

-- The rounded sums are within the margin of their run's length from the exact ones: less than 2 mm, and so less than 3 mm.
use mathlib.Core.Path.{◌≡◌, ap, sym, ◌∙◌}
use mathlib.Core.Bool.{Bool, true, false, cond}
use mathlib.Core.List.{List, [], ◌∷◌}
use Prim.Native.Nat.{ℕ, ◌+◌, ◌-◌, ◌*◌, ◌^◌, ◌≤◌, ◌<◌}
use native.Mathlib.Nat.{mul-le-mul_right, mul-lt-mul_of_pos_right, lt_of_mul-lt-mul_left}
use native.Mathlib.Omega.{arith}
use lib.ListN.{length}
use lib.IntN.{ℤ, pos, neg_ℤ, neg_ℤ-neg_ℤ}
use lib.Pow.{pow_pos}
use Rattle.exact.specs.Fraction.{Fraction, ◌≤ᶠ◌}
use Rattle.exact.specs.Pair.{Enclosure, above, below, along}
use Rattle.angle.specs.Margin.{Member}
use Rattle.angle.proofs.Members.{members_near}
use Rattle.sums.specs.Points.{Point, ◌≤ᵖ◌, ◌<ᵖ◌, ◌+ᵖ◌, ◌·ᵖ◌, whole_point, signed, lowest, highest}
use Rattle.noisy_shot.specs.Shots.{Shot}
use Rattle.sums.specs.Sums.{sine, cosine, total, rounded, most_shots, most_distance, Bounded, Allowed}
use Rattle.sums.specs.Exact.{sum_of, low_end, high_end, exact_sine, exact_cosine, Near, Close}
use Rattle.sums.specs.Margin.{distances, margin, NearBy, CloseBy}
use Rattle.sums.proofs.PointLaws.{≤ᵖ-trans, +ᵖ-mono, ·ᵖ-mono}
use Rattle.sums.proofs.Parts.{neg_parts, product_parts, rounded_parts}

-- z - m and z + m, over 2^30
abbrev pub lower : ℤ → ℕ → Point
lower z m = record { plus = above z; minus = below z + m; bottom = 2 ^ 30; positive = pow_pos 30 }

abbrev pub upper : ℤ → ℕ → Point
upper z m = record { plus = above z + m; minus = below z; bottom = 2 ^ 30; positive = pow_pos 30 }

from_low : (n k b t : ℕ) → n ≤ k + 3 → k * b ≤ t * 2 ^ 30 → n * b ≤ t * 2 ^ 30 + 3 * b
from_low n k b t h l = omega (arith, l, mul-le-mul_right b h)

-- a member's enclosure lies within 3 units of 2^-30 of G
pub member_ends : (G : ℤ) (e : Enclosure) → Member G e → (lower G 3 ≤ᵖ lowest e) × (highest e ≤ᵖ upper G 3)
member_ends G e m =
    let low = from_low m.size (m.size - 3) e.low.bottom e.low.top (omega arith) m.low in
    go e.negative m.value low
  where
    go : (s : Bool) → along s G ≡ pos m.size → m.size * e.low.bottom ≤ e.low.top * 2 ^ 30 + 3 * e.low.bottom →
        (lower G 3 ≤ᵖ signed s (cond s e.high e.low)) × (signed s (cond s e.low e.high) ≤ᵖ upper G 3)
    go true value low =
        let same : G ≡ neg_ℤ (pos m.size) = sym (neg_ℤ-neg_ℤ G) ∙ ap neg_ℤ value in
        let (a, b) = neg_parts m.size in
        rw (same, a, b) (omega (arith, m.high))
    go false value low = rw value (omega (arith, m.high))

-- the step: d G + E with a margin of 3 (d + D), from G with 3 and E with 3 D
step_low : (R d a b A B D A' B' : ℕ) → A' + (d * b + B) ≡ B' + (d * a + A) →
    A' * (R * R) + (d * (b + 3) * R + (B + 3 * D) * R) * R ≤ (d * a * R + A * R) * R + (B' + 3 * (d + D)) * (R * R)
step_low R d a b A B D A' B' e = omega (arith, ap (λ (t : ℕ). t * (R * R)) e)

step_high : (R d a b A B D A' B' : ℕ) → A' + (d * b + B) ≡ B' + (d * a + A) →
    (d * (a + 3) * R + (A + 3 * D) * R) * R + B' * (R * R) ≤ (A' + 3 * (d + D)) * (R * R) + (d * b * R + B * R) * R
step_high R d a b A B D A' B' e = omega (arith, ap (λ (t : ℕ). t * (R * R)) e)

module _ (G : ℕ → ℤ) (E : ℕ → Enclosure) (near : (v : ℕ) → Member (G v) (E v)) where
  sum_low : (l : List Shot) → lower (total G l) (3 * distances l) ≤ᵖ low_end E l
  unfolding total distances sum_of
  sum_low [] = omega arith
  sum_low (s ∷ l) =
      let d = s.distance in
      let g = G s.step in
      let e = lowest (E s.step) in
      let T = total G l in
      let D = distances l in
      ≤ᵖ-trans (lower (total G (s ∷ l)) (3 * (d + D))) (d ·ᵖ lower g 3 +ᵖ lower T (3 * D)) (d ·ᵖ e +ᵖ low_end E l)
      (step_low (2 ^ 30) d (above g) (below g) (above T) (below T) D (above (total G (s ∷ l))) (below (total G (s ∷ l))) (product_parts d g T))
      (+ᵖ-mono (d ·ᵖ lower g 3) (d ·ᵖ e) (lower T (3 * D)) (low_end E l)
      (·ᵖ-mono d (lower g 3) e (member_ends g (E s.step) (near s.step)).0) (sum_low l))

  sum_high_lem : (l : List Shot) → high_end E l ≤ᵖ upper (total G l) (3 * distances l)
  unfolding total distances sum_of
  sum_high_lem [] = omega arith
  sum_high_lem (s ∷ l) =
      let d = s.distance in
      let g = G s.step in
      let e = highest (E s.step) in
      let T = total G l in
      let D = distances l in
      ≤ᵖ-trans (d ·ᵖ e +ᵖ high_end E l) (d ·ᵖ upper g 3 +ᵖ upper T (3 * D)) (upper (total G (s ∷ l)) (3 * (d + D)))
      (+ᵖ-mono (d ·ᵖ e) (d ·ᵖ upper g 3) (high_end E l) (upper T (3 * D))
      (·ᵖ-mono d e (upper g 3) (member_ends g (E s.step) (near s.step)).1) (sum_high_lem l))
      (step_high (2 ^ 30) d (above g) (below g) (above T) (below T) D (above (total G (s ∷ l))) (below (total G (s ∷ l))) (product_parts d g T))

pub distances_most : (l : List Shot) → Bounded l → distances l ≤ length l * most_distance
unfolding distances Bounded
distances_most [] h = omega arith
distances_most (s ∷ l) h = omega (arith, distances_most l h.1, h.0)

-- a point within M of T over 2^30 is less than k from T rounded
module _ (k M : ℕ) (T : ℤ) (x : Point) (small : 2 * M + 2 ^ 30 < 2 * k * 2 ^ 30) where
  close_low_lem : lower T M ≤ᵖ x → whole_point (rounded T) <ᵖ x +ᵖ whole_point (pos k)
  close_low_lem h =
      lt_of_mul-lt-mul_left (2 ^ 31)
      (omega (arith, h, mul-le-mul_right x.bottom (rounded_parts T).0, mul-lt-mul_of_pos_right small x.positive))

  close_high_lem : x ≤ᵖ upper T M → x <ᵖ whole_point (rounded T) +ᵖ whole_point (pos k)
  close_high_lem h =
      lt_of_mul-lt-mul_left (2 ^ 31)
      (omega (arith, h, mul-le-mul_right x.bottom (rounded_parts T).1, mul-lt-mul_of_pos_right small x.positive))

-- less than k from it where the margins of so many shots and the rounding leave room
sum_near : (n k : ℕ) → 6 * (n * most_distance) + 2 ^ 30 < 2 * k * 2 ^ 30 → (G : ℕ → ℤ) (E : ℕ → Enclosure) → ((v : ℕ) → Member (G v) (E v)) →
    (l : List Shot) → length l ≤ n → Bounded l → Near k (rounded (total G l)) E l
unfolding Near
sum_near n k room G E near l few each x from to =
    let M = 3 * distances l in
    let T = total G l in
    let small : 2 * M + 2 ^ 30 < 2 * k * 2 ^ 30 = omega (arith, distances_most l each, mul-le-mul_right most_distance few) in (
      close_low_lem k M T x small (≤ᵖ-trans (lower T M) (low_end E l) x (sum_low G E near l) from),
      close_high_lem k M T x small (≤ᵖ-trans x (high_end E l) (upper T M) to (sum_high_lem G E near l)),
    )

pub close_within : (k : ℕ) → 6 * (most_shots * most_distance) + 2 ^ 30 < 2 * k * 2 ^ 30 → (l : List Shot) → Allowed l →
    Close k l (rounded (total sine l)) (rounded (total cosine l))
close_within k room l ok = record {
  bits = 96;
  sines = sum_near most_shots k room sine (exact_sine 96) (λ v. (members_near v).0) l ok.0 ok.1;
  cosines = sum_near most_shots k room cosine (exact_cosine 96) (λ v. (members_near v).1) l ok.0 ok.1;
}

-- within the margin of M
pub from_lower : (L : ℕ) (T : ℤ) (x : Point) → lower T (3 * L) ≤ᵖ x → whole_point (rounded T) ≤ᵖ x +ᵖ signed false (margin L)
from_lower L T x h = omega (arith, h, mul-le-mul_right x.bottom (rounded_parts T).0)

pub from_upper : (L : ℕ) (T : ℤ) (x : Point) → x ≤ᵖ upper T (3 * L) → x ≤ᵖ whole_point (rounded T) +ᵖ signed false (margin L)
from_upper L T x h = omega (arith, h, mul-le-mul_right x.bottom (rounded_parts T).1)

sum_by : (G : ℕ → ℤ) (E : ℕ → Enclosure) → ((v : ℕ) → Member (G v) (E v)) → (l : List Shot) → NearBy (margin (distances l)) (rounded (total G l)) E l
unfolding NearBy
sum_by G E near l x from to =
    let L = distances l in
    let T = total G l in (
      from_lower L T x (≤ᵖ-trans (lower T (3 * L)) (low_end E l) x (sum_low G E near l) from),
      from_upper L T x (≤ᵖ-trans x (high_end E l) (upper T (3 * L)) to (sum_high_lem G E near l)),
    )

pub within_margin : (l : List Shot) → CloseBy (margin (distances l)) l (rounded (total sine l)) (rounded (total cosine l))
within_margin l = record {
  bits = 96;
  sines = sum_by sine (exact_sine 96) (λ v. (members_near v).0) l;
  cosines = sum_by cosine (exact_cosine 96) (λ v. (members_near v).1) l;
}

-- a wider margin
wider_by : (ε η : Fraction) → ε ≤ᶠ η → (r : ℤ) (E : ℕ → Enclosure) (l : List Shot) → NearBy ε r E l → NearBy η r E l
unfolding NearBy
wider_by ε η h r E l near x from to =
    let add : (y : Point) → y +ᵖ signed false ε ≤ᵖ y +ᵖ signed false η =
    λ y. +ᵖ-mono y y (signed false ε) (signed false η) (omega arith) (omega (arith, h)) in
    let (low, high) = near x from to in (
      ≤ᵖ-trans (whole_point r) (x +ᵖ signed false ε) (x +ᵖ signed false η) low (add x),
      ≤ᵖ-trans x (whole_point r +ᵖ signed false ε) (whole_point r +ᵖ signed false η) high (add (whole_point r)),
    )

pub wider : (ε η : Fraction) → ε ≤ᶠ η → (l : List Shot) (east north : ℤ) → CloseBy ε l east north → CloseBy η l east north
wider ε η h l east north c = record {
  bits = c.bits;
  sines = wider_by ε η h east (exact_sine c.bits) l c.sines;
  cosines = wider_by ε η h north (exact_cosine c.bits) l c.cosines;
}

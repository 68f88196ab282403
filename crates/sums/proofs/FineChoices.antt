-- The exact sum of a choice of fractions lies between the ends, widened by the margin of the longest run.
use mathlib.Core.Path.{◌≡◌, ap}
use mathlib.Core.Bool.{cond}
use mathlib.Core.List.{List, [], ◌∷◌}
use Prim.Native.Nat.{ℕ, suc, ◌+◌, ◌*◌, ◌^◌, ◌≤◌}
use native.Mathlib.Nat.{mul-le-mul_left, mul-le-mul_right}
use native.Mathlib.Omega.{arith}
use lib.IntN.{ℤ, pos, negsuc}
use lib.Signed.{non_neg}
use lib.Pow.{pow_pos}
use Rattle.exact.specs.Fraction.{Fraction, ◌≤ᶠ◌, whole}
use Rattle.exact.specs.Pair.{Enclosure, above, below}
use Rattle.angle.specs.Margin.{Member}
use Rattle.angle.proofs.Members.{members_near}
use Rattle.sums.specs.Points.{Point, ◌≤ᵖ◌, ◌+ᵖ◌, lowest, highest}
use Rattle.sums.specs.Sums.{sine, cosine, total, rounded}
use Rattle.sums.specs.Exact.{exact_sine, exact_cosine}
use Rattle.sums.specs.Spans.{Span, least_shot, greatest_shot, lowest_total, highest_total}
use Rattle.sums.specs.Margin.{FineShot, ◌×ᵖ◌, fine_sum, FineChosen, longest, FineSpans}
use Rattle.sums.proofs.PointLaws.{≤ᵖ-trans, +ᵖ-mono}
use Rattle.sums.proofs.Parts.{product_parts}
use Rattle.sums.proofs.Nearness.{lower, upper, member_ends, from_lower, from_upper}

×ᵖ-mono : (q : Fraction) (x y : Point) → x ≤ᵖ y → q ×ᵖ x ≤ᵖ q ×ᵖ y
×ᵖ-mono q x y h = omega (arith, mul-le-mul_left (q.top * q.bottom) h)

-- d G - 3 h and d G + 3 h, over 2^30
abbrev lower_by : ℕ → ℕ → ℤ → Point
lower_by d h g = record { plus = d * above g; minus = d * below g + 3 * h; bottom = 2 ^ 30; positive = pow_pos 30 }

abbrev upper_by : ℕ → ℕ → ℤ → Point
upper_by d h g = record { plus = d * above g + 3 * h; minus = d * below g; bottom = 2 ^ 30; positive = pow_pos 30 }

-- a fraction between low and high: so is its product with G, but for 3 of it on either side
module _ (q : Fraction) (low high : ℕ) (h : whole low ≤ᶠ q) (k : q ≤ᶠ whole high) where
  product_low : (g : ℤ) → lower_by (cond (non_neg g) low high) high g ≤ᵖ q ×ᵖ lower g 3
  product_low (pos g) = omega (arith, mul-le-mul_right (g * 2 ^ 30) h, mul-le-mul_right (2 ^ 30) k)
  product_low (negsuc g) = omega (arith, mul-le-mul_right (suc g * 2 ^ 30) k, mul-le-mul_right (2 ^ 30) k)

  product_high : (g : ℤ) → q ×ᵖ upper g 3 ≤ᵖ upper_by (cond (non_neg g) high low) high g
  product_high (pos g) = omega (arith, mul-le-mul_right (g * 2 ^ 30) k, mul-le-mul_right (2 ^ 30) k)
  product_high (negsuc g) = omega (arith, mul-le-mul_right (suc g * 2 ^ 30) h, mul-le-mul_right (2 ^ 30) k)

-- the step: d G + T with a margin of 3 (h + H)
step_low : (R d h a b A B H A' B' : ℕ) → A' + (d * b + B) ≡ B' + (d * a + A) →
    A' * (R * R) + ((d * b + 3 * h) * R + (B + 3 * H) * R) * R ≤ (d * a * R + A * R) * R + (B' + 3 * (h + H)) * (R * R)
step_low R d h a b A B H A' B' e = omega (arith, ap (λ (t : ℕ). t * (R * R)) e)

step_high : (R d h a b A B H A' B' : ℕ) → A' + (d * b + B) ≡ B' + (d * a + A) →
    ((d * a + 3 * h) * R + (A + 3 * H) * R) * R + B' * (R * R) ≤ (A' + 3 * (h + H)) * (R * R) + (d * b * R + B * R) * R
step_high R d h a b A B H A' B' e = omega (arith, ap (λ (t : ℕ). t * (R * R)) e)

module _ (G : ℕ → ℤ) (E : ℕ → Enclosure) (near : (v : ℕ) → Member (G v) (E v)) where
  fine_lowest : (l : List Span) (c : List FineShot) → FineChosen l c
      → lower (lowest_total G l) (3 * longest l) ≤ᵖ fine_sum (λ v. lowest (E v)) c
  unfolding FineChosen fine_sum longest total
  fine_lowest [] [] h = omega arith
  fine_lowest [] (s ∷ c) h = absurd h
  fine_lowest (p ∷ l) [] h = absurd h
  fine_lowest (p ∷ l) (s ∷ c) (low, high, same, h) =
      let v = p.step in
      let g = G v in
      let d = (least_shot G p).distance in
      let T = lowest_total G l in
      let H = longest l in
      let rest = fine_sum (λ v. lowest (E v)) c in
      rw same
      (≤ᵖ-trans (lower (lowest_total G (p ∷ l)) (3 * (p.high + H))) (lower_by d p.high g +ᵖ lower T (3 * H)) (s.distance ×ᵖ lowest (E v) +ᵖ rest)
      (step_low (2 ^ 30) d p.high (above g) (below g) (above T) (below T) H _ _ (product_parts d g T))
      (+ᵖ-mono (lower_by d p.high g) (s.distance ×ᵖ lowest (E v)) (lower T (3 * H)) rest
      (≤ᵖ-trans (lower_by d p.high g) (s.distance ×ᵖ lower g 3) (s.distance ×ᵖ lowest (E v))
      (product_low s.distance p.low p.high low high g)
      (×ᵖ-mono s.distance (lower g 3) (lowest (E v)) (member_ends g (E v) (near v)).0))
      (fine_lowest l c h)))

  fine_highest : (l : List Span) (c : List FineShot) → FineChosen l c
      → fine_sum (λ v. highest (E v)) c ≤ᵖ upper (highest_total G l) (3 * longest l)
  unfolding FineChosen fine_sum longest total
  fine_highest [] [] h = omega arith
  fine_highest [] (s ∷ c) h = absurd h
  fine_highest (p ∷ l) [] h = absurd h
  fine_highest (p ∷ l) (s ∷ c) (low, high, same, h) =
      let v = p.step in
      let g = G v in
      let d = (greatest_shot G p).distance in
      let T = highest_total G l in
      let H = longest l in
      let rest = fine_sum (λ v. highest (E v)) c in
      rw same
      (≤ᵖ-trans (s.distance ×ᵖ highest (E v) +ᵖ rest) (upper_by d p.high g +ᵖ upper T (3 * H)) (upper (highest_total G (p ∷ l)) (3 * (p.high + H)))
      (+ᵖ-mono (s.distance ×ᵖ highest (E v)) (upper_by d p.high g) rest (upper T (3 * H))
      (≤ᵖ-trans (s.distance ×ᵖ highest (E v)) (s.distance ×ᵖ upper g 3) (upper_by d p.high g)
      (×ᵖ-mono s.distance (highest (E v)) (upper g 3) (member_ends g (E v) (near v)).1)
      (product_high s.distance p.low p.high low high g))
      (fine_highest l c h))
      (step_high (2 ^ 30) d p.high (above g) (below g) (above T) (below T) H _ _ (product_parts d g T)))

fine_by : (G : ℕ → ℤ) (E : ℕ → ℕ → Enclosure) → ((v : ℕ) → Member (G v) (E 96 v)) → (l : List Span)
    → FineSpans E l (rounded (lowest_total G l)) (rounded (highest_total G l))
fine_by G E near l = record {
  bits = 96;
  between = λ c h x from to.
      let L = longest l in (
        from_lower L (lowest_total G l) x (≤ᵖ-trans (lower (lowest_total G l) (3 * L)) (fine_sum (λ v. lowest (E 96 v)) c) x (fine_lowest G (E 96) near l c h) from),
        from_upper L (highest_total G l) x (≤ᵖ-trans x (fine_sum (λ v. highest (E 96 v)) c) (upper (highest_total G l) (3 * L)) to (fine_highest G (E 96) near l c h)),
      );
}

pub fine_spans : (l : List Span)
    → FineSpans exact_sine l (rounded (lowest_total sine l)) (rounded (highest_total sine l))
    × FineSpans exact_cosine l (rounded (lowest_total cosine l)) (rounded (highest_total cosine l))
fine_spans l = (fine_by sine exact_sine (λ v. (members_near v).0) l, fine_by cosine exact_cosine (λ v. (members_near v).1) l)

-- Laws of the exact pair: every enclosure of a product has a point, any two meet, and they become as narrow as one likes.
use Prim.Native.Nat.{ℕ, zero, ◌+◌, ◌*◌, ◌≤◌, ◌<◌}
use native.Mathlib.Nat.{mul-pos, mul-le-mul_left}
use native.Mathlib.Omega.{arith}
use Rattle.exact.specs.Fraction.{Fraction, whole, ◌+ᶠ◌, ◌*ᶠ◌, ◌≤ᶠ◌, ◌<ᶠ◌}
use Rattle.exact.proofs.FractionLaws.{≤ᶠ-refl, ≤ᶠ-trans, ≤ᶠ-<ᶠ-trans, <ᶠ-weaken, +ᶠ-mono, *ᶠ-mono, ◌≤ᶠ⟨◌⟩◌, ◌∎ᶠ, chained}
use Rattle.exact.specs.Radius.{RadiusEnclosure}
use Rattle.exact.proofs.RadiusLaws.{radius_enclosures_overlap, radius_narrow}
use Rattle.exact.specs.Pair.{Enclosure, members, times, first_product, second_product}
use Rattle.exact.proofs.MemberLaws.{Meet, Proper, members_proper, members_overlap, members_narrow}

-- The product has a point: its low end is at most its high end.
pub product_ends : {z : Fraction} (g : RadiusEnclosure z) (n v : ℕ) →
    ((first_product g n v).low ≤ᶠ (first_product g n v).high) × ((second_product g n v).low ≤ᶠ (second_product g n v).high)
product_ends g n v =
    let (s, c) = members_proper n v in
    let r = (radius_enclosures_overlap g g).0 in (
      *ᶠ-mono g.low g.high (members n v).0.low (members n v).0.high r s.ends,
      *ᶠ-mono g.low g.high (members n v).1.low (members n v).1.high r c.ends,
    )

-- Any two enclosures of the exact pair meet, whatever their radii and fraction bits.
times_meet : {z : Fraction} (g g' : RadiusEnclosure z) (e e' : Enclosure) → Meet e e' → Meet (times g e) (times g' e')
times_meet g g' e e' h =
    let (r, r') = radius_enclosures_overlap g g' in
    record {
      sign = h.sign;
      low = *ᶠ-mono g.low g'.high e.low e'.high r h.low;
      high = *ᶠ-mono g'.low g.high e'.low e.high r' h.high;
    }

pub products_overlap : {z : Fraction} (g g' : RadiusEnclosure z) (n n' v : ℕ) →
    Meet (first_product g n v) (first_product g' n' v) × Meet (second_product g n v) (second_product g' n' v)
products_overlap g g' n n' v =
    let (s, c) = members_overlap n n' v in
    (times_meet g g' _ _ s, times_meet g g' _ _ c)

-- The width of a product: with the radius below X, its width at most δ, and the member at most 1, its width at most η with X η ≤ δ.
expand_left : (x y z : Fraction) → (x +ᶠ y) *ᶠ z ≤ᶠ x *ᶠ z +ᶠ y *ᶠ z
expand_left x y z = omega arith

expand_right : (x y z : Fraction) → x *ᶠ (y +ᶠ z) ≤ᶠ x *ᶠ y +ᶠ x *ᶠ z
expand_right x y z = omega arith

times_one : (x y : Fraction) → y ≤ᶠ whole 1 → x *ᶠ y ≤ᶠ x
times_one x y h = omega (arith, mul-le-mul_left (x.top * x.bottom) h)

product_width : (low high low' high' X δ η : Fraction) → high ≤ᶠ low +ᶠ δ → high' ≤ᶠ low' +ᶠ η → high' ≤ᶠ whole 1 → low ≤ᶠ X → X *ᶠ η ≤ᶠ δ →
    high *ᶠ high' ≤ᶠ low *ᶠ low' +ᶠ δ +ᶠ δ
product_width low high low' high' X δ η h h' one most small =
    chained
    (high *ᶠ high' ≤ᶠ⟨ *ᶠ-mono high (low +ᶠ δ) high' high' h (≤ᶠ-refl high') ⟩
    (low +ᶠ δ) *ᶠ high' ≤ᶠ⟨ expand_left low δ high' ⟩
    low *ᶠ high' +ᶠ δ *ᶠ high' ≤ᶠ⟨ +ᶠ-mono (low *ᶠ high') (low *ᶠ low' +ᶠ δ) (δ *ᶠ high') δ inner (times_one δ high' one) ⟩
    low *ᶠ low' +ᶠ δ +ᶠ δ ∎ᶠ)
  where
    inner : low *ᶠ high' ≤ᶠ low *ᶠ low' +ᶠ δ
    inner =
        chained
        (low *ᶠ high' ≤ᶠ⟨ *ᶠ-mono low low high' (low' +ᶠ η) (≤ᶠ-refl low) h' ⟩
        low *ᶠ (low' +ᶠ η) ≤ᶠ⟨ expand_right low low' η ⟩
        low *ᶠ low' +ᶠ low *ᶠ η ≤ᶠ⟨ +ᶠ-mono (low *ᶠ low') (low *ᶠ low') (low *ᶠ η) δ (≤ᶠ-refl (low *ᶠ low'))
        (≤ᶠ-trans (low *ᶠ η) (X *ᶠ η) δ (*ᶠ-mono low X η η most (≤ᶠ-refl η)) small) ⟩
        low *ᶠ low' +ᶠ δ ∎ᶠ)

-- a fourth of ε, and a fourth of ε over X + 1
fourth_of : Fraction → Fraction
fourth_of ε = record { top = ε.top; bottom = 4 * ε.bottom; positive = omega (arith, ε.positive) }

share : Fraction → Fraction → Fraction
share ε X = record {
  top = ε.top * X.bottom;
  bottom = 4 * ε.bottom * (X.top + X.bottom);
  positive = mul-pos (omega (arith, ε.positive)) (omega (arith, X.positive));
}

share_small : (ε X : Fraction) → X *ᶠ share ε X ≤ᶠ fourth_of ε
unfolding share fourth_of
share_small ε X = omega arith

two_fourths : (ε x : Fraction) → zero < ε.top → x +ᶠ fourth_of ε +ᶠ fourth_of ε <ᶠ x +ᶠ ε
unfolding fourth_of
two_fourths ε x pos = omega (arith, mul-pos (mul-pos pos (mul-pos ε.positive ε.positive)) (mul-pos x.positive x.positive))

-- the product with a member that is narrower than the share of ε
narrow_product : {z : Fraction} (g : RadiusEnclosure z) (e : Enclosure) (ε X : Fraction) → zero < ε.top → g.high <ᶠ g.low +ᶠ fourth_of ε → g.low ≤ᶠ X →
    e.high <ᶠ e.low +ᶠ share ε X → Proper e → (times g e).high <ᶠ (times g e).low +ᶠ ε
narrow_product g e ε X pos narrow most small p =
    ≤ᶠ-<ᶠ-trans (g.high *ᶠ e.high) (g.low *ᶠ e.low +ᶠ fourth_of ε +ᶠ fourth_of ε) (g.low *ᶠ e.low +ᶠ ε)
    (product_width g.low g.high e.low e.high X (fourth_of ε) (share ε X) (<ᶠ-weaken g.high (g.low +ᶠ fourth_of ε) narrow)
    (<ᶠ-weaken e.high (e.low +ᶠ share ε X) small) p.most most (share_small ε X))
    (two_fourths ε (g.low *ᶠ e.low) pos)

-- For every first number and every fraction above 0 there are a start and a width such that for every n from the start on, every v and
-- every enclosure of the radius narrower than the width, of which there is one, both products are narrower than the fraction.
pub pair_narrow : (z ε : Fraction) → whole 1 ≤ᶠ z → zero < ε.top →
    (start : ℕ) × (width : Fraction) × ((g : RadiusEnclosure z) × (g.high <ᶠ g.low +ᶠ width))
    × ((g : RadiusEnclosure z) → g.high <ᶠ g.low +ᶠ width → (n v : ℕ) → start ≤ n →
    ((first_product g n v).high <ᶠ (first_product g n v).low +ᶠ ε) × ((second_product g n v).high <ᶠ (second_product g n v).low +ᶠ ε))
unfolding fourth_of share
pair_narrow z ε le pos =
    let (some, _) = radius_narrow z (whole 1) le (omega arith) in
    let X = some.high in
    let (start, small) = members_narrow (share ε X) (omega (arith, mul-pos pos X.positive)) in (
      start,
      fourth_of ε,
      radius_narrow z (fourth_of ε) le pos,
      λ g narrow n v big.
          let (sine, cosine) = small n v big in
          let (proper, proper') = members_proper n v in
          let most = (radius_enclosures_overlap g some).0 in (
            narrow_product g (members n v).0 ε X pos narrow most sine proper,
            narrow_product g (members n v).1 ε X pos narrow most cosine proper',
          ),
    )

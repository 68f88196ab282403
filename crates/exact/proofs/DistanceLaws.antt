-- What `CloseTo` of Pair.antt says of a sample of n units, by its sign: with the enclosure's sign it is less than the limit from the size
-- of every point; with the other sign it and that size together make less than the limit. And that close and far exclude each other.
use mathlib.Core.Path.{◌≡◌}
use mathlib.Core.Bool.{Bool, true, false, cond}
use mathlib.Core.Logic.{◌↔◌, ◌⊎◌, inl, inr}
use Prim.Native.Nat.{ℕ, zero, suc, ◌^◌}
use native.Mathlib.Omega.{arith}
use lib.IntN.{ℤ, pos, neg_ℤ, neg_ℤ-neg_ℤ}
use Rattle.exact.specs.Fraction.{Fraction, whole, ◌+ᶠ◌, ◌*ᶠ◌, ◌≤ᶠ◌, ◌<ᶠ◌}
use Rattle.exact.proofs.FractionLaws.{≤ᶠ-refl, <ᶠ-≤ᶠ-trans, ≤ᶠ-<ᶠ-trans, <ᶠ-weaken, ≤ᶠ-or-<ᶠ, +ᶠ-mono, +ᶠ-mono-le-lt, +ᶠ-mono-lt-le, *ᶠ-mono, ≤ᶠ-+ᶠ}
use Rattle.exact.specs.Radius.{RadiusEnclosure}
use Rattle.exact.specs.Pair.{Enclosure, above, below, Within, Beyond, along, CloseTo, FarFrom, first_product, second_product, Close}
use Rattle.exact.proofs.MemberLaws.{Meet}
use Rattle.exact.proofs.PairLaws.{product_ends, products_overlap}

-- n units and the fraction x are less than the limit apart; together they make less than the limit
abbrev pub Apart : Fraction → ℕ → ℕ → Fraction → Type 0
Apart limit f n x = (whole n <ᶠ x *ᶠ whole (2 ^ f) +ᶠ limit) × (x *ᶠ whole (2 ^ f) <ᶠ whole n +ᶠ limit)

abbrev pub Together : Fraction → ℕ → ℕ → Fraction → Type 0
Together limit f n x = whole n +ᶠ x *ᶠ whole (2 ^ f) <ᶠ limit

within_positive : (limit : Fraction) (f n : ℕ) (x : Fraction) → Within limit f (pos n) x ↔ Apart limit f n x
unfolding Within
within_positive limit f n x = (λ (up, down). (omega arith, omega arith), λ (up, down). (omega arith, omega arith))

within_negative : (limit : Fraction) (f n : ℕ) (x : Fraction) → Within limit f (neg_ℤ (pos n)) x ↔ Together limit f n x
unfolding Within
within_negative limit f zero x = (λ (up, down). omega arith, λ h. (omega arith, omega arith))
within_negative limit f (suc n) x = (λ (up, down). omega arith, λ h. (omega arith, omega arith))

pub close_same_sign : (limit : Fraction) (f n : ℕ) (e : Enclosure) →
    CloseTo limit f (cond e.negative (neg_ℤ (pos n)) (pos n)) e ↔ ((x : Fraction) → e.low ≤ᶠ x → x ≤ᶠ e.high → Apart limit f n x)
unfolding CloseTo
close_same_sign limit f n e =
    (λ h x from to. (by_sign e.negative x).0 (h x from to), λ h x from to. (by_sign e.negative x).1 (h x from to))
  where
    by_sign : (b : Bool) (x : Fraction) → Within limit f (along b (cond b (neg_ℤ (pos n)) (pos n))) x ↔ Apart limit f n x
    by_sign true x = rw (neg_ℤ-neg_ℤ (pos n)) (within_positive limit f n x)
    by_sign false x = within_positive limit f n x

pub close_other_sign : (limit : Fraction) (f n : ℕ) (e : Enclosure) →
    CloseTo limit f (cond e.negative (pos n) (neg_ℤ (pos n))) e ↔ ((x : Fraction) → e.low ≤ᶠ x → x ≤ᶠ e.high → Together limit f n x)
unfolding CloseTo
close_other_sign limit f n e =
    (λ h x from to. (by_sign e.negative x).0 (h x from to), λ h x from to. (by_sign e.negative x).1 (h x from to))
  where
    by_sign : (b : Bool) (x : Fraction) → Within limit f (along b (cond b (pos n) (neg_ℤ (pos n)))) x ↔ Together limit f n x
    by_sign true x = within_negative limit f n x
    by_sign false x = within_negative limit f n x

-- so a sample of the sign opposite to an enclosure that has a point is less than the limit in size
pub other_sign_small : (limit : Fraction) (f n : ℕ) (e : Enclosure) → e.low ≤ᶠ e.high →
    CloseTo limit f (cond e.negative (pos n) (neg_ℤ (pos n))) e → whole n <ᶠ limit
other_sign_small limit f n e ends h =
    let x = e.low in
    ≤ᶠ-<ᶠ-trans (whole n) (whole n +ᶠ x *ᶠ whole (2 ^ f)) limit (≤ᶠ-+ᶠ (whole n) (x *ᶠ whole (2 ^ f)))
    ((close_other_sign limit f n e).0 h x (≤ᶠ-refl x) ends)

-- ---- Less than one limit and more than another

-- x 2^f, for a sample of f fraction bits
abbrev pub units : ℕ → Fraction → Fraction
units f x = x *ᶠ whole (2 ^ f)

module _ (near far : Fraction) (f : ℕ) (s : ℤ) (x : Fraction) where
  -- x 2^f and the limit, against the sample; the sample and the limit, against x 2^f: both grow with the limit
  up : near ≤ᶠ far → units f x +ᶠ near +ᶠ whole (below s) ≤ᶠ units f x +ᶠ far +ᶠ whole (below s)
  up h =
      +ᶠ-mono (units f x +ᶠ near) (units f x +ᶠ far) (whole (below s)) (whole (below s))
      (+ᶠ-mono (units f x) (units f x) near far (≤ᶠ-refl (units f x)) h) (≤ᶠ-refl (whole (below s)))

  down : near ≤ᶠ far → whole (above s) +ᶠ near ≤ᶠ whole (above s) +ᶠ far
  down h = +ᶠ-mono (whole (above s)) (whole (above s)) near far (≤ᶠ-refl (whole (above s))) h

  -- what is less than a limit away is less than a greater one away
  pub within_wider : near ≤ᶠ far → Within near f s x → Within far f s x
  unfolding Within
  within_wider h (low, high) = (
    <ᶠ-≤ᶠ-trans (whole (above s)) (units f x +ᶠ near +ᶠ whole (below s)) (units f x +ᶠ far +ᶠ whole (below s)) low (up h),
    <ᶠ-≤ᶠ-trans (units f x +ᶠ whole (below s)) (whole (above s) +ᶠ near) (whole (above s) +ᶠ far) high (down h),
  )

  -- "less than" one limit and "more than" another exclude each other where the limits do: what is within 31/64 is not beyond it
  pub within_not_beyond : near ≤ᶠ far → Within near f s x → Beyond far f s x → ⊥
  unfolding Within Beyond
  within_not_beyond h w (inl b) = omega (arith, (within_wider h w).0, b)
  within_not_beyond h w (inr b) = omega (arith, (within_wider h w).1, b)

-- and where the limits overlap, every sample is the one or the other
pub within_or_beyond : (near far : Fraction) (f : ℕ) (s : ℤ) (x : Fraction) → far <ᶠ near → Within near f s x ⊎ Beyond far f s x
unfolding Within Beyond
within_or_beyond near far f s x h =
    tested (≤ᶠ-or-<ᶠ (whole (above s)) (units f x +ᶠ far +ᶠ whole (below s))) (≤ᶠ-or-<ᶠ (units f x +ᶠ whole (below s)) (whole (above s) +ᶠ far))
  where
    tested : (whole (above s) ≤ᶠ units f x +ᶠ far +ᶠ whole (below s)) ⊎ (units f x +ᶠ far +ᶠ whole (below s) <ᶠ whole (above s))
        → (units f x +ᶠ whole (below s) ≤ᶠ whole (above s) +ᶠ far) ⊎ (whole (above s) +ᶠ far <ᶠ units f x +ᶠ whole (below s))
        → Within near f s x ⊎ Beyond far f s x
    tested (inr b) _ = inr (inl b)
    tested (inl a) (inr b) = inr (inr b)
    tested (inl a) (inl b) =
        inl (
          ≤ᶠ-<ᶠ-trans (whole (above s)) (units f x +ᶠ far +ᶠ whole (below s)) (units f x +ᶠ near +ᶠ whole (below s)) a
              (+ᶠ-mono-lt-le (units f x +ᶠ far) (units f x +ᶠ near) (whole (below s)) (whole (below s))
              (+ᶠ-mono-le-lt (units f x) (units f x) far near (≤ᶠ-refl (units f x)) h) (≤ᶠ-refl (whole (below s)))),
          ≤ᶠ-<ᶠ-trans (units f x +ᶠ whole (below s)) (whole (above s) +ᶠ far) (whole (above s) +ᶠ near) b
              (+ᶠ-mono-le-lt (whole (above s)) (whole (above s)) far near (≤ᶠ-refl (whole (above s))) h),
        )

-- so a pair that is close within a limit is close within a greater one
pub close_wider : (near far : Fraction) {f : ℕ} {z : Fraction} {v : ℕ} {s t : ℤ} → near ≤ᶠ far → Close near f z v s t → Close far f z v s t
unfolding CloseTo
close_wider near far h c = record {
  radius = c.radius;
  bits = c.bits;
  first = λ x from to. within_wider near far _ _ x h (c.first x from to);
  second = λ x from to. within_wider near far _ _ x h (c.second x from to);
}

-- a sample more than a limit above the high end of an enclosure is more than it from every point
pub far_above : (limit : Fraction) (f n : ℕ) (e : Enclosure) → e.negative ≡ false → units f e.high +ᶠ limit <ᶠ whole n → FarFrom limit f (pos n) e
unfolding FarFrom Beyond
far_above limit f n e sign h x from to =
    let unit = whole (2 ^ f) in
    let below_end = +ᶠ-mono (units f x) (units f e.high) limit limit (*ᶠ-mono x e.high unit unit to (≤ᶠ-refl unit)) (≤ᶠ-refl limit) in
    let t = ≤ᶠ-<ᶠ-trans (units f x +ᶠ limit) (units f e.high +ᶠ limit) (whole n) below_end h in
    rw sign (inl (omega (arith, t)))

-- and two enclosures that have a point in common are not close to a sample and far from it
far_not_close : (near far : Fraction) (f : ℕ) (s : ℤ) (e e' : Enclosure) → near ≤ᶠ far → e.low ≤ᶠ e.high → e'.low ≤ᶠ e'.high → Meet e e'
    → CloseTo near f s e → FarFrom far f s e' → ⊥
unfolding CloseTo FarFrom
far_not_close near far f s e e' h ends ends' meet close away = at_point (≤ᶠ-or-<ᶠ e.low e'.low)
  where
    common : (x : Fraction) → e.low ≤ᶠ x → x ≤ᶠ e.high → e'.low ≤ᶠ x → x ≤ᶠ e'.high → ⊥
    common x from to from' to' =
        within_not_beyond near far f (along e.negative s) x h (close x from to) (rw meet.sign (away x from' to'))

    at_point : (e.low ≤ᶠ e'.low) ⊎ (e'.low <ᶠ e.low) → ⊥
    at_point (inl le) = common e'.low le meet.high (≤ᶠ-refl e'.low) ends'
    at_point (inr lt) = common e.low (≤ᶠ-refl e.low) ends (<ᶠ-weaken e'.low e.low lt) meet.low

-- A sample that is more than a limit from some enclosure of its product is promised to be less than another from it only where that is the
-- greater one, whatever enclosures the two speak of.
pub far_bounds_close : {z : Fraction} (g : RadiusEnclosure z) (n v : ℕ) (near far : Fraction) (f : ℕ) (s t : ℤ) → Close near f z v s t
    → (FarFrom far f s (first_product g n v) → far <ᶠ near) × (FarFrom far f t (second_product g n v) → far <ᶠ near)
far_bounds_close g n v near far f s t c =
    let (first, second) = product_ends c.radius c.bits v in
    let (first', second') = product_ends g n v in
    let (meet, meet') = products_overlap c.radius g c.bits n v in (
      λ away. else_absurd (≤ᶠ-or-<ᶠ near far) λ le. far_not_close near far f s _ _ le first first' meet c.first away,
      λ away. else_absurd (≤ᶠ-or-<ᶠ near far) λ le. far_not_close near far f t _ _ le second second' meet' c.second away,
    )
  where
    else_absurd : (near ≤ᶠ far) ⊎ (far <ᶠ near) → (near ≤ᶠ far → ⊥) → far <ᶠ near
    else_absurd (inl le) never = absurd (never le)
    else_absurd (inr lt) never = lt

-- Every choice lies between the lowest and the highest sum, and each is the sum of a choice.
use mathlib.Core.Path.{◌≡◌, refl, sym, ap}
use mathlib.Core.Bool.{Bool, true, false, cond}
use mathlib.Core.List.{List, [], ◌∷◌, map}
use Prim.Native.Nat.{ℕ, suc, ◌+◌, ◌*◌, ◌/◌, ◌^◌, ◌≤◌}
use native.Mathlib.Nat.{mul-le-mul_right}
use native.Mathlib.Omega.{arith}
use lib.Dec.{le→leb}
use lib.IntN.{ℤ, pos, negsuc, ◌+ℤ◌, ◌*ℤ◌}
use lib.ListN.{length}
use lib.Signed.{non_neg, ◌≤ℤ◌, le_z_yes}
use Rattle.exact.specs.Pair.{Enclosure, above, below}
use Rattle.noisy_shot.specs.Shots.{Shot}
use Rattle.sums.specs.Sums.{sine, cosine, total, rounded, most_shots, Bounded, Allowed}
use Rattle.sums.specs.Exact.{Near, exact_sine, exact_cosine}
use Rattle.sums.specs.Spans.{Span, Chosen, low_shots, least_shot, greatest_shot, lowest_total, highest_total, Ranged, EqualReadings, Met, Spans}
use Rattle.sums.proofs.Parts.{neg_parts, product_parts}
use Rattle.sums.proofs.Nearness.{close_within}

-- the order by the two parts
abbrev Before : ℤ → ℤ → Type 0
Before x y = above x + below y ≤ above y + below x

from_parts : (x y : ℤ) → Before x y → x ≤ℤ y
from_parts (pos a) (pos b) h = le_z_yes (le→leb a b (omega arith))
from_parts (pos a) (negsuc b) h = absurd (let f : ⊥ = omega arith in f)
from_parts (negsuc a) (pos b) h = le_z_yes tt
from_parts (negsuc a) (negsuc b) h = le_z_yes (le→leb b a (omega arith))

-- rounding keeps the order
rounded_order : (x y : ℤ) → Before x y → Before (rounded x) (rounded y)
rounded_order (pos a) (pos b) h = omega arith
rounded_order (pos a) (negsuc b) h = absurd (let f : ⊥ = omega arith in f)
rounded_order (negsuc a) (pos b) h = omega (arith, neg_parts ((suc a + 2 ^ 29) / 2 ^ 30))
rounded_order (negsuc a) (negsuc b) h = omega (arith, neg_parts ((suc a + 2 ^ 29) / 2 ^ 30), neg_parts ((suc b + 2 ^ 29) / 2 ^ 30))

-- a product grows with the distance where the factor is not negative, and falls else
product_order : (x : ℤ) (a d b : ℕ) → a ≤ d → d ≤ b
    → (cond (non_neg x) a b * above x + d * below x ≤ d * above x + cond (non_neg x) a b * below x)
    × (d * above x + cond (non_neg x) b a * below x ≤ cond (non_neg x) b a * above x + d * below x)
product_order (pos g) a d b h k = omega (arith, mul-le-mul_right g h, mul-le-mul_right g k)
product_order (negsuc g) a d b h k = omega (arith, mul-le-mul_right (suc g) h, mul-le-mul_right (suc g) k)

-- one term more on both sides
term_order : (c d : ℕ) (x y z : ℤ) → c * above x + d * below x ≤ d * above x + c * below x → Before y z → Before (pos c *ℤ x +ℤ y) (pos d *ℤ x +ℤ z)
term_order c d x y z h k = omega (arith, product_parts c x y, product_parts d x z)

within : (t : Bool) (a b : ℕ) → a ≤ b → (a ≤ cond t a b) × (cond t a b ≤ b) × (a ≤ cond t b a) × (cond t b a ≤ b)
within true a b h = omega arith
within false a b h = omega arith

-- ---- choices

choice_length : (l : List Span) (c : List Shot) → Chosen l c → length c ≡ length l
unfolding Chosen
choice_length [] [] h = refl
choice_length [] (s ∷ c) h = absurd h
choice_length (p ∷ l) [] h = absurd h
choice_length (p ∷ l) (s ∷ c) (low, high, same, h) = ap suc (choice_length l c h)

choice_bounded : (l : List Span) (c : List Shot) → Ranged l → Chosen l c → Bounded c
unfolding Chosen Ranged Bounded
choice_bounded [] [] r h = tt
choice_bounded [] (s ∷ c) r h = absurd h
choice_bounded (p ∷ l) [] r h = absurd h
choice_bounded (p ∷ l) (s ∷ c) (order, far, r) (low, high, same, h) = (omega (arith, high, far), choice_bounded l c r h)

-- a choice is a run that a listing may hold
pub choice_allowed : (l : List Span) (c : List Shot) → length l ≤ most_shots → Ranged l → Chosen l c → Allowed c
choice_allowed l c few r h = (omega (arith, few, choice_length l c h), choice_bounded l c r h)

pub low_chosen : (l : List Span) → Ranged l → Chosen l (low_shots l)
unfolding Chosen Ranged
low_chosen [] h = tt
low_chosen (p ∷ l) (order, far, h) = (omega arith, order, refl, low_chosen l h)

module _ (G : ℕ → ℤ) where
  between : (l : List Span) (c : List Shot) → Chosen l c → Before (lowest_total G l) (total G c) × Before (total G c) (highest_total G l)
  unfolding Chosen total
  between [] [] h = omega arith
  between [] (s ∷ c) h = absurd h
  between (p ∷ l) [] h = absurd h
  between (p ∷ l) (s ∷ c) (low, high, same, h) =
      let (below, above) = between l c h in
      let (less, more) = product_order (G p.step) p.low s.distance p.high low high in
      rw same (term_order _ _ (G p.step) _ _ less below, term_order _ _ (G p.step) _ _ more above)

  pub least_chosen : (l : List Span) → Ranged l → Chosen l (map (least_shot G) l)
  unfolding Chosen Ranged
  least_chosen [] h = tt
  least_chosen (p ∷ l) (order, far, h) =
      let (a, b, c, d) = within (non_neg (G p.step)) p.low p.high order in
      (a, b, refl, least_chosen l h)

  pub greatest_chosen : (l : List Span) → Ranged l → Chosen l (map (greatest_shot G) l)
  unfolding Chosen Ranged
  greatest_chosen [] h = tt
  greatest_chosen (p ∷ l) (order, far, h) =
      let (a, b, c, d) = within (non_neg (G p.step)) p.low p.high order in
      (c, d, refl, greatest_chosen l h)

  -- the sums that no choice passes, where a run's rounded sum is near its exact one
  spans_by : (E : ℕ → ℕ → Enclosure) → ((c : List Shot) → Allowed c → (n : ℕ) × Near 3 (rounded (total G c)) (E n) c) → (l : List Span)
      → length l ≤ most_shots → Ranged l
      → Spans G E l (lowest_total G l) (highest_total G l) (rounded (lowest_total G l)) (rounded (highest_total G l))
  spans_by E near l few r =
      let met : (c : List Shot) → Chosen l c → Met G E l (total G c) (rounded (total G c)) =
      λ c h.
      let (n, close) = near c (choice_allowed l c few r h) in
      record { choice = c; chosen = h; sum = refl; millimetres = refl; bits = n; near = close } in
      record {
        between = λ c h.
            let (low, high) = between l c h in (
              from_parts _ _ low,
              from_parts _ _ high,
              from_parts _ _ (rounded_order (lowest_total G l) (total G c) low),
              from_parts _ _ (rounded_order (total G c) (highest_total G l) high),
            );
        low_met = met (map (least_shot G) l) (least_chosen l r);
        high_met = met (map (greatest_shot G) l) (greatest_chosen l r);
      }

pub spans : (l : List Span) → length l ≤ most_shots → Ranged l
    → Spans sine exact_sine l (lowest_total sine l) (highest_total sine l) (rounded (lowest_total sine l)) (rounded (highest_total sine l))
    × Spans cosine exact_cosine l (lowest_total cosine l) (highest_total cosine l) (rounded (lowest_total cosine l)) (rounded (highest_total cosine l))
spans l few r = (
  spans_by sine exact_sine (λ c h. let close = close_within 3 (omega arith) c h in (close.bits, close.sines)) l few r,
  spans_by cosine exact_cosine (λ c h. let close = close_within 3 (omega arith) c h in (close.bits, close.cosines)) l few r,
)

-- ---- where low equals high throughout, each end is the sum of the only choice

cond_same : (t : Bool) (a b : ℕ) → a ≡ b → (cond t a b ≡ a) × (cond t b a ≡ a)
cond_same true a b e = (refl, sym e)
cond_same false a b e = (sym e, refl)

equal_shots : (G : ℕ → ℤ) (l : List Span) → EqualReadings l → (map (least_shot G) l ≡ low_shots l) × (map (greatest_shot G) l ≡ low_shots l)
unfolding EqualReadings
equal_shots G [] h = (refl, refl)
equal_shots G (p ∷ l) (e, h) =
    let (a, b) = cond_same (non_neg (G p.step)) p.low p.high e in
    let (c, d) = equal_shots G l h in
    rw (a, b, c, d) (refl, refl)

pub equal_sums : (G : ℕ → ℤ) (l : List Span) → EqualReadings l → (lowest_total G l ≡ total G (low_shots l)) × (highest_total G l ≡ total G (low_shots l))
equal_sums G l h = (ap (total G) (equal_shots G l h).0, ap (total G) (equal_shots G l h).1)

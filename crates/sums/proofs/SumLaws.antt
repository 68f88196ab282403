-- Sums over joined runs and their sizes, and the enclosures of the exact sum: any two overlap, and they narrow.
use mathlib.Core.Path.{◌≡◌, sym, ap, ◌∙◌}
use mathlib.Core.Bool.{Bool, true, false, cond}
use mathlib.Core.List.{List, [], ◌∷◌, ◌++◌}
use Prim.Native.Nat.{ℕ, zero, suc, ◌+◌, ◌*◌, ◌≤◌, ◌<◌}
use native.Mathlib.Nat.{le_refl, mul-le-mul_left, mul-pos, add-mul, mul-add, mul_assoc, mul_comm, mul_left_comm}
use native.Mathlib.Omega.{arith}
use lib.IntN.{ℤ, pos, ◌+ℤ◌, ◌*ℤ◌, nat_abs, +ℤ_idl, +ℤ_idr, +ℤ_assoc}
use Rattle.exact.specs.Fraction.{Fraction, ◌<ᶠ◌, ◌+ᶠ◌}
use Rattle.exact.specs.Pair.{Enclosure}
use Rattle.exact.proofs.MemberLaws.{Meet, members_overlap, members_narrow}
use Rattle.sums.specs.Points.{Point, ◌≤ᵖ◌, ◌<ᵖ◌, ◌+ᵖ◌, ◌·ᵖ◌, signed, lowest, highest}
use Rattle.noisy_shot.specs.Shots.{Shot}
use Rattle.sums.specs.Sums.{product, total}
use Rattle.sums.specs.Exact.{sum_of, low_end, high_end, exact_sine, exact_cosine}
use Rattle.sums.specs.Margin.{distances}
use Rattle.sums.proofs.PointLaws.{≤ᵖ-trans, ≤ᵖ-<ᵖ-trans, +ᵖ-mono, ·ᵖ-mono}
use Rattle.signs.proofs.Sizes.{sum_size, product_size}

ruleset expand = (add-mul, mul-add, mul_assoc, mul_comm, mul_left_comm)

pub total_joined : (G : ℕ → ℤ) (l m : List Shot) → total G (l ++ m) ≡ total G l +ℤ total G m
unfolding total
total_joined G [] m = sym (+ℤ_idl (total G m))
total_joined G (s ∷ l) m =
    ap (λ (z : ℤ). product G s +ℤ z) (total_joined G l m) ∙ sym (+ℤ_assoc (product G s) (total G l) (total G m))

-- one shot more at the end
pub total_more : (G : ℕ → ℤ) (l : List Shot) (s : Shot) → total G (l ++ (s ∷ [])) ≡ total G l +ℤ product G s
unfolding total
total_more G l s = total_joined G l (s ∷ []) ∙ ap (λ (z : ℤ). total G l +ℤ z) (+ℤ_idr (product G s))

-- the size of a sum whose factors are at most K
pub total_size : (G : ℕ → ℤ) (K : ℕ) → ((v : ℕ) → nat_abs (G v) ≤ K) → (l : List Shot) → nat_abs (total G l) ≤ distances l * K
unfolding total distances
total_size G K h [] = omega arith
total_size G K h (s ∷ l) =
    let x = G s.step in
    let d = s.distance in
    omega (arith, sum_size (pos d *ℤ x) (total G l), product_size (pos d) x, mul-le-mul_left d (h s.step), total_size G K h l)

-- ---- any two enclosures overlap

pub sum_mono : (P Q : ℕ → Point) → ((v : ℕ) → P v ≤ᵖ Q v) → (l : List Shot) → sum_of P l ≤ᵖ sum_of Q l
unfolding sum_of
sum_mono P Q h [] = le_refl _
sum_mono P Q h (s ∷ l) =
    let d = s.distance in
    let x = P s.step in
    let y = Q s.step in
    +ᵖ-mono (d ·ᵖ x) (d ·ᵖ y) (sum_of P l) (sum_of Q l) (·ᵖ-mono d x y (h s.step)) (sum_mono P Q h l)

meets : (e f : Enclosure) → Meet e f → lowest e ≤ᵖ highest f
meets e f m = rw (← m.sign) (go e.negative)
  where
    go : (s : Bool) → signed s (cond s e.high e.low) ≤ᵖ signed s (cond s f.low f.high)
    go true = omega (arith, m.high)
    go false = omega (arith, m.low)

-- each low end is at most each high end; at n = m: an enclosure has a point
pub sums_overlap : (n m : ℕ) (l : List Shot) → (low_end (exact_sine n) l ≤ᵖ high_end (exact_sine m) l) × (low_end (exact_cosine n) l ≤ᵖ high_end (exact_cosine m) l)
sums_overlap n m l = (
  sum_mono _ _ (λ v. meets (exact_sine n v) (exact_sine m v) (members_overlap n m v).0) l,
  sum_mono _ _ (λ v. meets (exact_cosine n v) (exact_cosine m v) (members_overlap n m v).1) l,
)

-- ---- they narrow

narrow_one : (e : Enclosure) (η : Fraction) → e.high <ᶠ e.low +ᶠ η → highest e ≤ᵖ lowest e +ᵖ signed false η
narrow_one e η h = go e.negative
  where
    go : (s : Bool) → signed s (cond s e.low e.high) ≤ᵖ signed s (cond s e.high e.low) +ᵖ signed false η
    go true = omega (arith, h)
    go false = omega (arith, h)

-- d (x + y) + (z + D y) is (d x + z) + (d + D) y
regroup : (d D p m b q c r n k : ℕ) →
    (d * (p * c + q * b) * (k * c) + (r * c + D * q * k) * (b * c)) * (b * k * c) + ((d * m * k + n * b) * c + (d + D) * 0 * (b * k)) * (b * c * (k * c))
    ≤ ((d * p * k + r * b) * c + (d + D) * q * (b * k)) * (b * c * (k * c)) + (d * (m * c + 0 * b) * (k * c) + (n * c + D * 0 * k) * (b * c)) * (b * k * c)
regroup d D p m b q c r n k = simp expand (omega arith)

module _ (E : ℕ → Enclosure) (η : Fraction) (h : (v : ℕ) → (E v).high <ᶠ (E v).low +ᶠ η) where
  narrow_sum : (l : List Shot) → high_end E l ≤ᵖ low_end E l +ᵖ distances l ·ᵖ signed false η
  unfolding sum_of distances
  narrow_sum [] = omega arith
  narrow_sum (s ∷ l) =
      let d = s.distance in
      let e = E s.step in
      let x = lowest e in
      let y = signed false η in
      let z = low_end E l in
      let D = distances l in
      ≤ᵖ-trans (d ·ᵖ highest e +ᵖ high_end E l) (d ·ᵖ (x +ᵖ y) +ᵖ (z +ᵖ D ·ᵖ y)) (d ·ᵖ x +ᵖ z +ᵖ (d + D) ·ᵖ y)
      (+ᵖ-mono (d ·ᵖ highest e) (d ·ᵖ (x +ᵖ y)) (high_end E l) (z +ᵖ D ·ᵖ y)
      (·ᵖ-mono d (highest e) (x +ᵖ y) (narrow_one e η (h s.step))) (narrow_sum l))
      (regroup d D x.plus x.minus x.bottom η.top η.bottom z.plus z.minus z.bottom)

-- ε over D + 1
share : Fraction → ℕ → Fraction
share ε D = record { top = ε.top; bottom = ε.bottom * suc D; positive = mul-pos ε.positive (omega arith) }

share_less : (ε : Fraction) (D : ℕ) (z : Point) → zero < ε.top → z +ᵖ D ·ᵖ signed false (share ε D) <ᵖ z +ᵖ signed false ε
unfolding share
share_less ε D z some = less z.plus z.minus z.bottom ε.top ε.bottom some z.positive ε.positive
  where
    less : (p m b q c : ℕ) → zero < q → zero < b → zero < c →
        (p * (c * suc D) + D * q * b) * (b * c) + (m * c + 0 * b) * (b * (c * suc D))
        < (p * c + q * b) * (b * (c * suc D)) + (m * (c * suc D) + D * 0 * b) * (b * c)
    less p m b q c hq hb hc = omega (arith, mul-pos hq (mul-pos (mul-pos hb hb) hc))

-- for every fraction above 0 there is an n from which on both enclosures are narrower
pub sums_narrow : (ε : Fraction) → zero < ε.top → (l : List Shot) → (start : ℕ) × ((n : ℕ) → start ≤ n →
    (high_end (exact_sine n) l <ᵖ low_end (exact_sine n) l +ᵖ signed false ε)
    × (high_end (exact_cosine n) l <ᵖ low_end (exact_cosine n) l +ᵖ signed false ε))
unfolding share
sums_narrow ε some l =
    let D = distances l in
    let η = share ε D in
    let (start, narrow) = members_narrow η (omega arith) in
    let less : (E : ℕ → Enclosure) → ((v : ℕ) → (E v).high <ᶠ (E v).low +ᶠ η) → high_end E l <ᵖ low_end E l +ᵖ signed false ε =
    λ E h. ≤ᵖ-<ᵖ-trans (high_end E l) (low_end E l +ᵖ D ·ᵖ signed false η) (low_end E l +ᵖ signed false ε)
    (narrow_sum E η h l) (share_less ε D (low_end E l) some) in
    (start, λ n big. (less (exact_sine n) (λ v. (narrow n v big).0), less (exact_cosine n) (λ v. (narrow n v big).1)))

-- Products and sums of signed numbers at 64 bits, and their rounding.
use mathlib.Core.Path.{◌≡◌, refl, sym, ap, ap₂, ◌∙◌}
use mathlib.Core.Bool.{Bool, true, false, cond, false≢true, true≢false}
use Prim.Native.Nat.{ℕ, zero, suc, ◌+◌, ◌*◌, ◌/◌, ◌^◌, ◌≤◌, ◌<◌}
use native.Mathlib.Nat.{mul-le-mul, le_refl, div-mul-le_self}
use native.Mathlib.Omega.{arith}
use borrow.Author.Tests.{le-ltb}
use lib.IntN.{ℤ, pos, negsuc, neg_ℤ, nat_abs, ◌+ℤ◌, ◌-ℤ◌, ◌*ℤ◌}
use lib.Signed.{non_neg, lt_z, quot_z}
use mir.Syntax.{w64}
use mir.Val.{SFits, to_z, of_z}
use mir.Facts.{to_z_pos, to_z-of_z}
use Rattle.angle.specs.Steps.{signed_of}
use Rattle.angle.proofs.Ranges.{signed_range}
use Rattle.signs.proofs.Sizes.{nat_abs_neg, sum_size, product_size, size_fits, size_reads, fits_size}
use Rattle.sums.specs.Sums.{sine, cosine, most_distance, rounded}
use Rattle.misclosure.specs.Sizes.{SumsOf}
use Rattle.misclosure.specs.Private.{widened_by}
use Rattle.misclosure.specs.declared.Ends.{Ends}
use Rattle.sums.proofs.Parts.{rounded_size}

-- a number as the machine reads it back
abbrev pub again : ℤ → ℤ
again z = to_z w64 (of_z w64 z)

pub reads : (z : ℤ) → nat_abs z < 2 ^ 63 → again z ≡ z
reads = size_reads w64

-- the sine and the cosine that were returned
module _ {x y : ℤ} (v : ℕ) (e : (x, y) ≡ signed_of v) where
  pub read_turned : (again x ≡ sine v) × (again y ≡ cosine v)
  read_turned = (
    ap (λ (p : ℤ × ℤ). again p.0) e ∙ reads (sine v) (omega (arith, signed_range v)),
    ap (λ (p : ℤ × ℤ). again p.1) e ∙ reads (cosine v) (omega (arith, signed_range v)),
  )

  pub read_units : (nat_abs (again x) ≤ 2 ^ 30) × (nat_abs (again y) ≤ 2 ^ 30)
  read_units = rw (read_turned.0, read_turned.1) (signed_range v)

-- a distance times a sine or a cosine, added to a sum
module _ (sum : ℤ) (d : ℕ) (f : ℤ) (room : nat_abs sum < 2 ^ 62) (far : d ≤ most_distance) (unit : nat_abs f ≤ 2 ^ 30) where
  product_small : nat_abs (pos d *ℤ f) ≤ most_distance * 2 ^ 30
  product_small = rw (product_size (pos d) f) (mul-le-mul far unit)

  product_is : to_z w64 d *ℤ again f ≡ pos d *ℤ f
  product_is =
      let e : to_z w64 d ≡ pos d = to_z_pos w64 (omega arith) in
      ap₂ ◌*ℤ◌ e (reads f (omega arith))

  pub product_fits : SFits w64 (to_z w64 d *ℤ again f)
  product_fits = rw product_is (size_fits w64 (pos d *ℤ f) (omega (arith, product_small)))

  sum_is : again sum +ℤ again (to_z w64 d *ℤ again f) ≡ sum +ℤ pos d *ℤ f
  sum_is = ap₂ ◌+ℤ◌ (reads sum (omega arith)) (ap again product_is ∙ reads (pos d *ℤ f) (omega (arith, product_small)))

  sum_small : nat_abs (sum +ℤ pos d *ℤ f) < 2 ^ 63
  sum_small = omega (arith, sum_size sum (pos d *ℤ f), product_small)

  pub sum_fits : SFits w64 (again sum +ℤ again (to_z w64 d *ℤ again f))
  sum_fits = rw sum_is (size_fits w64 (sum +ℤ pos d *ℤ f) sum_small)

  pub sum_reads : again (again sum +ℤ again (to_z w64 d *ℤ again f)) ≡ sum +ℤ pos d *ℤ f
  sum_reads = ap again sum_is ∙ reads (sum +ℤ pos d *ℤ f) sum_small

-- a sum r of a field z and a product by g, as it is put into a struct
pub field_sum : (r z : ℤ) (d : ℕ) (g : ℤ) → r ≡ again z +ℤ pos d *ℤ again g → nat_abs z < 2 ^ 62 → d ≤ most_distance → nat_abs g ≤ 2 ^ 30
    → again r ≡ z +ℤ pos d *ℤ g
field_sum r z d g e room far unit =
    let s : r ≡ z +ℤ pos d *ℤ g = e ∙ ap₂ (λ (x y : ℤ). x +ℤ pos d *ℤ y) (reads z (omega arith)) (reads g (omega arith)) in
    ap again s ∙ reads (z +ℤ pos d *ℤ g) (sum_small z d g room far unit)

-- the test of a factor's sign
pub factor_below : (g : ℤ) → nat_abs g ≤ 2 ^ 30 → lt_z (again g) (pos 0) ≡ true → non_neg g ≡ false
factor_below g unit t = go g (rw (reads g (omega (arith, unit))) at t)
  where
    go : (y : ℤ) → lt_z y (pos 0) ≡ true → non_neg y ≡ false
    go (pos n) u = absurd (false≢true (sym (le-ltb n 0 (omega arith)) ∙ u))
    go (negsuc n) u = refl

pub factor_above : (g : ℤ) → nat_abs g ≤ 2 ^ 30 → lt_z (again g) (pos 0) ≡ false → non_neg g ≡ true
factor_above g unit t = go g (rw (reads g (omega (arith, unit))) at t)
  where
    go : (y : ℤ) → lt_z y (pos 0) ≡ false → non_neg y ≡ true
    go (pos n) u = refl
    go (negsuc n) u = absurd (true≢false u)

-- the two sums, once the sign is known
pub widened_is : (g : ℤ) (t : Bool) (low high : ℕ) (e : Ends) (x y : ℤ) → non_neg g ≡ t → x ≡ e.low +ℤ pos (cond t low high) *ℤ g
    → y ≡ e.high +ℤ pos (cond t high low) *ℤ g → ◌≡◌ {A = Ends} (record { low = x; high = y }) (widened_by g low high e)
widened_is g t low high e x y sign least greatest =
    ap₂ (λ (a b : ℤ). record { low = a; high = b })
    (least ∙ ap (λ (t : Bool). e.low +ℤ pos (cond t low high) *ℤ g) (sym sign))
    (greatest ∙ ap (λ (t : Bool). e.high +ℤ pos (cond t high low) *ℤ g) (sym sign))

-- two sums of n shots with the products of one more
product_more : (n : ℕ) (z : ℤ) (d : ℕ) (g : ℤ) → nat_abs z ≤ n * (most_distance * 2 ^ 30) → d ≤ most_distance → nat_abs g ≤ 2 ^ 30
    → nat_abs (z +ℤ pos d *ℤ g) ≤ (n + 1) * (most_distance * 2 ^ 30)
product_more n z d g size far unit =
    let product : nat_abs (pos d *ℤ g) ≤ most_distance * 2 ^ 30 = rw (product_size (pos d) g) (mul-le-mul far unit) in
    omega (arith, sum_size z (pos d *ℤ g), product, size)

pub widened_size : (n : ℕ) (e r : Ends) (g : ℤ) (low high : ℕ) → r ≡ widened_by g low high e → SumsOf n e → low ≤ most_distance → high ≤ most_distance
    → nat_abs g ≤ 2 ^ 30 → SumsOf (n + 1) r
widened_size n e r g low high same (least, greatest) near far unit = rw same (go (non_neg g))
  where
    go : (t : Bool) → SumsOf (n + 1) (record { low = e.low +ℤ pos (cond t low high) *ℤ g; high = e.high +ℤ pos (cond t high low) *ℤ g })
    go true = (product_more n e.low low g least near unit, product_more n e.high high g greatest far unit)
    go false = (product_more n e.low high g least far unit, product_more n e.high low g greatest near unit)

-- ---- rounding

-- a number's quotient by 2 or more, which has room for one more
module _ (z : ℤ) (h : SFits w64 z) (n : ℕ) (many : 2 ≤ n) where
  part_small : (m : ℕ) → m ≤ 2 ^ 63 → m / n ≤ 2 ^ 62
  part_small m k = omega (arith, div-mul-le_self m n, mul-le-mul (le_refl (m / n)) many, k)

  quotient_small : nat_abs (quot_z z (pos n)) ≤ 2 ^ 62
  quotient_small = go z (fits_size w64 z h)
    where
      go : (x : ℤ) → nat_abs x ≤ 2 ^ 63 → nat_abs (quot_z x (pos n)) ≤ 2 ^ 62
      go (pos m) k = part_small m k
      go (negsuc m) k = rw (nat_abs_neg (pos (suc m / n))) (part_small (suc m) k)

  pub quotient_fits : SFits w64 (quot_z (again z) (pos n))
  quotient_fits = rw (to_z-of_z h) (size_fits w64 _ (omega (arith, quotient_small)))

  pub quotient_is : again (quot_z (again z) (pos n)) ≡ quot_z z (pos n)
  quotient_is = ap (λ (x : ℤ). again (quot_z x (pos n))) (to_z-of_z h) ∙ reads (quot_z z (pos n)) (omega (arith, quotient_small))

  pub next_fits : (y : ℤ) → nat_abs y ≤ 1 → SFits w64 (again (quot_z (again z) (pos n)) +ℤ y)
  next_fits y k = rw quotient_is (size_fits w64 _ (omega (arith, sum_size (quot_z z (pos n)) y, quotient_small, k)))

-- half millimetres below zero, k of them
below_zero : (k m : ℕ) → suc m / 2 ^ 29 ≡ k → lt_z (neg_ℤ (pos k)) (pos 0) ≡ true
    → quot_z (neg_ℤ (pos k) -ℤ pos 1) (pos 2) ≡ neg_ℤ (pos ((suc m + 2 ^ 29) / 2 ^ 30))
below_zero zero m e t = absurd (false≢true t)
below_zero (suc k) m e t =
    let h : suc (suc (k + 0)) / 2 ≡ (suc m + 2 ^ 29) / 2 ^ 30 = omega (arith, e) in
    ap (λ (i : ℕ). neg_ℤ (pos i)) h

above_zero : (k m : ℕ) → suc m / 2 ^ 29 ≡ k → lt_z (neg_ℤ (pos k)) (pos 0) ≡ false
    → quot_z (neg_ℤ (pos k) +ℤ pos 1) (pos 2) ≡ neg_ℤ (pos ((suc m + 2 ^ 29) / 2 ^ 30))
above_zero zero m e t =
    let h : (suc m + 2 ^ 29) / 2 ^ 30 ≡ 0 = omega (arith, e) in
    ap (λ (i : ℕ). neg_ℤ (pos i)) (sym h)
above_zero (suc k) m e t = absurd (true≢false t)

-- from half millimetres to whole ones, away from zero
rounds_below : (z : ℤ) → lt_z (quot_z z (pos (2 ^ 29))) (pos 0) ≡ true → quot_z (quot_z z (pos (2 ^ 29)) -ℤ pos 1) (pos 2) ≡ rounded z
rounds_below (pos m) t = absurd (false≢true (sym (le-ltb (m / 2 ^ 29) 0 (omega arith)) ∙ t))
rounds_below (negsuc m) t = below_zero (suc m / 2 ^ 29) m refl t

rounds_above : (z : ℤ) → lt_z (quot_z z (pos (2 ^ 29))) (pos 0) ≡ false → quot_z (quot_z z (pos (2 ^ 29)) +ℤ pos 1) (pos 2) ≡ rounded z
rounds_above (pos m) t = let e : (m / 2 ^ 29 + 1) / 2 ≡ (m + 2 ^ 29) / 2 ^ 30 = omega arith in ap pos e
rounds_above (negsuc m) t = above_zero (suc m / 2 ^ 29) m refl t

-- as the machine has them
module _ (z : ℤ) (h : SFits w64 z) (n : ℕ) (half : n ≡ 2 ^ 29) where
  halves : again (quot_z (again z) (pos n)) ≡ quot_z z (pos (2 ^ 29))
  halves = quotient_is z h n (omega (arith, half)) ∙ ap (λ (m : ℕ). quot_z z (pos m)) half

  whole : (y : ℤ) → nat_abs y ≤ 1 → again (quot_z (again (again (quot_z (again z) (pos n)) +ℤ y)) (pos 2)) ≡ quot_z (quot_z z (pos (2 ^ 29)) +ℤ y) (pos 2)
  whole y k = quotient_is _ (next_fits z h n (omega (arith, half)) y k) 2 (omega arith) ∙ ap (λ (x : ℤ). quot_z (x +ℤ y) (pos 2)) halves

  pub millimetres_below : lt_z (again (quot_z (again z) (pos n))) (pos 0) ≡ true
      → again (quot_z (again (again (quot_z (again z) (pos n)) -ℤ pos 1)) (pos 2)) ≡ rounded z
  millimetres_below t = whole (neg_ℤ (pos 1)) (omega arith) ∙ rounds_below z (sym (ap (λ (x : ℤ). lt_z x (pos 0)) halves) ∙ t)

  pub millimetres_above : lt_z (again (quot_z (again z) (pos n))) (pos 0) ≡ false
      → again (quot_z (again (again (quot_z (again z) (pos n)) +ℤ pos 1)) (pos 2)) ≡ rounded z
  millimetres_above t = whole (pos 1) (omega arith) ∙ rounds_above z (sym (ap (λ (x : ℤ). lt_z x (pos 0)) halves) ∙ t)

-- a rounded sum, as it is put into the answer
pub rounded_reads : (a z : ℤ) → nat_abs z < 2 ^ 62 → a ≡ rounded (again z) → again a ≡ rounded z
rounded_reads a z h e =
    let k : a ≡ rounded z = e ∙ ap rounded (reads z (omega arith)) in
    ap again k ∙ reads (rounded z) (omega (arith, rounded_size z))

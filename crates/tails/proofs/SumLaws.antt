-- Laws of sums over the numbers below n.
use mathlib.Core.Path.{◌≡◌, refl, ap, ap₂, ◌∙◌}
use Prim.Native.Nat.{ℕ, zero, suc, ◌+◌, ◌*◌, ◌≤◌, ◌<◌}
use native.Mathlib.Nat.{add-zero, add-suc, zero-mul}
use native.Mathlib.Omega.{arith}
use Rattle.tails.specs.Counts.{sum_below}

pub sum_cong : (n : ℕ) (f g : ℕ → ℕ) → ((i : ℕ) → i < n → f i ≡ g i) → sum_below n f ≡ sum_below n g
unfolding sum_below
sum_cong zero f g same = refl
sum_cong (suc n) f g same = ap₂ (λ (x y : ℕ). x + y) (sum_cong n f g (λ i h. same i (omega arith))) (same n (omega arith))

pub sum_mono : (n : ℕ) (f g : ℕ → ℕ) → ((i : ℕ) → f i ≤ g i) → sum_below n f ≤ sum_below n g
unfolding sum_below
sum_mono zero f g less = omega arith
sum_mono (suc n) f g less = omega (arith, sum_mono n f g less, less n)

pub sum_zero : (n : ℕ) (f : ℕ → ℕ) → ((i : ℕ) → f i ≡ 0) → sum_below n f ≡ 0
unfolding sum_below
sum_zero zero f none = refl
sum_zero (suc n) f none = omega (arith, sum_zero n f none, none n)

pub sum_add : (m n : ℕ) (f : ℕ → ℕ) → sum_below (m + n) f ≡ sum_below m f + sum_below n (λ i. f (m + i))
unfolding sum_below
sum_add m zero f = rw (add-zero m) (omega arith)
sum_add m (suc n) f = rw add-suc (omega (arith, sum_add m n f))

-- the first summand apart
pub sum_front : (n : ℕ) (f : ℕ → ℕ) → sum_below (suc n) f ≡ f 0 + sum_below n (λ i. f (suc i))
unfolding sum_below
sum_front zero f = omega arith
sum_front (suc n) f = omega (arith, sum_front n f)

-- m rows of n
pub sum_rows_lem : (m n : ℕ) (f : ℕ → ℕ) → sum_below (m * n) f ≡ sum_below m (λ a. sum_below n (λ b. f (a * n + b)))
unfolding sum_below
sum_rows_lem zero n f = rw zero-mul refl
sum_rows_lem (suc m) n f =
    let e : suc m * n ≡ m * n + n = omega arith in
    rw e (sum_add (m * n) n f ∙ ap (λ (x : ℕ). x + sum_below n (λ b. f (m * n + b))) (sum_rows_lem m n f))

pub sum_four : (f : ℕ → ℕ) → sum_below 4 f ≡ f 0 + f 1 + f 2 + f 3
unfolding sum_below
sum_four f = omega arith

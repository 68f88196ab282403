-- Sums along diagonals: the square of a sum, without binomials.
use mathlib.Core.Path.{◌≡◌, refl}
use Prim.Native.Nat.{ℕ, zero, suc, ◌+◌, ◌*◌, ◌≤◌}
use native.Mathlib.Nat.{le_refl, suc-add, mul-le-mul_left}
use native.Mathlib.Decide.{le_ind}
use native.Mathlib.Omega.{arith}
use Rattle.tails.specs.Counts.{sum_below}
use Rattle.tails.proofs.SumLaws.{sum_front}

-- F 0 m + F 1 (m - 1) + .. + F m 0
unfoldable pub diagonal : (ℕ → ℕ → ℕ) → ℕ → ℕ
diagonal F zero = F 0 0
diagonal F (suc m) = F 0 (suc m) + diagonal (λ i. F (suc i)) m

pub diagonal_cong : (F G : ℕ → ℕ → ℕ) (m : ℕ) → ((i j : ℕ) → i + j ≡ m → F i j ≡ G i j) → diagonal F m ≡ diagonal G m
unfolding diagonal
diagonal_cong F G zero h = h 0 0 refl
diagonal_cong F G (suc m) h =
    omega (arith, h 0 (suc m) (omega arith), diagonal_cong (λ i. F (suc i)) (λ i. G (suc i)) m (λ i j e. h (suc i) j (omega (arith, e))))

pub diagonal_add : (F G : ℕ → ℕ → ℕ) (m : ℕ) → diagonal (λ i j. F i j + G i j) m ≡ diagonal F m + diagonal G m
unfolding diagonal
diagonal_add F G zero = refl
diagonal_add F G (suc m) = omega (arith, diagonal_add (λ i. F (suc i)) (λ i. G (suc i)) m)

pub diagonal_times : (k : ℕ) (F : ℕ → ℕ → ℕ) (m : ℕ) → diagonal (λ i j. k * F i j) m ≡ k * diagonal F m
unfolding diagonal
diagonal_times k F zero = refl
diagonal_times k F (suc m) = omega (arith, diagonal_times k (λ i. F (suc i)) m)

-- the other end
last : (F : ℕ → ℕ → ℕ) (m : ℕ) → diagonal F (suc m) ≡ diagonal (λ i j. F i (suc j)) m + F (suc m) 0
unfolding diagonal
last F zero = refl
last F (suc m) = omega (arith, last (λ i. F (suc i)) m)

pub diagonal_flip : (F : ℕ → ℕ → ℕ) (m : ℕ) → diagonal F m ≡ diagonal (λ i j. F j i) m
unfolding diagonal
diagonal_flip F zero = refl
diagonal_flip F (suc m) = omega (arith, last (λ i j. F j i) m, diagonal_flip (λ i. F (suc i)) m)

-- ---- a square lies inside a triangle, and a triangle inside a square

triangle_split : (F : ℕ → ℕ → ℕ) (n : ℕ) → sum_below (suc n) (diagonal F) ≡ sum_below (suc n) (F 0) + sum_below n (diagonal (λ i. F (suc i)))
unfolding diagonal sum_below
triangle_split F zero = omega arith
triangle_split F (suc n) = omega (arith, triangle_split F n)

longer : (f : ℕ → ℕ) {n m : ℕ} → n ≤ m → sum_below n f ≤ sum_below m f
unfolding sum_below
longer f {n} {m} h = le_ind (λ m. sum_below n f ≤ sum_below m f) (le_refl _) (λ m _ before. omega (arith, before)) m h

scaled : (c k : ℕ) (w : ℕ → ℕ) → c * sum_below k w ≡ sum_below k (λ j. c * w j)
unfolding sum_below
scaled c zero w = omega arith
scaled c (suc k) w = omega (arith, scaled c k w)

none : (v : ℕ → ℕ) (W A : ℕ) → sum_below zero v * W ≤ A
unfolding sum_below
none v W A = omega arith

pub inside : (v w : ℕ → ℕ) (n k : ℕ) → sum_below n v * sum_below k w ≤ sum_below (n + k) (diagonal (λ i j. v i * w j))
inside v w zero k = none v (sum_below k w) _
inside v w (suc n) k =
    rw (suc-add n k, sum_front n v, triangle_split (λ i j. v i * w j) (n + k))
    (joined (v 0) (sum_below n (λ i. v (suc i))) (sum_below k w) (sum_below k (λ j. v 0 * w j)) _ _ (scaled (v 0) k w)
    (longer (λ j. v 0 * w j) (omega arith)) (inside (λ i. v (suc i)) w n k))
  where
    joined : (c d W Y A B : ℕ) → c * W ≡ Y → Y ≤ A → d * W ≤ B → (c + d) * W ≤ A + B
    joined c d W Y A B e h g = omega arith

none_of : (f : ℕ → ℕ) (A : ℕ) → sum_below zero f ≤ A
unfolding sum_below
none_of f A = omega arith

pub outside : (v w : ℕ → ℕ) (n k : ℕ) → n ≤ k → sum_below n (diagonal (λ i j. v i * w j)) ≤ sum_below n v * sum_below k w
outside v w zero k h = none_of (diagonal (λ i j. v i * w j)) _
outside v w (suc n) k h =
    rw (triangle_split (λ i j. v i * w j) n, sum_front n v)
    (joined (v 0) (sum_below n (λ i. v (suc i))) (sum_below k w) (sum_below (suc n) (λ j. v 0 * w j)) _ (sum_below (suc n) w) (scaled (v 0) (suc n) w)
    (longer w h) (outside (λ i. v (suc i)) w n k (omega (arith, h))))
  where
    joined : (c d W Y B W' : ℕ) → c * W' ≡ Y → W' ≤ W → B ≤ d * W → Y + B ≤ (c + d) * W
    joined c d W Y B W' e h g = omega (arith, mul-le-mul_left c h)

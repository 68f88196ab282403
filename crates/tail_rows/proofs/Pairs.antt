-- The cosine of w and the sine of 16384 - w differ in the last places at most: the larger of each pair, twice, bounds both from above, and the smaller
-- from below.
use mathlib.Core.Path.{◌≡◌, refl}
use mathlib.Core.List.{List, [], ◌∷◌, zip_with, reverse, reverse_aux}
use Prim.Native.Nat.{ℕ, ◌+◌, ◌*◌, ◌≤◌, ◌<◌, max, min}
use native.Mathlib.Omega.{arith}
use lib.ListN.{length, get_or, drop, length-drop, length-reverse}
use Rattle.tails.proofs.Angles.{sum_over}

-- two lists by pairs, the first of each apart and the second list from its end
abbrev pub larger : List ℕ → List ℕ → List ℕ
larger xs ys = zip_with max (drop 1 xs) (reverse (drop 1 ys))

abbrev pub smaller : List ℕ → List ℕ → List ℕ
smaller xs ys = zip_with min (drop 1 xs) (reverse (drop 1 ys))

abbrev pub first : List ℕ → ℕ
first xs = get_or xs 0 0

module _ (n : ℕ → ℕ) (more : (g g' : ℕ) → g ≤ g' → n g ≤ n g') where
  sum_reverse : (gs before : List ℕ) → sum_over n (reverse_aux gs before) ≡ sum_over n gs + sum_over n before
  unfolding sum_over
  sum_reverse [] before = omega arith
  sum_reverse (g ∷ gs) before = omega (arith, sum_reverse gs (g ∷ before))

  sum_first : (gs : List ℕ) → 0 < length gs → sum_over n gs ≡ n (first gs) + sum_over n (drop 1 gs)
  unfolding sum_over
  sum_first [] some = absurd (omega (arith, some))
  sum_first (g ∷ gs) some = refl

  sum_max : (xs ys : List ℕ) → length ys ≡ length xs → sum_over n xs + sum_over n ys ≤ 2 * sum_over n (zip_with max xs ys)
  unfolding sum_over zip_with
  sum_max [] [] e = omega arith
  sum_max [] (y ∷ ys) e = absurd (omega (arith, e))
  sum_max (x ∷ xs) [] e = absurd (omega (arith, e))
  sum_max (x ∷ xs) (y ∷ ys) e =
      omega (arith, more x (max x y) (omega arith), more y (max x y) (omega arith), sum_max xs ys (omega (arith, e)))

  sum_min : (xs ys : List ℕ) → length ys ≡ length xs → 2 * sum_over n (zip_with min xs ys) ≤ sum_over n xs + sum_over n ys
  unfolding sum_over zip_with
  sum_min [] [] e = omega arith
  sum_min [] (y ∷ ys) e = absurd (omega (arith, e))
  sum_min (x ∷ xs) [] e = absurd (omega (arith, e))
  sum_min (x ∷ xs) (y ∷ ys) e =
      omega (arith, more (min x y) x (omega arith), more (min x y) y (omega arith), sum_min xs ys (omega (arith, e)))

  module _ (xs ys : List ℕ) (some : 0 < length xs) (same : length ys ≡ length xs) where
    lengths_same : length (reverse (drop 1 ys)) ≡ length (drop 1 xs)
    lengths_same = omega (arith, length-reverse (drop 1 ys), length-drop 1 ys, length-drop 1 xs, same)

    parts : sum_over n xs + sum_over n ys ≡ n (first xs) + n (first ys) + (sum_over n (drop 1 xs) + sum_over n (reverse (drop 1 ys)))
    unfolding sum_over
    parts = omega (arith, sum_first xs some, sum_first ys (omega (arith, same, some)), sum_reverse (drop 1 ys) [])

    pub pairs_most : sum_over n xs + sum_over n ys ≤ n (first xs) + n (first ys) + 2 * sum_over n (larger xs ys)
    pairs_most = omega (arith, parts, sum_max (drop 1 xs) (reverse (drop 1 ys)) lengths_same)

    pub pairs_least : n (first xs) + n (first ys) + 2 * sum_over n (smaller xs ys) ≤ sum_over n xs + sum_over n ys
    pairs_least = omega (arith, parts, sum_min (drop 1 xs) (reverse (drop 1 ys)) lengths_same)

-- What the test says of a list of rows, at the sines and cosines of the tables.
use mathlib.Core.Path.{◌≡◌, sym, ◌∙◌}
use mathlib.Core.Bool.{Bool, true, ◌&&◌}
use mathlib.Core.List.{List, [], ◌∷◌, zip_with}
use Prim.Native.Nat.{ℕ, ◌+◌, ◌*◌, ◌≤◌, ◌<◌}
use native.Mathlib.Omega.{arith}
use lib.Dec.{T, leb}
use lib.ListN.{length}
use store.Enc.{and_l, and_r}
use Rattle.tails.specs.Counts.{one, first_beyond}
use Rattle.tails.proofs.EachAngle.{beyond_at, more_at}
use Rattle.tails.proofs.Angles.{sum_over, grid, cosines_of, sines_of, cosines, sines, cosines_length, sines_length, by_entries, inputs_by_angles}
use Rattle.tail_rows.specs.Rows.{Row, Holds, Every}
use Rattle.tail_rows.proofs.Passes.{falling}
use Rattle.tail_rows.proofs.Pairs.{larger, smaller, first, pairs_most, pairs_least}
use Rattle.tail_rows.proofs.RowTest.{passed, ordered, bounds}

abbrev Ordered : List ℕ → List ℕ → Type 0
Ordered xs ys = T (ordered (first xs) (first ys) (larger xs ys) (smaller xs ys))

lists_ordered : Ordered cosines sines
unfolding ordered falling grid zip_with
lists_ordered = by_entries (λ C D c s. Ordered (cosines_of C D c s) (sines_of C D c s)) tt

row_holds : (f : ℕ) → f ≤ 49 → (r : Row) → T (passed f (first cosines) (larger cosines sines) (smaller cosines sines) r) → Holds f r
row_holds f few r t =
    let n = beyond_at f r.size in
    let same : length sines ≡ length cosines = sines_length ∙ sym cosines_length in
    let some : 0 < length cosines = omega (arith, cosines_length) in
    let all : first_beyond f r.size ≡ 2 * (sum_over n cosines + sum_over n sines) = inputs_by_angles f (λ x. one (leb r.size x)) in
    rw all
    (bounds (first cosines) (first sines) (larger cosines sines) (smaller cosines sines) lists_ordered f few r t (sum_over n cosines + sum_over n sines)
    (pairs_least n (more_at f few r.size) cosines sines some same) (pairs_most n (more_at f few r.size) cosines sines some same))

-- all rows of a list pass the test
unfoldable pub all_passed : ℕ → ℕ → List ℕ → List ℕ → List Row → Bool
all_passed f peak large small [] = true
all_passed f peak large small (r ∷ rs) = passed f peak large small r && all_passed f peak large small rs

abbrev pub Tested : ℕ → List Row → List ℕ → List ℕ → Type 0
Tested f rs xs ys = T (all_passed f (first xs) (larger xs ys) (smaller xs ys) rs)

pub all_hold : (f : ℕ) → f ≤ 49 → (rs : List Row) → Tested f rs cosines sines → Every (Holds f) rs
unfolding all_passed
all_hold f few [] t = tt
all_hold f few (r ∷ rs) t =
    let here : Bool = passed f (first cosines) (larger cosines sines) (smaller cosines sines) r in
    (row_holds f few r (and_l here _ t), all_hold f few rs (and_r here _ t))

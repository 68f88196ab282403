-- The test of a row, by two passes, and what it says where it is passed.
use mathlib.Core.Path.{refl}
use mathlib.Core.Bool.{Bool, ◌&&◌}
use mathlib.Core.List.{List}
use Prim.Native.Nat.{ℕ, ◌+◌, ◌-◌, ◌*◌, ◌/◌, ◌≤◌, ◌<◌}
use native.Mathlib.Omega.{arith}
use lib.Dec.{T, leb, leb→le}
use store.Enc.{and_l, and_r}
use Rattle.tails.specs.Tails.{threshold, close_from}
use Rattle.tails.proofs.EachAngle.{beyond_at, size_close_tail, more_at, none_at_zero}
use Rattle.tails.proofs.Angles.{sum_over}
use Rattle.tail_rows.specs.Rows.{Row}
use Rattle.tail_rows.proofs.Shares.{most_by, least_by}
use Rattle.tail_rows.proofs.Passes.{most_from, least_from, falling, most_here, least_here, most_pass, least_pass}
use Rattle.tail_rows.proofs.Starts.{last_start, most_share, least_share, most_start, least_start}

-- The most inputs, and the least, whose F times a sine or cosine is above b: those of the largest, `peak`, in two quarters, and those of each pair of
-- the others in four.
unfoldable pub most : ℕ → ℕ → List ℕ → ℕ
most b peak large =
    let p : ℕ = b / peak in
    let e : ℕ = most_share p in
    2 * (most_by e + 2 * most_from b large (p * p) e 0)

unfoldable pub least : ℕ → ℕ → List ℕ → ℕ
least b peak small =
    let p : ℕ = b / peak + 2 in
    let e : ℕ = least_share p in
    2 * (least_by e + 2 * least_from b small (p * p) e 0)

-- where the passes may begin
unfoldable pub in_range : ℕ → ℕ → Bool
in_range b peak = leb close_from (b / peak + 1) && leb (b / peak + 2) last_start

unfoldable pub passed : ℕ → ℕ → List ℕ → List ℕ → Row → Bool
passed f peak large small r =
    let b : ℕ = threshold f r.size - 1 in
    (leb 1 r.size && in_range b peak) && (leb (most b peak large) r.high && leb r.low (least b peak small))

-- what the passes ask of the lists, and of the least sine, `foot`
unfoldable pub ordered : ℕ → ℕ → List ℕ → List ℕ → Bool
ordered peak foot large small = (leb 1 peak && leb foot 0) && (falling peak large && falling peak small)

module _ (peak foot : ℕ) (large small : List ℕ) (lists : T (ordered peak foot large small)) where
  peak_pos : 0 < peak
  unfolding ordered
  peak_pos = leb→le 1 peak (and_l (leb 1 peak) _ (and_l (leb 1 peak && leb foot 0) _ lists))

  foot_is : foot ≤ 0
  unfolding ordered
  foot_is = leb→le foot 0 (and_r (leb 1 peak) _ (and_l (leb 1 peak && leb foot 0) _ lists))

  large_falls : T (falling peak large)
  unfolding ordered
  large_falls = and_l (falling peak large) _ (and_r (leb 1 peak && leb foot 0) _ lists)

  small_falls : T (falling peak small)
  unfolding ordered
  small_falls = and_r (falling peak large) _ (and_r (leb 1 peak && leb foot 0) _ lists)

  module _ (f : ℕ) (few : f ≤ 49) (s : ℕ) (some : 0 < s) where
    abbrev b : ℕ
    b = threshold f s - 1

    abbrev n : ℕ → ℕ
    n = beyond_at f s

    module _ (close : close_from ≤ b / peak + 1) where
      most_law : 2 * (n peak + n foot + 2 * sum_over n large) ≤ most b peak large
      unfolding most
      most_law =
          let e = most_share (b / peak) in
          let (positive, above) = most_start (b / peak) in
          let here = most_here b n (more_at f few s) (size_close_tail f few s some) peak e peak_pos close positive above in
          let rest = most_pass b n (more_at f few s) (size_close_tail f few s some) large peak (b / peak * (b / peak)) e 0 refl close large_falls positive above in
          omega (arith, here, rest, more_at f few s foot 0 foot_is, none_at_zero f few s some)

      least_law : b / peak + 2 ≤ last_start → least b peak small ≤ 2 * (n peak + n foot + 2 * sum_over n small)
      unfolding least
      least_law near =
          let p = b / peak + 2 in
          let e = least_share p in
          let below = least_start p near in
          let here = least_here b n (more_at f few s) (size_close_tail f few s some) peak e peak_pos close below in
          let rest = least_pass b n (more_at f few s) (size_close_tail f few s some) small peak (p * p) e 0 refl close small_falls below in
          omega (arith, here, rest)

  -- a sum between those over the larger and the smaller of each pair is between the row's bounds
  pub bounds : (f : ℕ) → f ≤ 49 → (r : Row) → T (passed f peak large small r) → (N : ℕ)
      → beyond_at f r.size peak + beyond_at f r.size foot + 2 * sum_over (beyond_at f r.size) small ≤ N
      → N ≤ beyond_at f r.size peak + beyond_at f r.size foot + 2 * sum_over (beyond_at f r.size) large
      → (r.low ≤ 2 * N) × (2 * N ≤ r.high)
  unfolding passed in_range
  bounds f few r t N under over =
      let c : ℕ = threshold f r.size - 1 in
      let served : Bool = leb 1 r.size && in_range c peak in
      let range = and_r (leb 1 r.size) _ (and_l served _ t) in
      let some : 1 ≤ r.size = leb→le _ _ (and_l (leb 1 r.size) _ (and_l served _ t)) in
      let close : close_from ≤ c / peak + 1 = leb→le _ _ (and_l (leb close_from (c / peak + 1)) _ range) in
      let near : c / peak + 2 ≤ last_start = leb→le _ _ (and_r (leb close_from (c / peak + 1)) _ range) in
      let high : most c peak large ≤ r.high = leb→le _ _ (and_l (leb (most c peak large) r.high) _ (and_r served _ t)) in
      let low : r.low ≤ least c peak small = leb→le _ _ (and_r (leb (most c peak large) r.high) _ (and_r served _ t)) in
      (omega (arith, under, low, least_law f few r.size some close near), omega (arith, over, high, most_law f few r.size some close))

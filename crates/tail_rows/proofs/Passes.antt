-- A pass over the sizes g of the sines or cosines, from the largest downwards: for each g the share of the exponential at the least F that makes a
-- sample of the wanted size, from the share before it, and the sum of the whole k that it leaves room for.
use mathlib.Core.Path.{◌≡◌, refl}
use mathlib.Core.Bool.{Bool, true, false, ◌&&◌}
use mathlib.Core.List.{List, [], ◌∷◌}
use Prim.Native.Nat.{ℕ, ◌+◌, ◌-◌, ◌*◌, ◌/◌, ◌^◌, ◌≤◌, ◌<◌}
use native.Mathlib.Nat.{mul-le-mul, le-div_iff_mul-le, div-add-mod, mul-le-mul_left}
use native.Mathlib.Omega.{arith}
use lib.Dec.{T, leb, leb→le}
use store.Enc.{and_l, and_r}
use borrow.Author.Tests.{leb-false}
use Rattle.tails.specs.Tails.{RayleighTail, close_from}
use Rattle.tails.proofs.Angles.{sum_over}
use Rattle.tail_rows.proofs.Shares.{Above, Below, three_terms, above_next, below_next, most_by, least_by, above_count, below_count}

-- Both passes end where no k is left. P is p², p the place of the share e. (0x1 and n zeros is 2 ^ (4 n): numerals, since a power would be
-- computed at each g.)
unfoldable pub most_from : ℕ → List ℕ → ℕ → ℕ → ℕ → ℕ
most_from b [] P e sum = sum
most_from b (g ∷ gs) P e sum =
    let t : ℕ = b / g in
    let T : ℕ = t * t in
    let d : ℕ = T - P + 0x20000000000 in
    let e' : ℕ = e * 0x800000000000000000000 / (d * d + 0x400000000000000000000) + 1 in
    elim (leb 0x1000000000000 e') [
      | true ↦ most_from b gs T e' (sum + (e' + 0x1000000000000) / 0x2000000000000)
      | false ↦ sum
    ]

unfoldable pub least_from : ℕ → List ℕ → ℕ → ℕ → ℕ → ℕ
least_from b [] P e sum = sum
least_from b (g ∷ gs) P e sum =
    let t : ℕ = b / g + 2 in
    let T : ℕ = t * t in
    let q : ℕ = T - P in
    let e' : ℕ = e * (0x40000000000 - q) / (0x40000000000 + q) in
    elim (leb 0x1000000000001 e') [
      | true ↦ least_from b gs T e' (sum + (e' + 0xffffffffffff) / 0x2000000000000)
      | false ↦ sum
    ]

-- the list falls from `top` on and stays above 0
unfoldable pub falling : ℕ → List ℕ → Bool
falling top [] = true
falling top (g ∷ gs) = (leb 1 g && leb g top) && falling g gs

falls : (top g : ℕ) (gs : List ℕ) → T (falling top (g ∷ gs)) → (0 < g) × (g ≤ top) × T (falling g gs)
unfolding falling
falls top g gs t =
    let here = and_l (leb 1 g && leb g top) _ t in
    let some : 1 ≤ g = leb→le _ _ (and_l (leb 1 g) _ here) in
    (omega arith, leb→le _ _ (and_r (leb 1 g) _ here), and_r (leb 1 g && leb g top) _ t)

-- a smaller divisor, a larger quotient
quotient_grows : (b g g' : ℕ) → 0 < g → g ≤ g' → b / g' ≤ b / g
quotient_grows b g g' positive h =
    (le-div_iff_mul-le {x = b / g'} {y = b} positive).1 (omega (arith, div-add-mod b g', mul-le-mul_left (b / g') h))

module _ (b : ℕ) (n : ℕ → ℕ) (more : (g g' : ℕ) → g ≤ g' → n g ≤ n g')
    (tail : (g : ℕ) → 0 < g → close_from ≤ b / g + 1 → RayleighTail (n g) (b / g + 1 - 1) (b / g + 1 + 1)) where
  -- no k at g, and so none at what is smaller
  none_left : (g : ℕ) (gs : List ℕ) → T (falling g gs) → n g ≡ 0 → sum_over n gs ≡ 0
  unfolding sum_over
  none_left g [] down none = refl
  none_left g (h ∷ gs) down none =
      let (some, less, on) = falls g h gs down in
      let here : n h ≡ 0 = omega (arith, more h g less) in
      omega (arith, here, none_left h gs on here)

  pub most_here : (g e : ℕ) → 0 < g → close_from ≤ b / g + 1 → 0 < e → Above (b / g) e → n g ≤ most_by e
  most_here g e positive close some above =
      let back : b / g + 1 - 1 ≡ b / g = omega arith in
      above_count (b / g) e (n g) some above (rw back at (tail g positive close).not_more)

  pub least_here : (g e : ℕ) → 0 < g → close_from ≤ b / g + 1 → Below (b / g + 2) e → least_by e ≤ n g
  least_here g e positive close below =
      let on : b / g + 1 + 1 ≡ b / g + 2 = omega arith in
      below_count (b / g + 2) e (n g) below (rw on at (tail g positive close).not_less)

  pub most_pass : (gs : List ℕ) (top P e sum : ℕ) → P ≡ b / top * (b / top) → close_from ≤ b / top + 1 → T (falling top gs) → 0 < e → Above (b / top) e
      → sum_over n gs + sum ≤ most_from b gs P e sum
  unfolding most_from sum_over
  most_pass [] top P e sum is close down some above = omega arith
  most_pass (g ∷ gs) top P e sum is close down some above =
      let (positive, less, on) = falls top g gs down in
      let grown : b / top ≤ b / g = quotient_grows b g top positive less in
      let next : Above (b / g) e' = above_next (b / top) (b / g) q e (omega (arith, mul-le-mul grown grown, is)) some above in
      let here : n g ≤ most_by e' = most_here g e' positive (omega (arith, close, grown)) (omega arith) next in
      by_test (leb (2 ^ 48) e') refl here (most_pass gs g (b / g * (b / g)) e' (sum + most_by e') refl (omega (arith, close, grown)) on (omega arith) next) (none_left g gs on)
    where
      q : ℕ
      q = b / g * (b / g) - P

      e' : ℕ
      e' = e * 2 ^ 83 / three_terms q + 1

      by_test : (test : Bool) → leb (2 ^ 48) e' ≡ test → n g ≤ most_by e'
          → sum_over n gs + (sum + most_by e') ≤ most_from b gs (b / g * (b / g)) e' (sum + most_by e')
          → (n g ≡ 0 → sum_over n gs ≡ 0)
          → n g + sum_over n gs + sum ≤ elim test [ true ↦ most_from b gs (b / g * (b / g)) e' (sum + most_by e') | false ↦ sum ]
      by_test true h here rest none = omega (arith, here, rest)
      by_test false h here rest none =
          let few : e' < 2 ^ 48 = leb-false _ _ h in
          let nothing : n g ≡ 0 = omega (arith, here, few) in
          omega (arith, nothing, none nothing)

  pub least_pass : (gs : List ℕ) (top P e sum : ℕ) → P ≡ (b / top + 2) * (b / top + 2) → close_from ≤ b / top + 1 → T (falling top gs) → Below (b / top + 2) e
      → least_from b gs P e sum ≤ sum + sum_over n gs
  unfolding least_from sum_over
  least_pass [] top P e sum is close down below = omega arith
  least_pass (g ∷ gs) top P e sum is close down below =
      let (positive, less, on) = falls top g gs down in
      let grown : b / top + 2 ≤ t = omega (arith, quotient_grows b g top positive less) in
      let next : Below t e' = below_next (b / top + 2) t q e (omega (arith, mul-le-mul grown grown, is)) below in
      let here : least_by e' ≤ n g = least_here g e' positive (omega (arith, close, grown)) next in
      by_test (leb (2 ^ 48 + 1) e') here (least_pass gs g (t * t) e' (sum + least_by e') refl (omega (arith, close, grown)) on next)
    where
      t : ℕ
      t = b / g + 2

      q : ℕ
      q = t * t - P

      e' : ℕ
      e' = e * (2 ^ 42 - q) / (2 ^ 42 + q)

      by_test : (test : Bool) → least_by e' ≤ n g → least_from b gs (t * t) e' (sum + least_by e') ≤ sum + least_by e' + sum_over n gs
          → elim test [ true ↦ least_from b gs (t * t) e' (sum + least_by e') | false ↦ sum ] ≤ sum + (n g + sum_over n gs)
      by_test true here rest = omega (arith, here, rest)
      by_test false here rest = omega arith

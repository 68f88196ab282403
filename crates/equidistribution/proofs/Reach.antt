-- A row of l bits and n + 1 draws: contents that show zeros and then, in the last draw, the unit words. Every pattern then comes from some contents.
use mathlib.Core.Path.{◌≡◌, refl, sym, ap, ap₂, subst, ◌∙◌}
use mathlib.Core.Bool.{Bool, true, false, ◌&&◌}
use mathlib.Core.List.{List, [], ◌∷◌, map}
use Prim.Native.Nat.{ℕ, zero, suc, ◌+◌, ◌-◌, ◌*◌, ◌/◌, ◌%◌, ◌^◌, ◌≤◌, ◌<◌}
use native.Mathlib.Nat.{mod-lt, mod-eq_of_lt, mul_assoc, mul-zero, mul-one}
use native.Mathlib.Decide.{dec_le}
use native.Mathlib.Omega.{arith}
use lib.Dec.{T, eqb, eqb→eq}
use lib.Bits.{bit_xor, xor_lt, xor_shr, xor_comm, xor_zero_r}
use lib.Pow.{pow_pos, pow-add, high, low, shr_lt, shr-shr, shl_lt, shl-shr}
use mir.Facts.{and_yes}
use Rattle.bit_matrix.specs.Matrices.{repeat, applied, units}
use Rattle.bit_matrix.proofs.Additive.{shl_additive}
use Rattle.bit_matrix.proofs.Theorems.{applied_map, applied_units}
use Rattle.streams.specs.declared.Stream.{Stream}
use Rattle.streams.specs.Streams.{advance, output}
use Rattle.streams.specs.Recurrence.{draw_at, InRange}
use Rattle.equidistribution.specs.Equidistribution.{Shows, Words}
use Rattle.equidistribution.proofs.Additive.{◌⊕◌, again, draw_add, range_add, range_at, draw_lt}
use Rattle.equidistribution.proofs.Additive.{highest, pattern, contents, contents_range, contents_pattern}

-- The highest l bits of the draw j + 1.
abbrev top : ℕ → Stream → ℕ → ℕ
top l u j = draw_at u (suc j) / 2 ^ (32 - l)

top_lt : (l : ℕ) → l ≤ 32 → (u : Stream) → InRange u → (j : ℕ) → top l u j < 2 ^ l
top_lt l width u range j =
    let e : l + (32 - l) ≡ 32 = omega arith in
    shr_lt l (32 - l) (rw e (draw_lt (suc j) u range))

-- ---- The computed test

unfoldable pub same_list : List ℕ → List ℕ → Bool
same_list [] [] = true
same_list [] (y ∷ m) = false
same_list (x ∷ l) [] = false
same_list (x ∷ l) (y ∷ m) = eqb x y && same_list l m

same_lists : (l m : List ℕ) → T (same_list l m) → l ≡ m
unfolding same_list
same_lists [] [] t = refl
same_lists [] (y ∷ m) t = absurd t
same_lists (x ∷ l) [] t = absurd t
same_lists (x ∷ l) (y ∷ m) t =
    let (first, rest) = and_yes (eqb x y) (same_list l m) t in
    ap₂ (λ (z : ℕ) (n : List ℕ). z ∷ n) (eqb→eq x y first) (same_lists l m rest)

-- The patterns of the columns are the unit words in the last draw.
unfoldable pub row_test : ℕ → ℕ → List ℕ → Bool
row_test l n columns = same_list (map (λ x. pattern l (suc n) (contents x)) columns) (map (λ x. x * 2 ^ (l * n)) (units l))

-- So the patterns of their sums are all words in the last draw.
column_sum : (l n : ℕ) (columns : List ℕ) → T (row_test l n columns) → (y : ℕ) → y < 2 ^ l
    → pattern l (suc n) (contents (applied columns y)) ≡ y * 2 ^ (l * n)
unfolding row_test
column_sum l n columns test y h =
    let f : ℕ → ℕ = λ x. pattern l (suc n) (contents x) in
    let g : ℕ → ℕ = λ x. x * 2 ^ (l * n) in
    sym (applied_map f (contents_pattern l (suc n)) columns y)
    ∙ ap (λ (m : List ℕ). applied m y) (same_lists (map f columns) (map g (units l)) test)
    ∙ applied_map g (shl_additive (l * n)) (units l) y ∙ ap g (applied_units l y h)

-- ---- Contents that show n zeros, and then y

record Last (l n y : ℕ) : Type 0 where
  u : Stream
  range : InRange u
  before : (j : ℕ) → j < n → top l u j ≡ 0
  here : top l u n ≡ y

from_first : (P : ℕ → Type 0) (n : ℕ) → P 0 → ((j : ℕ) → j < n → P (suc j)) → (j : ℕ) → j < suc n → P j
from_first P n first rest zero k = first
from_first P n first rest (suc j) k = rest j (omega arith)

to_last : (P : ℕ → Type 0) (n : ℕ) → ((j : ℕ) → j < n → P j) → P n → (j : ℕ) → j < suc n → P j
to_last P n before here j k =
    elim (dec_le (suc j) n) [
      | yes l ↦ before j l
      | no l ↦ let e : n ≡ j = omega arith in rw e at here
    ]

parts : (l a b r s : ℕ) → r < 2 ^ l → s < 2 ^ l → a * 2 ^ l + r ≡ b * 2 ^ l + s → (a ≡ b) × (r ≡ s)
parts l a b r s hr hs e = (
  sym (high a l hr) ∙ ap (λ (x : ℕ). x / 2 ^ l) e ∙ high b l hs,
  sym (low a l hr) ∙ ap (λ (x : ℕ). x % 2 ^ l) e ∙ low b l hs,
)

-- By its pattern.
by_pattern : (l : ℕ) → l ≤ 32 → (n : ℕ) (u : Stream) → InRange u → (y : ℕ) → pattern l (suc n) u ≡ y * 2 ^ (l * n)
    → ((j : ℕ) → j < n → top l u j ≡ 0) × (top l u n ≡ y)
unfolding pattern draw_at repeat
by_pattern l width zero u range y e =
    let one : y * 2 ^ (l * 0) ≡ y = rw (mul-zero l) (mul-one y) in
    (λ j k. omega arith, sym (mod-eq_of_lt (top_lt l width u range 0)) ∙ omega (arith, e, one))
by_pattern l width (suc n) u range y e =
    let size : y * 2 ^ (l * suc n) ≡ y * 2 ^ (l * n) * 2 ^ l + 0
    = ap (λ (m : ℕ). y * 2 ^ m) (let m : l * suc n ≡ l * n + l = omega arith in m)
    ∙ ap (λ (p : ℕ). y * p) (pow-add 2 (l * n) l) ∙ sym (mul_assoc y (2 ^ (l * n)) (2 ^ l)) ∙ omega arith in
    let (rest, first) = parts l (pattern l (suc n) (advance u)) (y * 2 ^ (l * n)) (highest l (output (advance u))) 0 (mod-lt _ (pow_pos l)) (pow_pos l) (e ∙ size) in
    let (before, here) = by_pattern l width n (advance u) (range_at 1 u range) y rest in
    (from_first (λ j. top l u j ≡ 0) n (sym (mod-eq_of_lt (top_lt l width u range 0)) ∙ first) before, here)

last : (l n : ℕ) → l ≤ 32 → (columns : List ℕ) → T (row_test l n columns) → (y : ℕ) → y < 2 ^ l → Last l n y
last l n width columns test y h =
    let c = contents (applied columns y) in
    let r = contents_range (applied columns y) in
    let (zeros, end) = by_pattern l width n c r y (column_sum l n columns test y h) in
    record { u = c; range = r; before = zeros; here = end }

-- ---- Every pattern, from the last draw back

abbrev pub Reach : ℕ → ℕ → Type 0
Reach l t = (w : ℕ → ℕ) → Words l t w → (u : Stream) × InRange u × Shows l t w u

-- Every pattern that begins with m zeros.
abbrev ReachAfter : ℕ → ℕ → ℕ → Type 0
ReachAfter m l t = (w : ℕ → ℕ) → Words l t w → ((j : ℕ) → j < m → w j ≡ 0) → (u : Stream) × InRange u × Shows l t w u

later : (ℕ → ℕ) → ℕ → ℕ
later w zero = 0
later w (suc j) = w j

module _ (l n : ℕ) (width : l ≤ 32) (ends : (y : ℕ) → y < 2 ^ l → Last l n y) where
  zeros : ReachAfter (suc n) l (suc n)
  zeros w h z =
      let e = ends 0 (pow_pos l) in
      (e.u, e.range, λ j k. to_last (λ i. top l e.u i ≡ 0) n e.before e.here j k ∙ sym (z j k))

  -- Contents that show 0 and then the pattern show it one draw on, but for the last draw.
  one_less : (m : ℕ) → ReachAfter (suc m) l (suc n) → ReachAfter m l (suc n)
  unfolding draw_at repeat later
  one_less m full w h z =
      corrected
      (full (later w) (from_first (λ j. later w j < 2 ^ l) n (pow_pos l) (λ j k. h j (omega arith))) (from_first (λ j. later w j ≡ 0) m refl z))
    where
      corrected : (u : Stream) × InRange u × Shows l (suc n) (later w) u → (u : Stream) × InRange u × Shows l (suc n) w u
      corrected (u, range, shows) =
          let v : Stream = advance u in
          let range-v : InRange v = range_at 1 u range in
          let y : ℕ = bit_xor (w n) (top l v n) in
          let e = ends y (xor_lt l (w n) (top l v n) (h n (omega arith)) (top_lt l width v range-v n)) in
          let sum : (j : ℕ) → top l (v ⊕ e.u) j ≡ bit_xor (top l v j) (top l e.u j)
          = λ j. ap (λ (x : ℕ). x / 2 ^ (32 - l)) (draw_add (suc j) v e.u) ∙ xor_shr (draw_at v (suc j)) (draw_at e.u (suc j)) (32 - l) in (
            v ⊕ e.u,
            range_add v e.u range-v e.range,
            to_last (λ j. top l (v ⊕ e.u) j ≡ w j) n
                (λ j k. sum j ∙ ap₂ (λ (a b : ℕ). bit_xor a b) (shows (suc j) (omega arith)) (e.before j k) ∙ xor_zero_r (w j))
                (sum n ∙ ap (bit_xor (top l v n)) e.here ∙ xor_comm (top l v n) y ∙ again (w n) (top l v n)),
          )

  after : (d m : ℕ) → m + d ≡ suc n → ReachAfter m l (suc n)
  after zero m e = subst (λ i. ReachAfter i l (suc n)) (omega arith) zeros
  after (suc d) m e = one_less m (after d (suc m) (omega arith))

pub reach : (l n : ℕ) → l ≤ 32 → (columns : List ℕ) → T (row_test l n columns) → Reach l (suc n)
reach l n width columns test w h = after l n width (last l n width columns test) (suc n) 0 (omega arith) w h (λ j k. omega arith)

-- Fewer bits and fewer draws.
pub fewer : (L T l t : ℕ) → L ≤ 32 → l ≤ L → t ≤ T → Reach L T → Reach l t
fewer L T l t few hl ht full w h = narrowed (full wide wide_words)
  where
    wide : ℕ → ℕ
    wide j = w j % 2 ^ l * 2 ^ (L - l)

    wide_words : Words L T wide
    wide_words j k = let e : l + (L - l) ≡ L = omega arith in rw e at (shl_lt l (L - l) (mod-lt (w j) (pow_pos l)))

    narrowed : (u : Stream) × InRange u × Shows L T wide u → (u : Stream) × InRange u × Shows l t w u
    narrowed (u, range, shows) = (
      u,
      range,
      λ j k.
          let e : 32 - L + (L - l) ≡ 32 - l = omega arith in
          ap (λ (n : ℕ). draw_at u (suc j) / 2 ^ n) (sym e) ∙ sym (shr-shr (draw_at u (suc j)) (32 - L) (L - l))
          ∙ ap (λ (x : ℕ). x / 2 ^ (L - l)) (shows j (omega arith)) ∙ shl-shr (w j % 2 ^ l) (L - l) ∙ mod-eq_of_lt (h j k),
    )

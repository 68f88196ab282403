-- Counting: n + 1 numbers below n are not all different, so n different numbers below n are all of them.
use mathlib.Core.Path.{◌≡◌, refl, sym, ◌∙◌}
use mathlib.Core.Bool.{Bool, true, false, cond}
use mathlib.Core.Logic.{◌⊎◌, inl, inr}
use Prim.Native.Nat.{ℕ, zero, suc, ◌≤◌, ◌<◌}
use native.Mathlib.Decide.{dec_le}
use native.Mathlib.Omega.{arith}
use lib.Dec.{eqb, ltb}
use borrow.Author.Tests.{eqb-true, eqb-false, lt-ltb, le-ltb}

-- f gives different numbers at the places below n.
abbrev pub Different : (ℕ → ℕ) → ℕ → Type 0
Different f n = (i j : ℕ) → i < n → j < n → f i ≡ f j → i ≡ j

-- what f gives, and where that is `last` what it gives at `place`
exchanged : (ℕ → ℕ) → ℕ → ℕ → ℕ → ℕ
exchanged f last place i = cond (eqb (f i) last) (f place) (f i)

exchanged_cases : (f : ℕ → ℕ) (last place i : ℕ)
    → ((f i ≡ last) × (exchanged f last place i ≡ f place)) ⊎ ((f i ≡ last → ⊥) × (exchanged f last place i ≡ f i))
unfolding exchanged
exchanged_cases f last place i = by_test (eqb (f i) last) refl
  where
    by_test : (t : Bool) → eqb (f i) last ≡ t
        → ((f i ≡ last) × (cond t (f place) (f i) ≡ f place)) ⊎ ((f i ≡ last → ⊥) × (cond t (f place) (f i) ≡ f i))
    by_test true e = inl (eqb-true _ _ e, refl)
    by_test false e = inr (eqb-false _ _ e, refl)

pub too_many_lem : (n : ℕ) (f : ℕ → ℕ) → Different f (suc n) → ((i : ℕ) → i < suc n → f i < n) → ⊥
too_many_lem zero f different below = omega (arith, below 0 (omega arith))
too_many_lem (suc n) f different below = too_many_lem n g g_different g_below
  where
    g : ℕ → ℕ
    g = exchanged f n (suc n)

    -- what f gives last it gives nowhere before
    apart : (i : ℕ) → i < suc n → f i ≡ f (suc n) → ⊥
    apart i h e = omega (arith, different i (suc n) (omega arith) (omega arith) e)

    g_below : (i : ℕ) → i < suc n → g i < n
    g_below i h = by_case (exchanged_cases f n (suc n) i)
      where
        by_case : ((f i ≡ n) × (g i ≡ f (suc n))) ⊎ ((f i ≡ n → ⊥) × (g i ≡ f i)) → g i < n
        by_case (inl (e, is)) = elim (dec_le n (f (suc n))) [
          | yes l ↦ absurd (apart i h (omega (arith, below (suc n) (omega arith))))
          | no l ↦ omega arith
        ]
        by_case (inr (differ, is)) = elim (dec_le n (f i)) [
          | yes l ↦ absurd (differ (omega (arith, below i (omega arith))))
          | no l ↦ omega arith
        ]

    g_different : Different g (suc n)
    g_different i j hi hj e = by_cases (exchanged_cases f n (suc n) i) (exchanged_cases f n (suc n) j)
      where
        by_cases : ((f i ≡ n) × (g i ≡ f (suc n))) ⊎ ((f i ≡ n → ⊥) × (g i ≡ f i))
            → ((f j ≡ n) × (g j ≡ f (suc n))) ⊎ ((f j ≡ n → ⊥) × (g j ≡ f j)) → i ≡ j
        by_cases (inl (a, _)) (inl (b, _)) = different i j (omega arith) (omega arith) (a ∙ sym b)
        by_cases (inl (_, a)) (inr (_, b)) = absurd (apart j hj (sym b ∙ sym e ∙ a))
        by_cases (inr (_, a)) (inl (_, b)) = absurd (apart i hi (sym a ∙ e ∙ b))
        by_cases (inr (_, a)) (inr (_, b)) = different i j (omega arith) (omega arith) (sym a ∙ e ∙ b)

search_below : (n y : ℕ) (f : ℕ → ℕ) → ((i : ℕ) × (i < n) × (f i ≡ y)) ⊎ ((i : ℕ) → i < n → f i ≡ y → ⊥)
search_below zero y f = inr (λ i h e. omega arith)
search_below (suc n) y f = by_test (eqb (f n) y) refl (search_below n y f)
  where
    by_test : (t : Bool) → eqb (f n) y ≡ t → ((i : ℕ) × (i < n) × (f i ≡ y)) ⊎ ((i : ℕ) → i < n → f i ≡ y → ⊥)
        → ((i : ℕ) × (i < suc n) × (f i ≡ y)) ⊎ ((i : ℕ) → i < suc n → f i ≡ y → ⊥)
    by_test true e rest = inl (n, omega arith, eqb-true _ _ e)
    by_test false e (inl (i, h, is)) = inl (i, omega arith, is)
    by_test false e (inr none) = inr never
      where
        never : (i : ℕ) → i < suc n → f i ≡ y → ⊥
        never i h is = elim (dec_le n i) [
          | yes l ↦ let last : i ≡ n = omega arith in eqb-false _ _ e (rw last at is)
          | no l ↦ none i (omega arith) is
        ]

-- n different numbers below n are all of them.
pub all_met : (n y : ℕ) (f : ℕ → ℕ) → Different f n → ((i : ℕ) → i < n → f i < n) → y < n → (i : ℕ) × (i < n) × (f i ≡ y)
all_met n y f different below hy = by_search (search_below n y f)
  where
    longer : ℕ → ℕ
    longer i = cond (ltb i n) (f i) y

    by_search : ((i : ℕ) × (i < n) × (f i ≡ y)) ⊎ ((i : ℕ) → i < n → f i ≡ y → ⊥) → (i : ℕ) × (i < n) × (f i ≡ y)
    by_search (inl found) = found
    by_search (inr none) = absurd (too_many_lem n longer longer_different longer_below)
      where
        here : (i : ℕ) → i < n → longer i ≡ f i
        here i h = rw (lt-ltb i n h)

        end : (i : ℕ) → n ≤ i → longer i ≡ y
        end i h = rw (le-ltb i n h)

        longer_below : (i : ℕ) → i < suc n → longer i < n
        longer_below i h = elim (dec_le n i) [
          | yes l ↦ rw (end i l) hy
          | no l ↦ rw (here i (omega arith)) (below i (omega arith))
        ]

        longer_different : Different longer (suc n)
        longer_different i j hi hj e = elim (dec_le n i) [
          | yes l ↦ elim (dec_le n j) [
            | yes l' ↦ omega arith
            | no l' ↦ absurd (none j (omega arith) (sym (here j (omega arith)) ∙ sym e ∙ end i l))
          ]
          | no l ↦ elim (dec_le n j) [
            | yes l' ↦ absurd (none i (omega arith) (sym (here i (omega arith)) ∙ e ∙ end j l'))
            | no l' ↦ different i j (omega arith) (omega arith) (sym (here i (omega arith)) ∙ e ∙ here j (omega arith))
          ]
        ]

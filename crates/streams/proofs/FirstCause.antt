-- The first cause that holds gives the code: one law for any type of refusals; and the causes that calls on a record share.
use mathlib.Core.Path.{◌≡◌, refl, sym, ap, ◌∙◌, subst}
use mathlib.Core.Bool.{Bool, true, false, cond, true≢false}
use mathlib.Core.List.{List, [], ◌∷◌, map}
use mathlib.Core.Logic.{◌⊎◌, inl, inr}
use Prim.Native.Nat.{ℕ, ◌+◌, ◌<◌}
use native.Mathlib.Omega.{arith}
use lib.Dec.{eqb}
use lib.ListN.{length}
use borrow.Author.Tests.{eqb-true, eqb-false, eq-eqb, ne_eqb}
use Rattle.streams.specs.declared.Stream.{Stream}
use Rattle.streams.specs.declared.Generator.{Generator}
use Rattle.streams.specs.Streams.{fit, open_code, first_cause}
use Rattle.streams.specs.Recurrence.{Minima}
use Rattle.streams.specs.FirstCause.{place_in, NoneEarlier, Decides}
use Rattle.streams.proofs.Theorems.{fit_minima}

-- ---- One cause

-- The number is the code where the cause holds, and 0 where it does not.
abbrev pub Settled : ℕ → ℕ → Type 0 → Type 0
Settled code x P = ((x ≡ code) × P) ⊎ ((x ≡ 0) × (P → ⊥))

pub never : (code : ℕ) → Settled code 0 ⊥
never code = inr (refl, λ z. z)

pub unfit : (code : ℕ) (u : Stream) → Settled code (cond (fit u) 0 code) (Minima u → ⊥)
unfit code u = by_test (fit u) refl
  where
    by_test : (t : Bool) → fit u ≡ t → Settled code (cond t 0 code) (Minima u → ⊥)
    by_test true e = inr (refl, λ n. n ((fit_minima u).0 e))
    by_test false e = inl (refl, λ m. true≢false (sym ((fit_minima u).1 m) ∙ e))

pub opened : (g : Generator) → Settled 14 (open_code g) (g.waiting ≡ 0 → ⊥)
unfolding open_code
opened g = by_test (eqb g.waiting 0) refl
  where
    by_test : (t : Bool) → eqb g.waiting 0 ≡ t → Settled 14 (cond t 0 14) (g.waiting ≡ 0 → ⊥)
    by_test true e = inr (refl, λ h. h (eqb-true _ _ e))
    by_test false e = inl (refl, eqb-false _ _ e)

-- ---- The first of them

-- What is asked of a type of refusals: each has a code that is not 0 and a place of its own in the order.
pub record Ordered {R : Type 0} (code : R → ℕ) (order : List R) : Type 0 where
  pub at : ℕ → R
  pub own_place : (r : R) → at (place_in code order r) ≡ r
  pub own_code_lem : (r : R) → code r ≡ 0 → ⊥
  pub among : (r : R) → place_in code order r < length order

module _ {R : Type 0} (code : R → ℕ) (order : List R) (h : Ordered code order) where
  -- one code is one refusal's
  same_place : (l : List R) (q r : R) → code q ≡ code r → place_in code l q ≡ place_in code l r
  unfolding place_in
  same_place [] q r e = refl
  same_place (p ∷ l) q r e = rw (e, same_place l q r e)

  one_place : (q r : R) → place_in code order q ≡ place_in code order r → q ≡ r
  one_place q r e = sym (h.own_place q) ∙ ap h.at e ∙ h.own_place r

  one_code : (q r : R) → code q ≡ code r → q ≡ r
  one_code q r e = one_place q r (same_place order q r e)

  -- the place of the head, and of another
  head_place : (q : R) (l : List R) (r : R) → code q ≡ code r → place_in code (q ∷ l) r ≡ 0
  unfolding place_in
  head_place q l r e = rw (eq-eqb (code q) (code r) e)

  tail_place : (q : R) (l : List R) (r : R) → (code q ≡ code r → ⊥) → place_in code (q ∷ l) r ≡ 1 + place_in code l r
  unfolding place_in
  tail_place q l r e = rw (ne_eqb (code q) (code r) e)

  module _ (applies : R → Type 0) (cause : R → ℕ) (settled : (r : R) → Settled (code r) (cause r) (applies r)) where
    -- of the refusals in a list: none holds, or the first that does gives the code
    abbrev Found : List R → ℕ → Type 0
    Found l n =
        ((n ≡ 0) × ((r : R) → place_in code l r < length l → applies r → ⊥))
        ⊎ ((r : R) × (n ≡ code r) × applies r × NoneEarlier code l applies r)

    -- a head whose cause does not hold
    passed : (p : R) (l : List R) → (applies p → ⊥) → Found l (first_cause (map cause l)) → Found (p ∷ l) (first_cause (map cause l))
    passed p l fails (inl (e, none)) = inl (e, λ r. by_code r (eqb (code p) (code r)) refl)
      where
        by_code : (r : R) (t : Bool) → eqb (code p) (code r) ≡ t → place_in code (p ∷ l) r < length (p ∷ l) → applies r → ⊥
        by_code r true same low holds = fails (subst applies (sym (one_code p r (eqb-true _ _ same))) holds)
        by_code r false other low holds =
            none r (omega (arith, low, tail_place p l r (eqb-false _ _ other))) holds
    passed p l fails (inr (r, is, holds, first)) = inr (r, is, holds, λ q. by_code q (eqb (code p) (code q)) refl)
      where
        r_other : code p ≡ code r → ⊥
        r_other e = fails (subst applies (sym (one_code p r e)) holds)

        by_code : (q : R) (t : Bool) → eqb (code p) (code q) ≡ t → place_in code (p ∷ l) q < place_in code (p ∷ l) r → applies q → ⊥
        by_code q true same low holds-q = fails (subst applies (sym (one_code p q (eqb-true _ _ same))) holds-q)
        by_code q false other low holds-q =
            first q (omega (arith, low, tail_place p l q (eqb-false _ _ other), tail_place p l r r_other)) holds-q

    first_found : (l : List R) → Found l (first_cause (map cause l))
    first_found [] = inl (refl, λ r low. absurd (omega (arith, low)))
    first_found (p ∷ l) = by_cause (settled p) (first_found l)
      where
        by_cause : Settled (code p) (cause p) (applies p) → Found l (first_cause (map cause l)) → Found (p ∷ l) (first_cause (map cause (p ∷ l)))
        by_cause (inl (e, holds)) rest =
            inr (p, rw (e, ne_eqb (code p) 0 (h.own_code_lem p)), holds, λ q low. absurd (omega (arith, low, head_place p l p refl)))
        by_cause (inr (e, fails)) rest = rw e (passed p l fails rest)

    -- two numbers of which neither is the smaller
    neither_below : (m n : ℕ) → (m < n → ⊥) → (n < m → ⊥) → m ≡ n
    neither_below m n a b = omega (arith, a, b)

    decided : (n : ℕ) → Found order n → Decides code order applies n
    decided n (inl (e, none)) =
        let no-cause : (r : R) → applies r → ⊥ = λ r. none r (h.among r) in
        record {
          under_cause = λ r. (λ is. absurd (h.own_code_lem r (sym is ∙ e)), λ c. absurd (no-cause r c.0));
          accepted = (λ _. no-cause, λ _. e);
          no_other = inl e;
        }
    decided n (inr (q, is, holds, first)) =
        record {
          under_cause = λ r. (
            λ e. subst (λ (p : R). applies p × NoneEarlier code order applies p) (one_code q r (sym is ∙ e)) (holds, first),
            λ c. is ∙ ap code (one_place q r (neither_below _ _ (λ low. c.1 q low holds) (λ low. first r low c.0))),
          );
          accepted = (λ e. absurd (h.own_code_lem q (sym is ∙ e)), λ none. absurd (none q holds));
          no_other = inr (q, is);
        }

    pub first_decides : Decides code order applies (first_cause (map cause order))
    first_decides = decided _ (first_found order)

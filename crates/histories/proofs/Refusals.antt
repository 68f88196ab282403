-- The first cause that holds gives the code.
use mathlib.Core.Path.{◌≡◌, refl, sym, ap, ◌∙◌}
use mathlib.Core.List.{List, [], ◌∷◌, map}
use mathlib.Core.Logic.{inl, inr}
use Prim.Native.Nat.{ℕ, ◌<◌}
use native.Mathlib.Omega.{arith}
use lib.ListN.{length, get_or, drop}
use Rattle.streams.specs.declared.Generator.{Generator}
use Rattle.streams.specs.Streams.{fit, open_code, none_open_code, asked_code, taken_code, length_code, count_code}
use Rattle.streams.specs.Streams.{Call, first_cause}
use Rattle.streams.specs.FirstCause.{place_in, Decides}
use Rattle.streams.proofs.FirstCause.{Settled, Ordered, first_decides}
use Rattle.noise.specs.Runs.{returned}
use Rattle.histories.specs.Refusals.{Refusal, unfit_a, unfit_b, none_open, one_open, not_as_asked, odd_length, count_full}
use Rattle.histories.specs.Refusals.{refusal_code, order, Applies, Meeting, AllMeet, meetings}
use Rattle.histories.proofs.Causes.{cause_of, settled, first_of}

-- Each refusal has a code and a place of its own.
own : (r : Refusal) → (get_or order (place_in refusal_code order r) unfit_a ≡ r) × (refusal_code r ≡ 0 → ⊥) × (place_in refusal_code order r < length order)
unfolding order place_in refusal_code
own unfit_a = (refl, λ e. omega (arith, e), omega arith)
own unfit_b = (refl, λ e. omega (arith, e), omega arith)
own none_open = (refl, λ e. omega (arith, e), omega arith)
own one_open = (refl, λ e. omega (arith, e), omega arith)
own not_as_asked = (refl, λ e. omega (arith, e), omega arith)
own odd_length = (refl, λ e. omega (arith, e), omega arith)
own count_full = (refl, λ e. omega (arith, e), omega arith)

ordered : Ordered refusal_code order
ordered = record { at = λ n. get_or order n unfit_a; own_place = λ r. (own r).0; own_code_lem = λ r. (own r).1; among = λ r. (own r).2 }

pub decides : (c : Call) (g : Generator) → Decides refusal_code order (λ (r : Refusal). Applies r c g) (returned c g).code
decides c g = rw (first_of c g) (first_decides refusal_code order ordered (λ (r : Refusal). Applies r c g) (cause_of c g) (settled c g))

-- ---- Two causes at one record

-- A cause that the chain has under its code holds.
told : (c : Call) (g : Generator) (r : Refusal) → cause_of c g r ≡ refusal_code r → Applies r c g
told c g r e = by_cause (settled c g r)
  where
    by_cause : Settled (refusal_code r) (cause_of c g r) (Applies r c g) → Applies r c g
    by_cause (inl (_, holds)) = holds
    by_cause (inr (none, _)) = absurd ((own r).1 (sym e ∙ none))

-- what a row of a table must compute to
computed : Meeting → List ℕ
computed m =
    cause_of m.call m.given m.first
    ∷ cause_of m.call m.given m.second
    ∷ first_cause (map (cause_of m.call m.given) order)
    ∷ []

claimed : Meeting → List ℕ
claimed m = refusal_code m.first ∷ refusal_code m.second ∷ refusal_code m.first ∷ []

all_meet : (l : List Meeting) → map computed l ≡ map claimed l → AllMeet l
unfolding computed claimed
all_meet [] e = tt
all_meet (m ∷ l) e =
    let here : computed m ≡ claimed m = ap (λ (rows : List (List ℕ)). get_or rows 0 []) e in (
      (
        told m.call m.given m.first (ap (λ (row : List ℕ). get_or row 0 0) here),
        told m.call m.given m.second (ap (λ (row : List ℕ). get_or row 1 0) here),
        first_of m.call m.given ∙ ap (λ (row : List ℕ). get_or row 2 0) here,
      ),
      all_meet l (ap (λ (rows : List (List ℕ)). drop 1 rows) e),
    )

pub meetings_meet : AllMeet meetings
unfolding meetings computed claimed order refusal_code fit open_code none_open_code asked_code taken_code length_code count_code
meetings_meet = all_meet meetings refl

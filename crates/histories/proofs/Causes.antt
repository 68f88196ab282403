-- The causes one by one, and the one chain of all calls.
use mathlib.Core.Path.{◌≡◌, refl, ◌∙◌}
use mathlib.Core.Bool.{Bool, true, false, cond}
use mathlib.Core.List.{List, [], ◌∷◌, map}
use mathlib.Core.Logic.{◌⊎◌, inl, inr}
use Prim.Native.Nat.{ℕ, ◌+◌, ◌*◌, ◌/◌, ◌%◌}
use native.Mathlib.Omega.{arith}
use lib.Dec.{leb, eqb}
use borrow.Author.Tests.{leb-true, leb-false, eqb-true, eqb-false}
use Rattle.streams.specs.declared.Generator.{Generator}
use Rattle.streams.specs.Streams.{fit, record_code, open_code, none_open_code, most_asked, asked_code, taken_code, length_code, most_count, count_code}
use Rattle.streams.specs.Streams.{Call, note_code, own_code, room_code, first_cause, code_of}
use Rattle.streams.specs.Streams.Call.{numbers, a_pair, a_skip, a_Block, a_look, an_ask, a_take, give_up}
use Rattle.streams.proofs.FirstCause.{Settled, never, unfit, opened}
use Rattle.noise.specs.Runs.{returned}
use Rattle.noise.proofs.Runs.{returned_code}
use Rattle.histories.specs.Refusals.{Refusal, unfit_a, unfit_b, none_open, one_open, not_as_asked, odd_length, count_full}
use Rattle.histories.specs.Refusals.{refusal_code, order, NoneOpen, TooMany, OtherSize, Odd, Passes, CauseOf, Applies}

-- ---- One cause

closed : (g : Generator) → Settled 15 (none_open_code g) (NoneOpen g)
unfolding none_open_code
closed g = by_test (eqb g.waiting 0) refl
  where
    by_test : (t : Bool) → eqb g.waiting 0 ≡ t → Settled 15 (cond t 15 0) (NoneOpen g)
    by_test true e = inl (refl, eqb-true _ _ e)
    by_test false e = inr (refl, eqb-false _ _ e)

asked : (n : ℕ) → Settled 16 (asked_code n) (TooMany n)
unfolding asked_code
asked n = by_test (leb n most_asked) refl
  where
    by_test : (t : Bool) → leb n most_asked ≡ t → Settled 16 (cond t 0 16) (TooMany n)
    by_test true e = inr (refl, λ l. omega (arith, leb-true n most_asked e))
    by_test false e = inl (refl, omega (arith, leb-false n most_asked e))

taken : (g : Generator) (n : ℕ) → Settled 16 (taken_code g n) (TooMany g.asked ⊎ OtherSize g n)
unfolding taken_code
taken g n = by_cases (asked g.asked) (eqb n (2 * g.asked)) refl
  where
    by_cases : Settled 16 (asked_code g.asked) (TooMany g.asked) → (t : Bool) → eqb n (2 * g.asked) ≡ t
        → Settled 16 (taken_code g n) (TooMany g.asked ⊎ OtherSize g n)
    by_cases (inl (e, many)) t f = inl (rw (taken_code, e), inl many)
    by_cases (inr (e, few)) true f = inr (rw (taken_code, e, f), λ h. neither h)
      where
        neither : TooMany g.asked ⊎ OtherSize g n → ⊥
        neither (inl many) = few many
        neither (inr other) = other (eqb-true _ _ f)
    by_cases (inr (e, few)) false f = inl (rw (taken_code, e, f), inr (eqb-false _ _ f))

odd : (n : ℕ) → Settled 4 (length_code n) (Odd n)
unfolding length_code
odd n = by_test (eqb (n % 2) 0) refl
  where
    by_test : (t : Bool) → eqb (n % 2) 0 ≡ t → Settled 4 (cond t 0 4) (Odd n)
    by_test true e = inr (refl, λ o. omega (arith, eqb-true (n % 2) 0 e))
    by_test false e = inl (refl, omega (arith, eqb-false (n % 2) 0 e))

full : (g : Generator) (n : ℕ) → Settled 13 (count_code g n) (Passes g n)
unfolding count_code
full g n = by_test (leb (g.count + n) most_count) refl
  where
    by_test : (t : Bool) → leb (g.count + n) most_count ≡ t → Settled 13 (cond t 0 13) (Passes g n)
    by_test true e = inr (refl, λ l. omega (arith, leb-true (g.count + n) most_count e))
    by_test false e = inl (refl, omega (arith, leb-false (g.count + n) most_count e))

-- ---- The causes of a call

-- What the chain of tests has for each refusal.
abbrev chain : Generator → (none one asked odd full : ℕ) → Refusal → ℕ
chain g none one asked odd full unfit_a = cond (fit g.a) 0 11
chain g none one asked odd full unfit_b = cond (fit g.b) 0 12
chain g none one asked odd full none_open = none
chain g none one asked odd full one_open = one
chain g none one asked odd full not_as_asked = asked
chain g none one asked odd full odd_length = odd
chain g none one asked odd full count_full = full

abbrev pub cause_of : Call → Generator → Refusal → ℕ
cause_of numbers g = chain g 0 (open_code g) 0 0 (count_code g 1)
cause_of a_pair g = chain g 0 (open_code g) 0 0 (count_code g 1)
cause_of (a_skip n) g = chain g 0 (open_code g) 0 0 (count_code g n)
cause_of (a_Block n) g = chain g 0 (open_code g) 0 (length_code n) (count_code g (n / 2))
cause_of (a_look n) g = chain g 0 0 0 (length_code n) (count_code g (n / 2))
cause_of (an_ask n) g = chain g 0 (open_code g) (asked_code n) 0 (count_code g n)
cause_of (a_take n) g = chain g (none_open_code g) 0 (taken_code g n) 0 (count_code g g.asked)
cause_of give_up g = chain g (none_open_code g) 0 0 0 0

-- It is the code just where the refusal's cause holds.
settled_chain : (g : Generator) {none one asked odd full : ℕ} {None One Asked Odd Full : Type 0}
    → Settled 15 none None → Settled 14 one One → Settled 16 asked Asked → Settled 4 odd Odd → Settled 13 full Full
    → (r : Refusal) → Settled (refusal_code r) (chain g none one asked odd full r) (CauseOf g None One Asked Odd Full r)
unfolding refusal_code
settled_chain g none one asked odd full unfit_a = unfit 11 g.a
settled_chain g none one asked odd full unfit_b = unfit 12 g.b
settled_chain g none one asked odd full none_open = none
settled_chain g none one asked odd full one_open = one
settled_chain g none one asked odd full not_as_asked = asked
settled_chain g none one asked odd full odd_length = odd
settled_chain g none one asked odd full count_full = full

pub settled : (c : Call) (g : Generator) (r : Refusal) → Settled (refusal_code r) (cause_of c g r) (Applies r c g)
settled numbers g = settled_chain g (never 15) (opened g) (never 16) (never 4) (full g 1)
settled a_pair g = settled_chain g (never 15) (opened g) (never 16) (never 4) (full g 1)
settled (a_skip n) g = settled_chain g (never 15) (opened g) (never 16) (never 4) (full g n)
settled (a_Block n) g = settled_chain g (never 15) (opened g) (never 16) (odd n) (full g (n / 2))
settled (a_look n) g = settled_chain g (never 15) (never 14) (never 16) (odd n) (full g (n / 2))
settled (an_ask n) g = settled_chain g (never 15) (opened g) (asked n) (never 4) (full g n)
settled (a_take n) g = settled_chain g (closed g) (never 14) (taken g n) (never 4) (full g g.asked)
settled give_up g = settled_chain g (closed g) (never 14) (never 16) (never 4) (never 13)

-- 11 and 12 apart are the record's one cause
both_streams : (a b : Bool) (causes : List ℕ)
    → first_cause (cond a (cond b 0 12) 11 ∷ causes) ≡ first_cause (cond a 0 11 ∷ cond b 0 12 ∷ causes)
both_streams true true causes = refl
both_streams true false causes = refl
both_streams false b causes = refl

-- The code that a call returns is the first of them.
pub first_of : (c : Call) (g : Generator) → (returned c g).code ≡ first_cause (map (cause_of c g) order)
unfolding code_of note_code own_code room_code record_code order
first_of c g = returned_code c g ∙ both_streams (fit g.a) (fit g.b) (note_code c g ∷ own_code c g ∷ room_code c g ∷ []) ∙ by_call c
  where
    by_call : (c : Call)
        → first_cause (cond (fit g.a) 0 11 ∷ cond (fit g.b) 0 12 ∷ note_code c g ∷ own_code c g ∷ room_code c g ∷ [])
        ≡ first_cause (map (cause_of c g) order)
    by_call numbers = refl
    by_call a_pair = refl
    by_call (a_skip n) = refl
    by_call (a_Block n) = refl
    by_call (a_look n) = refl
    by_call (an_ask n) = refl
    by_call (a_take n) = refl
    by_call give_up = refl

-- The first cause that holds gives the code of a call on marks.
use mathlib.Core.Path.{◌≡◌, refl, sym, ◌∙◌}
use mathlib.Core.Bool.{Bool, true, false, cond, true≢false, false≢true}
use mathlib.Core.List.{List, [], ◌∷◌, map}
use mathlib.Core.Logic.{◌↔◌, inl, inr}
use Prim.Native.Nat.{ℕ, ◌≤◌, ◌<◌}
use native.Mathlib.Omega.{arith}
use lib.Dec.{eqb, leb, ltb}
use lib.ListN.{length, get_or}
use borrow.Author.Tests.{leb-true, ltb-true, ltb-false, lt-ltb, le-leb, not-true, not-false}
use Rattle.streams.specs.Streams.{fit, record_code, open_code, first_cause}
use Rattle.streams.specs.FirstCause.{place_in}
use Rattle.streams.proofs.FirstCause.{Settled, never, unfit, opened, Ordered, first_decides}
use Rattle.text.specs.Fields.{all, letter_or_digit, name}
use Rattle.text.proofs.Tests.{test, ◌and◌, each}
use Rattle.marks.specs.declared.label.Label.{Label}
use Rattle.marks.specs.Marks.{places, has_name, is_free, no_label, first_place, place_of, save_place, idle_code, name_code, place_code, place_to_save, place_to_return, place_to_drop, saved_of, returned_of, dropped_of, Sized}
use Rattle.marks.specs.Runs.{State, code_in}
use Rattle.marks.specs.Refusals.{Refusal, unfit_a, unfit_b, one_open, malformed, not_held, no_place_lem, refusal_code, order}
use Rattle.marks.specs.Refusals.{WellFormed, Held, Full, NameCall, save, return, drop, as_call, CauseOf, Applies, OfRefusals}
use Rattle.marks.proofs.Names.{has, has_name_lem}
use Rattle.marks.proofs.First.{first_passes, first_before}

-- ---- One cause

well_formed : (x : List ℕ) → (name x ≡ true) ↔ WellFormed x
unfolding name
well_formed x = (
  λ h.
      let ((some, few), letters) = each (test (ltb 0 (length x)) and test (leb (length x) 12) and test (all letter_or_digit x)) h in
      record { some = omega (arith, ltb-true 0 (length x) some); few = leb-true _ _ few; letters = letters },
  λ w. rw (lt-ltb 0 (length x) (omega (arith, w.some)), le-leb (length x) 12 w.few) w.letters,
)

named : (x : List ℕ) → Settled 18 (name_code x) (WellFormed x → ⊥)
unfolding name_code
named x = by_test (name x) refl
  where
    by_test : (t : Bool) → name x ≡ t → Settled 18 (cond t 0 18) (WellFormed x → ⊥)
    by_test true e = inr (refl, λ n. n ((well_formed x).0 e))
    by_test false e = inl (refl, λ w. true≢false (sym ((well_formed x).1 w) ∙ e))

module _ (labels : List Label) (size : length labels ≡ places) (x : List ℕ) where
  found_there : place_of labels x < places → Held labels x
  found_there h =
      record {
        place = place_of labels x;
        one_of = h;
        there = has x _ (first_passes (has_name x) labels no_label (omega (arith, h, size)));
      }

  not_there : places ≤ place_of labels x → Held labels x → ⊥
  not_there h held =
      false≢true (sym (first_before (has_name x) labels held.place no_label (omega (arith, h, held.one_of))) ∙ has_name_lem x _ held.there)

  held_or_not : Settled 19 (place_code (place_of labels x) 19) (Held labels x → ⊥)
  unfolding place_code
  held_or_not = by_test (ltb (place_of labels x) places) refl
    where
      by_test : (t : Bool) → ltb (place_of labels x) places ≡ t → Settled 19 (cond t 0 19) (Held labels x → ⊥)
      by_test true e = inr (refl, λ n. n (found_there (ltb-true _ _ e)))
      by_test false e = inl (refl, not_there (ltb-false _ _ e))

  full_or_not : Settled 20 (place_code (save_place labels x) 20) (Full labels x)
  unfolding place_code save_place
  full_or_not = by_tests (ltb (place_of labels x) places) refl (ltb (first_place is_free labels) places) refl
    where
      by_tests : (t : Bool) → ltb (place_of labels x) places ≡ t → (u : Bool) → ltb (first_place is_free labels) places ≡ u
          → Settled 20 (place_code (save_place labels x) 20) (Full labels x)
      by_tests true e u f = inr (rw (place_code, save_place, e, e), λ full. full.new (found_there (ltb-true _ _ e)))
      by_tests false e true f =
          inr (rw (place_code, save_place, e, f), λ full. taken full (ltb-true (first_place is_free labels) places f))
        where
          taken : Full labels x → first_place is_free labels < places → ⊥
          taken full h =
              true≢false (sym (full.all_used _ h) ∙ not-true _ (first_passes is_free labels no_label (omega (arith, h, size))))
      by_tests false e false f =
          inl (
            rw (place_code, save_place, e, f),
            record {
              all_used = λ i h. not-false _ (first_before is_free labels i no_label (omega (arith, h, ltb-false (first_place is_free labels) places f)));
              new = not_there (ltb-false _ _ e);
            },
          )

-- ---- The first of them

-- Each refusal has a code and a place of its own.
own : (r : Refusal) → (get_or order (place_in refusal_code order r) unfit_a ≡ r) × (refusal_code r ≡ 0 → ⊥) × (place_in refusal_code order r < length order)
unfolding order place_in refusal_code
own unfit_a = (refl, λ e. omega (arith, e), omega arith)
own unfit_b = (refl, λ e. omega (arith, e), omega arith)
own one_open = (refl, λ e. omega (arith, e), omega arith)
own malformed = (refl, λ e. omega (arith, e), omega arith)
own not_held = (refl, λ e. omega (arith, e), omega arith)
own no_place_lem = (refl, λ e. omega (arith, e), omega arith)

ordered : Ordered refusal_code order
ordered = record { at = λ n. get_or order n unfit_a; own_place = λ r. (own r).0; own_code_lem = λ r. (own r).1; among = λ r. (own r).2 }

-- ---- The causes of a call

-- What the chain of tests has for each refusal.
abbrev chain : (unfit unfit' waits misnamed absent full : ℕ) → Refusal → ℕ
chain unfit unfit' waits misnamed absent full unfit_a = unfit
chain unfit unfit' waits misnamed absent full unfit_b = unfit'
chain unfit unfit' waits misnamed absent full one_open = waits
chain unfit unfit' waits misnamed absent full malformed = misnamed
chain unfit unfit' waits misnamed absent full not_held = absent
chain unfit unfit' waits misnamed absent full no_place_lem = full

-- It is the code just where the refusal's cause holds.
settled_chain : (x : List ℕ) {unfit unfit' waits absent full : ℕ} {Unfit Unfit' Waits Absent Filled : Type 0}
    → Settled 11 unfit Unfit → Settled 12 unfit' Unfit' → Settled 14 waits Waits → Settled 19 absent Absent → Settled 20 full Filled
    → (r : Refusal) → Settled (refusal_code r) (chain unfit unfit' waits (name_code x) absent full r) (CauseOf x Unfit Unfit' Waits Absent Filled r)
unfolding refusal_code
settled_chain x unfit unfit' waits absent full unfit_a = unfit
settled_chain x unfit unfit' waits absent full unfit_b = unfit'
settled_chain x unfit unfit' waits absent full one_open = waits
settled_chain x unfit unfit' waits absent full malformed = named x
settled_chain x unfit unfit' waits absent full not_held = absent
settled_chain x unfit unfit' waits absent full no_place_lem = full

abbrev cause_of : NameCall → State → List ℕ → Refusal → ℕ
cause_of save s x =
    chain (cond (fit s.generator.a) 0 11) (cond (fit s.generator.b) 0 12) (open_code s.generator) (name_code x) 0
    (place_code (save_place s.marks.labels x) 20)
cause_of return s x =
    chain (cond (fit s.generator.a) 0 11) (cond (fit s.generator.b) 0 12) (open_code s.generator) (name_code x)
    (place_code (place_of s.marks.labels x) 19) 0
cause_of drop s x = chain 0 0 0 (name_code x) (place_code (place_of s.marks.labels x) 19) 0

-- the record's causes apart are its one cause
apart : (a b o : Bool) (causes : List ℕ)
    → first_cause (first_cause (cond a (cond b 0 12) 11 ∷ cond o 0 14 ∷ []) ∷ causes)
    ≡ first_cause (cond a 0 11 ∷ cond b 0 12 ∷ cond o 0 14 ∷ causes)
apart true true true causes = refl
apart true true false causes = refl
apart true false true causes = refl
apart true false false causes = refl
apart false b o causes = refl

-- The code that a call returns is the first of them.
first_of : (c : NameCall) (s : State) (x : List ℕ) → code_in (as_call c x) s ≡ first_cause (map (cause_of c s x) order)
unfolding code_in saved_of returned_of dropped_of place_to_save place_to_return place_to_drop idle_code record_code open_code order
first_of save s x =
    let g = s.generator in
    apart (fit g.a) (fit g.b) (eqb g.waiting 0) (name_code x ∷ place_code (save_place s.marks.labels x) 20 ∷ [])
first_of return s x =
    let g = s.generator in
    apart (fit g.a) (fit g.b) (eqb g.waiting 0) (name_code x ∷ place_code (place_of s.marks.labels x) 19 ∷ [])
first_of drop s x = refl

module _ (c : NameCall) (s : State) (sized : Sized s.marks) (x : List ℕ) where
  settled : (r : Refusal) → Settled (refusal_code r) (cause_of c s x r) (Applies r c s x)
  settled = by_call c
    where
      size : length s.marks.labels ≡ places
      size = sized.labels_size

      by_call : (c : NameCall) (r : Refusal) → Settled (refusal_code r) (cause_of c s x r) (Applies r c s x)
      by_call save =
          settled_chain x (unfit 11 s.generator.a) (unfit 12 s.generator.b) (opened s.generator) (never 19)
          (full_or_not s.marks.labels size x)
      by_call return =
          settled_chain x (unfit 11 s.generator.a) (unfit 12 s.generator.b) (opened s.generator)
          (held_or_not s.marks.labels size x) (never 20)
      by_call drop = settled_chain x (never 11) (never 12) (never 14) (held_or_not s.marks.labels size x) (never 20)

  -- Each code comes just where its cause holds and none before it does.
  pub of_refusals : OfRefusals c s x
  of_refusals = rw (first_of c s x) (first_decides refusal_code order ordered (λ (r : Refusal). Applies r c s x) (cause_of c s x) settled)

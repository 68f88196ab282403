-- Pushes one by one: one more, none left, and those from a tested window.
use mathlib.Core.Path.{◌≡◌, refl, sym, ap, ◌∙◌}
use mathlib.Core.Bool.{Bool, true, false, cond, false≢true}
use mathlib.Core.List.{List, [], ◌∷◌}
use Prim.Native.Nat.{ℕ, ◌+◌, ◌≤◌, ◌<◌}
use native.Mathlib.Numerals.{add-one}
use lib.IntN.{ℤ, pos}
use lib.ListN.{length, get_or, set, drop, drop_of_length-le}
use lib.Dec.{eqb}
use borrow.Author.Tests.{eqb-true}
use Rattle.std.specs.Prelude.{Result, Ok, Err}
use Rattle.std.specs.Result.{IfOk, IfErr, IsErr}
use Rattle.std.proofs.lemmas.Result.{IfOk-at_ok, IfErr-at_err}
use Rattle.drift.specs.declared.window.Refusal.{Refusal}
use Rattle.drift.specs.declared.window.Refusal.TheVariants.{Unfit}
use lib.Seq.{drop-cons}
use Rattle.drift.specs.Drift.{Window, WindowAnswer, size_fit, fit_of, accepted, refusal, checked_of, moved_of, fits, answered, pushed_of, pushed_from, pushed_all, with_places, members_of}
use Rattle.drift.specs.declared.window.Members.{Members}

pub one_more : (r : WindowAnswer) (l : List ℤ) (i : ℕ) (d : ℤ) → i < length l → pushed_from r (drop i l) ≡ pushed_from (pushed_of r.window (get_or l i d)) (drop (i + 1) l)
unfolding pushed_from
one_more r l i d h = rw (drop-cons l i d h, add-one i)

pub at_end : (r : WindowAnswer) (l : List ℤ) (i : ℕ) → length l ≤ i → pushed_from r (drop i l) ≡ r
unfolding pushed_from
at_end r l i h = rw (drop_of_length-le l h)

-- A window that was tested first is pushed like the window itself.
pub tested : (w : Window) (x : ℤ) → pushed_of (checked_of w).window x ≡ pushed_of w x
unfolding checked_of pushed_of fit_of size_fit
tested w x = by_test (fit_of w.size w.held w.place w.sum w.squares) refl
  where
    by_test : (t : Bool) → fit_of w.size w.held w.place w.sum w.squares ≡ t → pushed_of (cond t (accepted w) refusal).window x ≡ cond t (accepted (moved_of w x)) refusal
    by_test true e = rw e
    by_test false e = refl

pub all_from : (w : Window) (l : List ℤ) → pushed_from (checked_of w) l ≡ pushed_all w l
unfolding pushed_from pushed_all
all_from w [] = refl
all_from w (x ∷ l) = ap (λ (r : WindowAnswer). pushed_from r l) (tested w x)

-- ---- What an answer tells of the definition

-- A call that returns members gives them and the places.
pub passed : (r : WindowAnswer) {m : Members} {places : List ℤ} → Ok m ≡ answered r → places ≡ r.window.places → accepted (with_places m places) ≡ r
passed r e h = rw h (IfOk-at_ok (λ m. accepted (with_places m r.window.places) ≡ r) (sym e) (by_test (eqb r.code 0) refl))
  where
    by_test : (t : Bool) → eqb r.code 0 ≡ t → IfOk (cond t (Ok (members_of r.window)) (Err Unfit)) (λ m. accepted (with_places m r.window.places) ≡ r)
    by_test true t = let z : 0 ≡ r.code = sym (eqb-true _ _ t) in λ i. record { code = z i; window = r.window }
    by_test false t = tt

-- A call that tests and is refused.
failed : (t : Bool) (v : Window) {e : Refusal} → Err e ≡ answered (cond t (accepted v) refusal) → cond t (accepted v) refusal ≡ refusal
failed t v e = IfErr-at_err (λ _. cond t (accepted v) refusal ≡ refusal) (sym e) (by_test t)
  where
    by_test : (t : Bool) → IfErr (answered (cond t (accepted v) refusal)) (λ _. cond t (accepted v) refusal ≡ refusal)
    by_test true = tt
    by_test false = refl

pub is_refusal : (r : Result Members Refusal) → IsErr r → r ≡ answered refusal
is_refusal (Ok m) h = absurd (false≢true h)
is_refusal (Err Unfit) h = refl

pub refused_after : (l : List ℤ) → pushed_from refusal l ≡ refusal
unfolding pushed_from pushed_of fit_of size_fit
refused_after [] = refl
refused_after (x ∷ l) = refused_after l

module _ (w : Window) where
  pub test_failed : {e : Refusal} → Err e ≡ answered (checked_of w) → checked_of w ≡ refusal
  unfolding checked_of
  test_failed e = failed (fit_of w.size w.held w.place w.sum w.squares) w e

  pub push_failed : (x : ℤ) {e : Refusal} → Err e ≡ answered (pushed_of w x) → pushed_of w x ≡ refusal
  unfolding pushed_of
  push_failed x e = failed (fit_of w.size w.held w.place w.sum w.squares) (moved_of w x) e

  -- the pushes that are left, where the next one is refused
  pub rest_failed : (l : List ℤ) (i : ℕ) {all : WindowAnswer} {e : Refusal} → i < length l → pushed_from (accepted w) (drop i l) ≡ all
      → Err e ≡ answered (pushed_of w (get_or l i (pos 0))) → all ≡ refusal
  rest_failed l i h from e = sym from ∙ one_more (accepted w) l i (pos 0) h ∙ ap (λ (r : WindowAnswer). pushed_from r (drop (i + 1) l)) (push_failed (get_or l i (pos 0)) e) ∙ refused_after (drop (i + 1) l)

  pub push_of_unfit : (x : ℤ) {e : Refusal} → Err e ≡ answered (checked_of w) → pushed_of w x ≡ refusal
  unfolding pushed_of pushed_from
  push_of_unfit x e = sym (tested w x) ∙ ap (λ (r : WindowAnswer). pushed_of r.window x) (test_failed e) ∙ refused_after (x ∷ [])

  pub run_of_unfit : (l : List ℤ) {e : Refusal} → Err e ≡ answered (checked_of w) → pushed_all w l ≡ refusal
  run_of_unfit l e = sym (all_from w l) ∙ ap (λ (r : WindowAnswer). pushed_from r l) (test_failed e) ∙ refused_after l

  by_fit : (P : Members → Type 0) → (fit_of w.size w.held w.place w.sum w.squares ≡ true → P (members_of w)) → IfOk (answered (checked_of w)) P
  unfolding checked_of
  by_fit P h = by_test (fit_of w.size w.held w.place w.sum w.squares) refl
    where
      by_test : (t : Bool) → fit_of w.size w.held w.place w.sum w.squares ≡ t → IfOk (answered (cond t (accepted w) refusal)) P
      by_test true e = h e
      by_test false e = tt

  pub test_passed : {m : Members} → Ok m ≡ answered (checked_of w) → (fits m ≡ true) × (m ≡ members_of w)
  test_passed e = IfOk-at_ok (λ m. (fits m ≡ true) × (m ≡ members_of w)) (sym e) (by_fit _ (λ t. (t, refl)))

  pub test_of_fit : {m : Members} → Ok m ≡ answered (checked_of w) → checked_of w ≡ accepted w
  unfolding checked_of
  test_of_fit e = IfOk-at_ok (λ _. checked_of w ≡ accepted w) (sym e) (by_fit _ (λ t. rw t))

  same_places : {m : Members} {places : List ℤ} → Ok m ≡ answered (checked_of w) → places ≡ (checked_of w).window.places → places ≡ w.places
  same_places e h = h ∙ ap (λ (r : WindowAnswer). r.window.places) (test_of_fit e)

  pub push_of_fit : (x : ℤ) {m : Members} → Ok m ≡ answered (checked_of w) → pushed_of w x ≡ accepted (moved_of w x)
  unfolding pushed_of
  push_of_fit x e = IfOk-at_ok (λ _. pushed_of w x ≡ accepted (moved_of w x)) (sym e) (by_fit _ (λ t. rw t))

  pub run_of_fit : (l : List ℤ) {m : Members} → Ok m ≡ answered (checked_of w) → pushed_from (accepted w) l ≡ pushed_all w l
  run_of_fit l e = ap (λ (r : WindowAnswer). pushed_from r l) (sym (test_of_fit e)) ∙ all_from w l

  module _ (x : ℤ) {m : Members} {places : List ℤ} (e : Ok m ≡ answered (checked_of w)) (h : places ≡ (checked_of w).window.places) where
    pub push_value : {n : Members} → n ≡ members_of (moved_of (with_places m places) x) → Ok n ≡ answered (pushed_of w x)
    push_value g = rw (push_of_fit x e, g, (test_passed e).1, same_places e h) refl

    pub push_places : {after : List ℤ} → after ≡ set places m.place x → after ≡ (pushed_of w x).window.places
    unfolding moved_of
    push_places g = rw (push_of_fit x e, g, (test_passed e).1, same_places e h) refl

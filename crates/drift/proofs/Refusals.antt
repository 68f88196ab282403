-- 17 just where its cause holds, and the limit of a sum from both sides.
use mathlib.Core.Path.{◌≡◌, refl, sym, ◌∙◌}
use mathlib.Core.Bool.{Bool, true, false, cond, false≢true, and-eq-true_iff}
use mathlib.Core.List.{[]}
use mathlib.Core.Logic.{◌⊎◌, inl, inr}
use Prim.Native.Nat.{ℕ, ◌≤◌, ◌<◌}
use native.Mathlib.Omega.{arith}
use lib.Dec.{leb}
use lib.IntN.{ℤ, nat_abs}
use borrow.Author.Tests.{leb-true, leb-false, le-leb}
use Rattle.drift.specs.Drift.{Window, most_size, size_fit, within_limit, fit_of, empty_window, accepted, refusal, checked_of, made_of, moved_of, pushed_of, pushed_all}
use Rattle.drift.specs.Theorems.{SizeOutside, Unfit, JustFor, Seventeen, Limit}
use Rattle.drift.specs.Theorems.Unfit.{size_outside, more_held, place_outside, sum_beyond, squares_beyond}
use Rattle.drift.proofs.Fitness.{Fit, fit_true, true_fit}
use Rattle.drift.proofs.Theorems.{one_by_one}

-- ---- A code of two

-- a call that is accepted where a test holds and refused with 17 where it does not
just_for : (t : Bool) (w : Window) {cause : Type 0} → (t ≡ true → cause → ⊥) → (t ≡ false → cause)
    → JustFor cause (cond t (accepted w) refusal).code
just_for true w not_so so =
    record { refused = (λ e. absurd (omega (arith, e)), λ c. absurd (not_so refl c)); fine = (λ e. not_so refl, λ n. refl) }
just_for false w not_so so =
    record { refused = (λ e. so refl, λ c. refl); fine = (λ e. absurd (omega (arith, e)), λ n. absurd (n (so refl))) }

either : (m n : ℕ) → (m ≤ n) ⊎ (n < m)
either m n = by_test (leb m n) refl
  where
    by_test : (t : Bool) → leb m n ≡ t → (m ≤ n) ⊎ (n < m)
    by_test true e = inl (leb-true m n e)
    by_test false e = inr (leb-false m n e)

-- ---- N

module _ (n : ℕ) where
  size_true : size_fit n ≡ true → SizeOutside n → ⊥
  unfolding size_fit
  size_true e u = by_side u
    where
      both : (leb 1 n ≡ true) × (leb n most_size ≡ true)
      both = (and-eq-true_iff (leb 1 n) (leb n most_size)).0 e

      by_side : SizeOutside n → ⊥
      by_side (inl h) = omega (arith, leb-true 1 n both.0)
      by_side (inr h) = omega (arith, leb-true n most_size both.1)

  size_false : size_fit n ≡ false → SizeOutside n
  unfolding size_fit
  size_false e = by_side (either 1 n) (either n 4096)
    where
      by_side : (1 ≤ n) ⊎ (n < 1) → (n ≤ 4096) ⊎ (4096 < n) → SizeOutside n
      by_side (inr h) b = inl h
      by_side (inl a) (inr h) = inr h
      by_side (inl a) (inl b) = absurd (false≢true (sym e ∙ rw (le-leb 1 n a) (le-leb n most_size (omega (arith, b)))))

-- ---- A window

unfit_or : (w : Window) → Unfit w ⊎ Fit w.size w.held w.place w.sum w.squares
unfit_or w = first (either 1 w.size) (either w.size 4096) (either w.held w.size) (either w.size w.place) (either (nat_abs w.sum) 4398046511104) (either (nat_abs w.squares) 4398046511104)
  where
    first : (1 ≤ w.size) ⊎ (w.size < 1) → (w.size ≤ 4096) ⊎ (4096 < w.size) → (w.held ≤ w.size) ⊎ (w.size < w.held)
        → (w.size ≤ w.place) ⊎ (w.place < w.size) → (nat_abs w.sum ≤ 4398046511104) ⊎ (4398046511104 < nat_abs w.sum)
        → (nat_abs w.squares ≤ 4398046511104) ⊎ (4398046511104 < nat_abs w.squares)
        → Unfit w ⊎ Fit w.size w.held w.place w.sum w.squares
    first (inr h) b c d e f = inl (size_outside (inl h))
    first (inl a) (inr h) c d e f = inl (size_outside (inr h))
    first (inl a) (inl b) (inr h) d e f = inl (more_held h)
    first (inl a) (inl b) (inl c) (inl h) e f = inl (place_outside h)
    first (inl a) (inl b) (inl c) (inr d) (inr h) f = inl (sum_beyond h)
    first (inl a) (inl b) (inl c) (inr d) (inl e) (inr h) = inl (squares_beyond h)
    first (inl a) (inl b) (inl c) (inr d) (inl e) (inl f) =
        inr (record { positive = a; small = omega (arith, b); holds = c; within = d; sum_small = omega (arith, e); squares_small = omega (arith, f) })

module _ (w : Window) where
  unfit : Unfit w → Fit w.size w.held w.place w.sum w.squares → ⊥
  unfit (size_outside (inl h)) f = omega (arith, f.positive)
  unfit (size_outside (inr h)) f = omega (arith, f.small)
  unfit (more_held h) f = omega (arith, f.holds)
  unfit (place_outside h) f = omega (arith, f.within)
  unfit (sum_beyond h) f = omega (arith, f.sum_small)
  unfit (squares_beyond h) f = omega (arith, f.squares_small)

  fit_false : fit_of w.size w.held w.place w.sum w.squares ≡ false → Unfit w
  fit_false e = by_side (unfit_or w)
    where
      by_side : Unfit w ⊎ Fit w.size w.held w.place w.sum w.squares → Unfit w
      by_side (inl u) = u
      by_side (inr f) = absurd (false≢true (sym e ∙ true_fit _ _ _ _ _ f))

  just_unfit : (v : Window) → JustFor (Unfit w) (cond (fit_of w.size w.held w.place w.sum w.squares) (accepted v) refusal).code
  just_unfit v = just_for (fit_of w.size w.held w.place w.sum w.squares) v (λ e u. unfit u (fit_true _ _ _ _ _ e)) fit_false

  pub push_refused : (x : ℤ) → JustFor (Unfit w) (pushed_of w x).code
  unfolding pushed_of
  push_refused x = just_unfit (moved_of w x)

  pub none_refused : JustFor (Unfit w) (pushed_all w []).code
  unfolding pushed_all checked_of
  none_refused = just_unfit w

pub make_refused : (n : ℕ) → JustFor (SizeOutside n) (made_of n).code
unfolding made_of
make_refused n = just_for (size_fit n) (empty_window n) (size_true n) (size_false n)

-- "17: N outside 1 to 4096, at making or in a window passed in, .. or a sum beyond 2^42 in size": under its cause and under no other.
pub seventeen : Seventeen
seventeen =
    record {
      making = make_refused;
      pushing = push_refused;
      none = none_refused;
      many = λ w samples x. rw ((one_by_one w).more samples x) (push_refused (pushed_all w samples).window x);
    }

pub limit : (x : ℤ) → Limit x
unfolding pushed_of fit_of size_fit within_limit
limit x =
    record { at = refl; at_minus = refl; past_sum = refl; past_sum_minus = refl; past_squares = refl; past_squares_minus = refl }

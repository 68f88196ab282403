-- What a fit window's members are.
use mathlib.Core.Path.{◌≡◌}
use mathlib.Core.Bool.{true, ◌&&◌, and-eq-true_iff}
use Prim.Native.Nat.{ℕ, ◌≤◌, ◌<◌}
use lib.Dec.{ltb, leb}
use lib.IntN.{ℤ, nat_abs}
use borrow.Author.Tests.{ltb-true, leb-true, lt-ltb, le-leb}
use Rattle.drift.specs.Drift.{most_size, most_sum, size_fit, within_limit, fit_of}

pub record Fit (size held place : ℕ) (sum squares : ℤ) : Type 0 where
  pub positive : 1 ≤ size
  pub small : size ≤ most_size
  pub holds : held ≤ size
  pub within : place < size
  pub sum_small : nat_abs sum ≤ most_sum
  pub squares_small : nat_abs squares ≤ most_sum

module _ (size held place : ℕ) (sum squares : ℤ) where
  pub fit_true : fit_of size held place sum squares ≡ true → Fit size held place sum squares
  unfolding fit_of size_fit within_limit
  fit_true e =
      let (a, e1) = (and-eq-true_iff (leb 1 size && leb size most_size) _).0 e in
      let (p, q) = (and-eq-true_iff (leb 1 size) _).0 a in
      let (b, e2) = (and-eq-true_iff (leb held size) _).0 e1 in
      let (d, e3) = (and-eq-true_iff (ltb place size) _).0 e2 in
      let (f, g) = (and-eq-true_iff (leb (nat_abs sum) most_sum) _).0 e3 in
      record {
        positive = leb-true _ _ p;
        small = leb-true _ _ q;
        holds = leb-true _ _ b;
        within = ltb-true _ _ d;
        sum_small = leb-true _ _ f;
        squares_small = leb-true _ _ g;
      }

  pub true_fit : Fit size held place sum squares → fit_of size held place sum squares ≡ true
  unfolding fit_of size_fit within_limit
  true_fit f =
      rw (le-leb 1 size f.positive, le-leb size most_size f.small, le-leb held size f.holds, lt-ltb place size f.within, le-leb (nat_abs sum) most_sum f.sum_small) (le-leb (nat_abs squares) most_sum f.squares_small)

-- What a count says of those who pass the test, and of those who do not.
use mathlib.Core.Path.{◌≡◌, refl}
use mathlib.Core.Bool.{Bool, true, false}
use Prim.Native.Nat.{ℕ, zero, suc, ◌+◌, ◌≤◌, ◌<◌}
use native.Mathlib.Decide.{dec_lt}
use native.Mathlib.Omega.{arith}
use Rattle.tails.specs.Counts.{one, sum_below, count_below}
use Rattle.tails.proofs.SumLaws.{sum_mono}

one_mono : (p q : Bool) → (p ≡ true → q ≡ true) → one p ≤ one q
one_mono true q implies = rw (implies refl) (omega arith)
one_mono false q implies = omega arith

-- what passes one test passes the other
pub count_mono : (n : ℕ) (p q : ℕ → Bool) → ((i : ℕ) → p i ≡ true → q i ≡ true) → count_below n p ≤ count_below n q
count_mono n p q implies = sum_mono n (λ i. one (p i)) (λ i. one (q i)) (λ i. one_mono (p i) (q i) (implies i))

pub count_most : (n : ℕ) (test : ℕ → Bool) → count_below n test ≤ n
unfolding sum_below
count_most zero test = omega arith
count_most (suc n) test = omega (arith, count_most n test, one_mono (test n) true (λ _. refl))

-- of N numbers that pass, one is at least N - 1
pub some_passes : (n : ℕ) (test : ℕ → Bool) → 0 < count_below n test → (k : ℕ) × (count_below n test ≤ suc k) × (k < n) × (test k ≡ true)
unfolding sum_below
some_passes zero test h = absurd (omega arith)
some_passes (suc n) test h = by_test (test n) refl h (some_passes n test)
  where
    Found : ℕ → ℕ → Type 0
    Found N m = (k : ℕ) × (N ≤ suc k) × (k < m) × (test k ≡ true)

    by_test : (b : Bool) → test n ≡ b → 0 < count_below n test + one b → (0 < count_below n test → Found (count_below n test) n)
        → Found (count_below n test + one b) (suc n)
    by_test true e h earlier = (n, omega (arith, count_most n test), omega arith, e)
    by_test false e h earlier =
        let (k, least, below, passes) = earlier (omega arith) in
        (k, omega arith, omega arith, passes)

-- where N pass and not all do, one up to N does not
pub some_fails : (n : ℕ) (test : ℕ → Bool) → count_below n test < n → (k : ℕ) × (k ≤ count_below n test) × (k < n) × (test k ≡ false)
unfolding sum_below
some_fails zero test h = absurd (omega arith)
some_fails (suc n) test h = by_test (test n) refl h (some_fails n test)
  where
    Found : ℕ → ℕ → Type 0
    Found N m = (k : ℕ) × (k ≤ N) × (k < m) × (test k ≡ false)

    wider : {N M m : ℕ} → N ≤ M → Found N m → Found M (suc m)
    wider l (k, most, below, fails) = (k, omega arith, omega arith, fails)

    by_test : (b : Bool) → test n ≡ b → count_below n test + one b < suc n → (count_below n test < n → Found (count_below n test) n)
        → Found (count_below n test + one b) (suc n)
    by_test true e h earlier = wider (omega arith) (earlier (omega arith))
    by_test false e h earlier = elim (dec_lt (count_below n test) n) [
      | yes l ↦ wider (omega arith) (earlier l)
      | no l ↦ (n, omega arith, omega arith, e)
    ]

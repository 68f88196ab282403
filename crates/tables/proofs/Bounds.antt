-- Bounds on the entries, each from a test that antt computes over a whole table.
use mathlib.Core.Path.{refl}
use mathlib.Core.Bool.{Bool, true, ◌&&◌}
use mathlib.Core.List.{List, [], ◌∷◌}
use Prim.Native.Nat.{ℕ, zero, suc, ◌+◌, ◌*◌, ◌-◌, ◌^◌, ◌<◌, ◌≤◌}
use native.Mathlib.Decide.{dec_lt}
use native.Mathlib.Nat.{zero-mul, mul-zero, le_of_suc-le-suc, not-suc-le-zero}
use native.Mathlib.Omega.{arith}
use lib.Dec.{T, leb, leb→le, lit≤}
use lib.ListN.{length, get_or}
use store.Enc.{and_l, and_r}
use Rattle.tables.specs.Values.{ln_two_value}
use Rattle.tables.specs.Tables.{
  entry_of,
  log_coarse,
  log_fine,
  cos_coarse,
  sin_coarse,
  cos_fine,
  sin_fine,
  ln_two,
  log_coarse_is,
  log_fine_is,
  cos_coarse_is,
  sin_coarse_is,
  cos_fine_is,
  sin_fine_is,
  ln_two_is,
}
use Rattle.tables.specs.Promise.{Bounds, ExactEntries}
use Rattle.tables.proofs.Entries.{entry_at, entry_past, lengths, every, at_most_lem}

abbrev small : ℕ → ℕ → ℕ → Bool
small bound i x = leb x bound

logs : (ln_two ≤ 0xB17217F7D2) × T (every (small ln_two) 256 log_coarse) × T (every (small ln_two) 0 log_fine)
unfolding ln_two_value
logs = rw (ln_two_is, log_coarse_is, log_fine_is) (lit≤ tt, tt, tt)

small_entries :
    T (every (small (2 ^ 30)) 0 cos_coarse) ×
    T (every (small (2 ^ 30)) 0 sin_coarse) ×
    T (every (small (2 ^ 30)) 0 cos_fine) ×
    T (every (small (2 ^ 30)) 0 sin_fine)
small_entries = rw (cos_coarse_is, sin_coarse_is, cos_fine_is, sin_fine_is) (tt, tt, tt, tt)

-- A test of two tables of one length, at each index.
along : (ℕ → ℕ → Bool) → List ℕ → List ℕ → Bool
along f [] ys = true
along f (x ∷ xs) [] = true
along f (x ∷ xs) (y ∷ ys) = f x y && along f xs ys

along_at :
    (f : ℕ → ℕ → Bool) (xs ys : List ℕ) → T (along f xs ys) →
    (k : ℕ) → k < length xs → k < length ys → T (f (get_or xs k 0) (get_or ys k 0))
unfolding along
along_at f [] ys t k hx hy = absurd (not-suc-le-zero hx)
along_at f (x ∷ xs) [] t k hx hy = absurd (not-suc-le-zero hy)
along_at f (x ∷ xs) (y ∷ ys) t zero hx hy = and_l (f x y) (along f xs ys) t
along_at f (x ∷ xs) (y ∷ ys) t (suc k) hx hy =
    along_at f xs ys (and_r (f x y) (along f xs ys) t) k (le_of_suc-le-suc hx) (le_of_suc-le-suc hy)

-- The cosine of w is not below 0, and its sine not above 1, at every index of the coarse and of the fine tables.
composed : ℕ → ℕ → ℕ → ℕ → Bool
composed C D c s = leb (D * s) (C * c) && leb (D * c + C * s) (2 ^ 60)

composed_tested : T (along (λ C D. along (composed C D) cos_fine sin_fine) cos_coarse sin_coarse)
unfolding along composed
composed_tested = rw (cos_coarse_is, sin_coarse_is, cos_fine_is, sin_fine_is) tt

abbrev Composed : ℕ → ℕ → ℕ → ℕ → Type 0
Composed C D c s = (D * s ≤ C * c) × (D * c + C * s ≤ 2 ^ 60)

composed_is : (C D c s : ℕ) → T (composed C D c s) → Composed C D c s
unfolding composed
composed_is C D c s t =
    (leb→le _ _ (and_l (leb (D * s) (C * c)) _ t), leb→le _ _ (and_r (leb (D * s) (C * c)) _ t))

composed_at : (a b : ℕ) → Composed (entry_of cos_coarse 0 a) (entry_of sin_coarse 0 a) (entry_of cos_fine 0 b) (entry_of sin_fine 0 b)
composed_at a b = go (dec_lt a 128) (dec_lt b 128)
  where
    go :
        Dec (a < 128) → Dec (b < 128) →
        Composed (entry_of cos_coarse 0 a) (entry_of sin_coarse 0 a) (entry_of cos_fine 0 b) (entry_of sin_fine 0 b)
    go (no ha) hb =
        rw (entry_past cos_coarse 0 a (omega (arith, lengths)), entry_past sin_coarse 0 a (omega (arith, lengths)))
        (omega (arith, zero-mul (entry_of cos_fine 0 b), zero-mul (entry_of sin_fine 0 b)))
    go (yes ha) (no hb) =
        rw (entry_past cos_fine 0 b (omega (arith, lengths)), entry_past sin_fine 0 b (omega (arith, lengths)))
        (omega (arith, mul-zero (entry_of cos_coarse 0 a), mul-zero (entry_of sin_coarse 0 a)))
    go (yes ha) (yes hb) =
        rw (
          entry_at cos_coarse 0 a (omega arith),
          entry_at sin_coarse 0 a (omega arith),
          entry_at cos_fine 0 b (omega arith),
          entry_at sin_fine 0 b (omega arith),
        )
        (composed_is _ _ _ _
        (along_at _ cos_fine sin_fine
        (along_at (λ C D. along (composed C D) cos_fine sin_fine) cos_coarse sin_coarse composed_tested
        (a - 0) (omega (arith, lengths)) (omega (arith, lengths)))
        (b - 0) (omega (arith, lengths)) (omega (arith, lengths))))

pub bounds : Bounds
bounds = record {
  ln_two_lem = logs.0;
  log_coarse_lem = at_most_lem ln_two 256 log_coarse logs.1;
  log_fine_lem = at_most_lem ln_two 0 log_fine logs.2;
  cos_coarse_lem = at_most_lem (2 ^ 30) 0 cos_coarse small_entries.0;
  sin_coarse_lem = at_most_lem (2 ^ 30) 0 sin_coarse small_entries.1;
  cos_fine_lem = at_most_lem (2 ^ 30) 0 cos_fine small_entries.2;
  sin_fine_lem = at_most_lem (2 ^ 30) 0 sin_fine small_entries.3;
  cosine = λ a b. (composed_at a b).0;
  sine = λ a b. (composed_at a b).1;
}

pub exact_entries : ExactEntries
unfolding entry_of
exact_entries = record {
  log_coarse_lem = rw log_coarse_is refl;
  log_fine_lem = rw log_fine_is refl;
  cos_coarse_lem = rw cos_coarse_is refl;
  sin_coarse_lem = rw sin_coarse_is refl;
  cos_fine_lem = rw cos_fine_is refl;
  sin_fine_lem = rw sin_fine_is refl;
}

-- The entries of a table, and a rule of a table, proved at all of its entries by one test that antt computes, one entry after the
-- other.
use mathlib.Core.Path.{◌≡◌, refl, ◌∙◌}
use mathlib.Core.Bool.{Bool, true, ◌&&◌}
use mathlib.Core.Logic.{◌⊎◌, inl, inr}
use mathlib.Core.List.{List, [], ◌∷◌}
use Prim.Native.Nat.{ℕ, zero, suc, ◌+◌, ◌-◌, ◌<◌, ◌≤◌}
use native.Mathlib.Nat.{add-zero, add-suc, suc-add, add-sub_of_le, sub-zero, le_of_suc-le-suc, not-suc-le-zero}
use native.Mathlib.Decide.{dec_le, dec_lt}
use native.Mathlib.Omega.{arith}
use lib.Dec.{T, leb, leb→le}
use lib.ListN.{length, get_or, get_or-eq_default}
use store.Enc.{and_l, and_r}
use borrow.Author.Tests.{le-leb, lt-leb}
use Rattle.tables.specs.Tables.{entry_of, log_coarse, log_fine, cos_coarse, sin_coarse, cos_fine, sin_fine}
use Rattle.tables.specs.Tables.{log_coarse_is, log_fine_is, cos_coarse_is, sin_coarse_is, cos_fine_is, sin_fine_is}

pub entry_below : (table : List ℕ) (first index : ℕ) → index < first → entry_of table first index ≡ 0
unfolding entry_of
entry_below table first index h = rw (lt-leb first index h)

pub entry_at : (table : List ℕ) (first index : ℕ) → first ≤ index → entry_of table first index ≡ get_or table (index - first) 0
unfolding entry_of
entry_at table first index h = rw (le-leb first index h)

pub entry_past : (table : List ℕ) (first index : ℕ) → first + length table ≤ index → entry_of table first index ≡ 0
entry_past table first index h =
    entry_at table first index (omega arith) ∙ get_or-eq_default table 0 (omega arith)

-- the entry of a table that is opened: from 0 on
pub entry_from_zero : (table list : List ℕ) → table ≡ list → (index : ℕ) → get_or list index 0 ≡ entry_of table 0 index
entry_from_zero table list e index =
    rw (← e, entry_at table 0 index (omega arith), sub-zero index)

-- How many entries each table has.
pub lengths :
    (length log_coarse ≡ 256) × (length log_fine ≡ 256) ×
    (length cos_coarse ≡ 128) × (length sin_coarse ≡ 128) × (length cos_fine ≡ 128) × (length sin_fine ≡ 128)
lengths =
    rw (log_coarse_is, log_fine_is, cos_coarse_is, sin_coarse_is, cos_fine_is, sin_fine_is) (refl, refl, refl, refl, refl, refl)

-- the test f passes at each entry of the table and its index, counted from first
abbrev pub every : (ℕ → ℕ → Bool) → ℕ → List ℕ → Bool
every f first [] = true
every f first (x ∷ table) = f first x && every f (suc first) table

from :
    (f : ℕ → ℕ → Bool) (table : List ℕ) (first : ℕ) → T (every f first table) →
    (k : ℕ) → k < length table → T (f (first + k) (get_or table k 0))
from f [] first t k h = absurd (not-suc-le-zero h)
from f (x ∷ table) first t zero h = rw add-zero (and_l (f first x) (every f (suc first) table) t)
from f (x ∷ table) first t (suc k) h =
    rw (add-suc, ← suc-add first k)
    (from f table (suc first) (and_r (f first x) (every f (suc first) table) t) k (le_of_suc-le-suc h))

-- the test at an entry, by the table's own index
pub at :
    (f : ℕ → ℕ → Bool) (first : ℕ) (table : List ℕ) → T (every f first table) →
    (index : ℕ) → first ≤ index → index < first + length table → T (f index (entry_of table first index))
at f first table t index low high =
    rw (entry_at table first index low)
    (rw (add-sub_of_le low) at (from f table first t (index - first) (omega arith)))

-- an entry is in the table, or it is 0
in_or_zero :
    (first : ℕ) (table : List ℕ) (index : ℕ) →
    ((first ≤ index) × (index < first + length table)) ⊎ (entry_of table first index ≡ 0)
in_or_zero first table index = go (dec_le first index) (dec_lt index (first + length table))
  where
    go :
        Dec (first ≤ index) → Dec (index < first + length table) →
        ((first ≤ index) × (index < first + length table)) ⊎ (entry_of table first index ≡ 0)
    go (no low) high = inr (entry_below table first index (omega arith))
    go (yes low) (no high) = inr (entry_past table first index (omega arith))
    go (yes low) (yes high) = inl (low, high)

-- a bound on all entries holds at every index, since an entry that the table lacks is 0
pub at_most_lem :
    (bound first : ℕ) (table : List ℕ) → T (every (λ i x. leb x bound) first table) →
    (index : ℕ) → entry_of table first index ≤ bound
at_most_lem bound first table t index = go (in_or_zero first table index)
  where
    go :
        ((first ≤ index) × (index < first + length table)) ⊎ (entry_of table first index ≡ 0) →
        entry_of table first index ≤ bound
    go (inl (low, high)) = leb→le _ _ (at (λ i x. leb x bound) first table t index low high)
    go (inr e) = omega arith

-- Within the table the look-up is the entry.
use mathlib.Core.Path.{◌≡◌, refl, ◌∙◌}
use mathlib.Core.List.{List, [], ◌∷◌}
use Prim.Native.Nat.{ℕ, zero, suc, ◌<◌}
use native.Mathlib.Nat.{le_of_suc-le-suc, not-suc-le-zero}
use lib.ListN.{length, get_or}
use Rattle.tables.specs.Tables.{log_fine, entry_of}
use Rattle.tables.proofs.Entries.{entry_from_zero, lengths}

within : (l : List ℕ) (n x y : ℕ) → n < length l → get_or l n x ≡ get_or l n y
within [] n x y h = absurd (not-suc-le-zero h)
within (a ∷ l) zero x y h = refl
within (a ∷ l) (suc n) x y h = within l n x y (le_of_suc-le-suc h)

pub fine_entry : (i : ℕ) → i < 256 → get_or log_fine i 0xffffffff ≡ entry_of log_fine 0 i
fine_entry i few = within log_fine i _ 0 (rw lengths.1 few) ∙ entry_from_zero log_fine log_fine refl i

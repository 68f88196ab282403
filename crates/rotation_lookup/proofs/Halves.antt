-- A number in which a cosine and a sine stand side by side has the entries of two tables as its halves.
use mathlib.Core.Path.{◌≡◌, refl, ◌∙◌}
use mathlib.Core.List.{List}
use Prim.Native.Nat.{ℕ, ◌/◌, ◌%◌, ◌^◌, ◌≤◌, ◌<◌}
use native.Mathlib.Omega.{arith}
use lib.ListN.{length, get_or}
use Rattle.tables.specs.Values.{cos_coarse_list, sin_coarse_list, cos_fine_list, sin_fine_list}
use Rattle.tables.specs.Tables.{entry_of, cos_coarse, sin_coarse, cos_fine, sin_fine, cos_coarse_is, sin_coarse_is, cos_fine_is, sin_fine_is}
use Rattle.tables.specs.Private.{beside}
use Rattle.tables.proofs.Entries.{entry_from_zero}
use Rattle.tables.proofs.Bounds.{bounds}
use Rattle.tables.proofs.Arms.{parts}

abbrev Halves : (cosines sines : List ℕ) (n r : ℕ) → Type 0
Halves cosines sines n r = (r / 2 ^ 32 ≡ entry_of cosines 0 n) × (r % 2 ^ 32 ≡ entry_of sines 0 n)

halves :
    (cosines sines uppers lowers : List ℕ) → cosines ≡ uppers → sines ≡ lowers → length uppers ≡ length lowers →
    (n r : ℕ) → entry_of sines 0 n ≤ 2 ^ 30 → r ≡ get_or (beside 32 uppers lowers) n 0 → Halves cosines sines n r
halves cosines sines uppers lowers e f same n r most is =
    let small : get_or lowers n 0 < 2 ^ 32 = rw (entry_from_zero _ _ f n) (omega arith) in
    let both = parts 32 uppers lowers same n r small is in
    (both.0 ∙ entry_from_zero _ _ e n, both.1 ∙ entry_from_zero _ _ f n)

pub coarse : (n r : ℕ) → r ≡ get_or (beside 32 cos_coarse_list sin_coarse_list) n 0 → Halves cos_coarse sin_coarse n r
coarse n r is = halves _ _ cos_coarse_list sin_coarse_list cos_coarse_is sin_coarse_is refl n r (bounds.sin_coarse_lem n) is

pub fine : (n r : ℕ) → r ≡ get_or (beside 32 cos_fine_list sin_fine_list) n 0 → Halves cos_fine sin_fine n r
fine n r is = halves _ _ cos_fine_list sin_fine_list cos_fine_is sin_fine_is refl n r (bounds.sin_fine_lem n) is

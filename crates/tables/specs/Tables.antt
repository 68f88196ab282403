-- The tables (document 01, 'Radius' and 'Angle and sample'). They are shut to other crates, which know an entry by its promise
-- (Promise.antt); only who cites a law `-is` below sees the entries themselves.
use Rattle.std.specs.Prelude.{◌≡◌, refl, cond, List, ℕ, ◌-◌, leb, get_or}
use Rattle.tables.specs.Values.{log_coarse_list, log_fine_list, cos_coarse_list, sin_coarse_list, cos_fine_list, sin_fine_list, ln_two_value}

-- A: ln(h/256), h from 256 to 511, at 2^40
pub log_coarse : List ℕ
log_coarse = log_coarse_list

-- B: ln(1 + i/65536), i from 0 to 255, at 2^40
pub log_fine : List ℕ
log_fine = log_fine_list

-- C, D: the cosine and the sine of a/512 of a turn, a from 0 to 127, at 2^30
pub cos_coarse : List ℕ
cos_coarse = cos_coarse_list

pub sin_coarse : List ℕ
sin_coarse = sin_coarse_list

-- c, s: the cosine and the sine of b/65536 of a turn, b from 0 to 127, at 2^30
pub cos_fine : List ℕ
cos_fine = cos_fine_list

pub sin_fine : List ℕ
sin_fine = sin_fine_list

-- K: ln 2, at 2^40
pub ln_two : ℕ
ln_two = ln_two_value

-- The entry at the document's own index, of a table whose first index is `first`. "Any table [..] gives 0 for an entry that it lacks."
unfoldable pub entry_of : List ℕ → ℕ → ℕ → ℕ
entry_of table first index = cond (leb first index) (get_or table (index - first) 0) 0

-- The laws that open a table.
pub log_coarse_is : log_coarse ≡ log_coarse_list
unfolding log_coarse
log_coarse_is = refl

pub log_fine_is : log_fine ≡ log_fine_list
unfolding log_fine
log_fine_is = refl

pub cos_coarse_is : cos_coarse ≡ cos_coarse_list
unfolding cos_coarse
cos_coarse_is = refl

pub sin_coarse_is : sin_coarse ≡ sin_coarse_list
unfolding sin_coarse
sin_coarse_is = refl

pub cos_fine_is : cos_fine ≡ cos_fine_list
unfolding cos_fine
cos_fine_is = refl

pub sin_fine_is : sin_fine ≡ sin_fine_list
unfolding sin_fine
sin_fine_is = refl

pub ln_two_is : ln_two ≡ ln_two_value
unfolding ln_two
ln_two_is = refl

-- When a shot follows a station.
use Prim.Native.Nat.{ℕ, ◌≤◌, ◌<◌}
use native.Mathlib.Omega.{arith}
use mathlib.Core.Path.{◌≡◌, refl}
use mathlib.Core.Bool.{true}
use mathlib.Core.List.{List, [], ◌∷◌}
use lib.ListN.{length}
use Rattle.text.specs.Fields.{same}
use Rattle.text.specs.Forms.{is_empty}
use Rattle.job_lines.specs.Links.{follows}

pub follows_none : (station from : List ℕ) → length station ≤ 0 → follows station from ≡ true
unfolding follows is_empty
follows_none [] from h = refl
follows_none (x ∷ station) from h = absurd (omega (arith, h))

pub follows_some : (station from : List ℕ) → 0 < length station → follows station from ≡ same station from
unfolding follows is_empty
follows_some [] from h = absurd (omega (arith, h))
follows_some (x ∷ station) from h = refl

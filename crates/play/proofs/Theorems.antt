-- The theorems of specs/Theorems.antt.
use mathlib.Core.Path.{refl}
use Rattle.play.specs.Play.{sum_at}
use Rattle.play.specs.Theorems.{Theorems}

pub theorems : Theorems
unfolding sum_at
theorems = record { two = λ s l j. refl; east = λ s l j. refl; north = λ s l j. refl }

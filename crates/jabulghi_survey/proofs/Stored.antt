-- Numbers that fit a width read back from the caller's memory as themselves.
use mathlib.Core.Path.{◌≡◌, ap₂}
use mathlib.Core.List.{List, ◌∷◌}
use lib.IntN.{ℤ}
use mir.Syntax.{Width}
use mir.Val.{SFits, to_z, of_z}
use mir.Facts.{to_z-of_z}

-- two before others
pub stored : {w : Width} {x y : ℤ} {l m : List ℤ} → SFits w x → SFits w y → l ≡ m → to_z w (of_z w x) ∷ to_z w (of_z w y) ∷ l ≡ x ∷ y ∷ m
stored {w} p q e = ap₂ (λ (u : ℤ) (v : List ℤ). u ∷ v) (to_z-of_z {w = w} p) (ap₂ (λ (u : ℤ) (v : List ℤ). u ∷ v) (to_z-of_z {w = w} q) e)

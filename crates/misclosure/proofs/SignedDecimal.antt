-- The digits of a signed number.
use native.Mathlib.Omega.{arith}
use mathlib.Core.Path.{◌≡◌, refl, sym, ◌∙◌}
use mathlib.Core.Bool.{true, false, false≢true, true≢false}
use mathlib.Core.List.{◌++◌}
use borrow.Author.Tests.{le-ltb}
use lib.IntN.{ℤ, pos, negsuc, nat_abs}
use lib.Signed.{lt_z}
use mir.Syntax.{w64}
use mir.Val.{SFits}
use mir.Facts.{to_z-of_z}
use Rattle.text.specs.Ascii.{ascii}
use Rattle.text.specs.Fields.{decimal}
use Rattle.misclosure.proofs.Machine.{again}
use Rattle.misclosure.specs.Output.{signed_decimal}

pub below : (z : ℤ) → SFits w64 z → lt_z (again z) (pos 0) ≡ true → signed_decimal z ≡ ascii "-" ++ decimal (nat_abs z)
below z f t = go z (rw (to_z-of_z f) at t)
  where
    go : (y : ℤ) → lt_z y (pos 0) ≡ true → signed_decimal y ≡ ascii "-" ++ decimal (nat_abs y)
    go (pos n) u = absurd (false≢true (sym (le-ltb n 0 (omega arith)) ∙ u))
    go (negsuc n) u = refl

pub above : (z : ℤ) → SFits w64 z → lt_z (again z) (pos 0) ≡ false → signed_decimal z ≡ decimal (nat_abs z)
above z f t = go z (rw (to_z-of_z f) at t)
  where
    go : (y : ℤ) → lt_z y (pos 0) ≡ false → signed_decimal y ≡ decimal (nat_abs y)
    go (pos n) u = refl
    go (negsuc n) u = absurd (true≢false u)

-- What is returned for an answer has its code and its members.
use mathlib.Core.Path.{refl}
use mathlib.Core.Bool.{Bool, true, false, cond}
use mathlib.Core.List.{List, [], ◌∷◌}
use Prim.Native.Nat.{ℕ}
use lib.IntN.{ℤ}
use Rattle.drift.specs.Drift.{Window, WindowAnswer, size_fit, fit_of, empty_window, accepted, refusal, checked_of, made_of, moved_of, pushed_of, pushed_from, pushed_all}
use Rattle.drift.specs.Theorems.{Kept, Answered}

by_test : (t : Bool) (w : Window) → Kept (cond t (accepted w) refusal)
by_test true w = record { code = refl; members = refl }
by_test false w = record { code = refl; members = refl }

made_kept : (n : ℕ) → Kept (made_of n)
unfolding made_of
made_kept n = by_test (size_fit n) (empty_window n)

pushed_kept : (w : Window) (x : ℤ) → Kept (pushed_of w x)
unfolding pushed_of
pushed_kept w x = by_test (fit_of w.size w.held w.place w.sum w.squares) (moved_of w x)

from_kept : (r : WindowAnswer) → Kept r → (l : List ℤ) → Kept (pushed_from r l)
unfolding pushed_from
from_kept r h [] = h
from_kept r h (x ∷ l) = from_kept (pushed_of r.window x) (pushed_kept r.window x) l

all_kept : (w : Window) (l : List ℤ) → Kept (pushed_all w l)
unfolding pushed_all checked_of
all_kept w [] = by_test (fit_of w.size w.held w.place w.sum w.squares) w
all_kept w (x ∷ l) = from_kept (pushed_of w x) (pushed_kept w x) l

pub answered_kept : Answered
answered_kept = record { made = made_kept; pushed = pushed_kept; all = all_kept }

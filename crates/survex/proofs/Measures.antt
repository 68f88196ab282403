-- What is measured: bytes in a room.
use Prim.Native.Nat.{ℕ, ◌+◌, ◌≤◌, ◌<◌}
use native.Mathlib.Omega.{arith}
use mathlib.Core.Path.{◌≡◌, sym}
use native.Mathlib.Decide.{dec_lt}
use borrow.Author.Tests.{le-leb, lt-leb}
use Rattle.std.specs.Prelude.{Some, None}
use Rattle.survex.specs.Private.{measured_of, grown_of}

module _ (room total : ℕ) where
  pub measured_fits : total ≤ room → measured_of room total ≡ Some total
  unfolding measured_of
  measured_fits h = rw (le-leb total room h)

  pub measured_over : room < total → measured_of room total ≡ None
  unfolding measured_of
  measured_over h = rw (lt-leb total room h)

-- more bytes
pub measured_more : (room total n : ℕ) → grown_of room (measured_of room total) n ≡ measured_of room (total + n)
unfolding grown_of
measured_more room total n = split (dec_lt room total)
  where
    split : Dec (room < total) → grown_of room (measured_of room total) n ≡ measured_of room (total + n)
    split (yes h) = rw (measured_over room total h) (sym (measured_over room (total + n) (omega (arith, h))))
    split (no h) = rw (measured_fits room total (omega (arith, h)))

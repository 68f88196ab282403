-- Text in ASCII as bytes.
use Rattle.std.specs.Prelude.{ℕ, zero, suc, ◌+◌, List, [], ◌∷◌}
use Prim.Native.Char.{code}
use Prim.Native.String.{String, len, char_at}

abbrev pub from : String → ℕ → ℕ → List ℕ
from s i zero = []
from s i (suc n) = code (char_at s i) ∷ from s (i + 1) n

-- the bytes of a text in ASCII
abbrev pub ascii : String → List ℕ
ascii s = from s 0 (len s)

-- one byte
abbrev pub byte : String → ℕ
byte s = code (char_at s 0)

-- The draws of both streams, side by side: those of a in the upper half of a number of 64 bits, and those of b in the lower.
use Rattle.std.specs.Prelude.{◌≡◌, List, [], ◌∷◌, ℕ, zero, suc, ◌+◌, ◌*◌, ◌/◌, ◌%◌, ◌^◌}
use Rattle.bit_matrix.specs.Matrices.{repeat}
use Rattle.streams.specs.declared.Stream.{Stream}
use Rattle.streams.specs.Streams.{advance, output}
use Rattle.streams.specs.declared.Lanes.{Lanes}

-- Stream a of two that stand side by side, and stream b.
abbrev pub upper : Lanes → Stream
upper u = record { s0 = u.s0 / 2 ^ 32; s1 = u.s1 / 2 ^ 32; s2 = u.s2 / 2 ^ 32 }

abbrev pub lower : Lanes → Stream
lower u = record { s0 = u.s0 % 2 ^ 32; s1 = u.s1 % 2 ^ 32; s2 = u.s2 % 2 ^ 32 }

-- The draws of two streams as they stand: a's in the upper half, b's in the lower. It is 65536 k + v of the pair (`word_is_pair`).
unfoldable pub word_of : Stream → Stream → ℕ
word_of a b = output a * 2 ^ 32 + output b

-- The words of n pairs, each one step on.
unfoldable pub words : ℕ → Stream → Stream → List ℕ
words zero a b = []
words (suc n) a b = word_of (advance a) (advance b) ∷ words n (advance a) (advance b)

-- Both streams are n steps on.
pub record LanesAfter (n : ℕ) (u next : Lanes) : Type 0 where
  pub a_at : upper next ≡ repeat advance n (upper u)
  pub b_at : lower next ≡ repeat advance n (lower u)

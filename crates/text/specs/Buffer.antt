-- Bytes written into the caller's buffer from a position on.
use Rattle.std.specs.Prelude.{ℕ, ◌+◌, ◌-◌, min, ◌≡◌, List, length}
use Rattle.std.proofs.lemmas.List.Edits.{sets}
use Rattle.text.specs.declared.buffer.Writer.{Writer}

-- the buffer with the bytes stored one after another; a store beyond its end changes nothing
unfoldable pub written : List ℕ → ℕ → List ℕ → List ℕ
written out at bytes = sets out at bytes

-- the position after as many of them as fit
unfoldable pub position_after : List ℕ → ℕ → List ℕ → ℕ
position_after out at bytes = at + min (length bytes) (length out - at)

-- what a write leaves: the position after its bytes, and the buffer
abbrev pub Puts : List ℕ → ℕ → List ℕ → ℕ → List ℕ → Type 0
Puts out at bytes next out' = (next ≡ position_after out at bytes) × (out' ≡ written out at bytes)

-- what a write leaves of a writer: the same buffer, with the bytes put where it stood
pub record Writes (w : Writer) (bytes : List ℕ) (w' : Writer) : Type 0 where
  pub same_buffer : w'.out.ghost_name ≡ w.out.ghost_name
  pub puts : Puts w.out.now w.at bytes w'.at w'.out.now

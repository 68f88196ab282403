-- What it is for draws to be equidistributed: P. L'Ecuyer, "Maximally Equidistributed Combined Tausworthe Generators" (1996).
use Rattle.std.specs.Prelude.{◌≡◌, ℕ, suc, ◌+◌, ◌-◌, ◌*◌, ◌/◌, ◌%◌, ◌^◌, ◌<◌}
use Rattle.streams.specs.declared.Stream.{Stream}
use Rattle.streams.specs.Recurrence.{draw_at, InRange}

-- The bits of the three registers that draws read.
unfoldable pub state_bits : ℕ
state_bits = 88

-- Equally many contents of registers meet A as meet B: a map that is its own inverse takes the ones to the others, and keeps their range.
pub record EquallyMany {C : Type 0} (Range A B : C → Type 0) : Type 0 where
  pub swap : C → C
  pub range : (c : C) → Range c → Range (swap c)
  pub twice : (c : C) → swap (swap c) ≡ c
  pub there : (c : C) → Range c → A c → B (swap c)
  pub back : (c : C) → Range c → B c → A (swap c)

-- t words of l bits.
abbrev pub Words : ℕ → ℕ → (ℕ → ℕ) → Type 0
Words l t w = (j : ℕ) → j < t → w j < 2 ^ l

-- The highest l bits of the next t draws are w 0, w 1, ..
abbrev pub Shows : ℕ → ℕ → (ℕ → ℕ) → Stream → Type 0
Shows l t w u = (j : ℕ) → j < t → draw_at u (suc j) / 2 ^ (32 - l) ≡ w j

-- The highest l bits of t successive draws take every value from equally many contents of the three registers, and from some.
pub record Equidistributed (l t : ℕ) : Type 0 where
  pub equally_many : (w w' : ℕ → ℕ) → Words l t w → Words l t w' → EquallyMany InRange (Shows l t w) (Shows l t w')
  pub shown : (w : ℕ → ℕ) → Words l t w → (u : Stream) × InRange u × Shows l t w u

-- ---- Pairs of k and v

-- The contents of stream a and of stream b, each of its own.
abbrev pub Contents : Type 0
Contents = Stream × Stream

abbrev pub BothInRange : Contents → Type 0
BothInRange (a, b) = InRange a × InRange b

-- The next t pairs have the numbers k 0 and v 0, k 1 and v 1, ..: k is a × 65536 + floor(b / 65536), v is b mod 65536.
abbrev pub Gives : ℕ → (ℕ → ℕ) → (ℕ → ℕ) → Contents → Type 0
Gives t k v (a, b) = (j : ℕ) → j < t → (draw_at a (suc j) * 65536 + draw_at b (suc j) / 65536 ≡ k j) × (draw_at b (suc j) % 65536 ≡ v j)

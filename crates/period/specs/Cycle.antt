-- The period of a stream, and what it is to be back after it.
use Rattle.std.specs.Prelude.{◌≡◌, List, ◌↔◌, ℕ, suc, ◌+◌, ◌-◌, ◌*◌, ◌%◌, ◌^◌, ◌≤◌, ◌<◌}
use Rattle.bit_matrix.specs.Matrices.{repeat}
use Rattle.streams.specs.declared.Stream.{Stream}
use Rattle.streams.specs.declared.Generator.{Generator}
use Rattle.streams.specs.Streams.{Call, step}
use Rattle.streams.specs.Recurrence.{draw_at}
use Rattle.noise.specs.Runs.{run, sum_over, handed}

-- The periods of the three registers together, each the longest that 31, 29 or 28 bits can have: a little less than 2^88.
unfoldable pub cycle : ℕ
cycle = (2 ^ 31 - 1) * (2 ^ 29 - 1) * (2 ^ 28 - 1)

-- L'Ecuyer's three registers (k, q, s).
abbrev pub OfThree : (ℕ → ℕ → ℕ → Type 0) → Type 0
OfThree P = P 31 13 12 × P 29 2 4 × P 28 3 17

-- from the first draw on, back where it was after n draws just where the period divides n
abbrev pub Back : {A : Type 0} → ℕ → (A → A) → A → Type 0
Back period draw x = (t n : ℕ) → (repeat draw (suc t + n) x ≡ repeat draw (suc t) x) ↔ (n % period ≡ 0)

-- So is the register (k, q, s) after 2^k - 1, whatever it holds from its minimum on.
abbrev pub RegisterBack : ℕ → ℕ → ℕ → Type 0
RegisterBack k q s = (x : ℕ) → x < 2 ^ 32 → 2 ^ (32 - k) ≤ x → Back (2 ^ k - 1) (step k q s) x

-- Two streams that draw the same numbers from now on. Equal streams do, and so do those that differ only in bits that no draw reads.
abbrev pub SameDraws : Stream → Stream → Type 0
SameDraws u v = (i : ℕ) → draw_at u (suc i) ≡ draw_at v (suc i)

-- Two records apart: their streams a do not draw the same numbers, nor do their streams b. Of a of the one and b of the other nothing is said.
abbrev pub Apart : Generator → Generator → Type 0
Apart g h = (SameDraws g.a h.a → ⊥) × (SameDraws g.b h.b → ⊥)

-- Two runs of calls on one record leave equal streams where they handed out or skipped equally many pairs, and only there.
pub record OnePlace (g : Generator) (l m : List Call) : Type 0 where
  pub equal : sum_over handed l g ≡ sum_over handed m g → ((run l g).a ≡ (run m g).a) × ((run l g).b ≡ (run m g).b)
  pub only_a : SameDraws (run l g).a (run m g).a → sum_over handed l g ≡ sum_over handed m g
  pub only_b : SameDraws (run l g).b (run m g).b → sum_over handed l g ≡ sum_over handed m g

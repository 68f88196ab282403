-- What the period is, as theorems: the records below have proofs in proofs/Theorems.antt.
use Rattle.std.specs.Prelude.{◌≡◌, List, ◌↔◌, ℕ, suc, ◌+◌, ◌-◌, ◌%◌, ◌^◌, ◌≤◌, ◌<◌}
use Rattle.bit_matrix.specs.Matrices.{repeat}
use Rattle.streams.specs.declared.Stream.{Stream}
use Rattle.streams.specs.declared.Generator.{Generator}
use Rattle.streams.specs.Streams.{Call, advance, after, skip_of}
use Rattle.streams.specs.Recurrence.{draw_at, seed_from, InRange, Minima, Sound}
use Rattle.noise.specs.Runs.{run, sum_over, handed}
use Rattle.period.specs.Cycle.{cycle, OfThree, Back, RegisterBack, SameDraws, Apart, OnePlace}

-- Of the streams, and of the records that skips and pairs leave.
pub record OfStreams : Type 0 where
  -- each register is back where it was just where 2^k - 1 divides the draws
  pub registers : OfThree RegisterBack
  -- a stream is, just where `cycle` divides them;
  pub stream : (u : Stream) → InRange u → Minima u → Back cycle advance u
  -- the numbers that it draws have exactly that period, from any draw t + 1 on
  pub draws : (u : Stream) → InRange u → Minima u → (t n : ℕ)
      → ((i : ℕ) → draw_at u (suc (t + i) + n) ≡ draw_at u (suc (t + i))) ↔ (n % cycle ≡ 0)
  -- it is nearly 2^88
  pub size : (2 ^ 88 - 2 ^ 61 < cycle) × (cycle < 2 ^ 88)
  -- no two places less than `cycle` apart have equal streams, nor streams that draw the same numbers; place 0 is the seeds themselves
  pub places : (u : Stream) → InRange u → Minima u → (m n : ℕ) → m < n → n < m + cycle
      → SameDraws (repeat advance m u) (repeat advance n u) → ⊥
  -- two different skips of one record, both accepted and so below 2^64, leave different streams
  pub skips : (g : Generator) → InRange g.a → InRange g.b → (m n : ℕ) → (skip_of g m).code ≡ 0 → (skip_of g n).code ≡ 0
      → (m ≡ n → ⊥) → Apart (skip_of g m).next (skip_of g n).next
  -- two stretches of one record, j pairs from place m on and k from n on, that do not overlap have no stream in common: pair i + 1 of
  -- a stretch is drawn from the streams i pairs after its beginning
  pub stretches : (g : Generator) → InRange g.a → InRange g.b → (m j n k : ℕ) → m + j ≤ n → (skip_of g (n + k)).code ≡ 0
      → (i h : ℕ) → i < j → h < k → Apart (after (m + i) g) (after (n + h) g)
  -- but all fit streams lie on one cycle: two of them, differently seeded or a and b of a record, are two places on it. The first comes to
  -- the second's next draw after a number of draws below `cycle`, and by `places` after one such number only
  pub one_cycle : (u v : Stream) → InRange u → Minima u → InRange v → Minima v
      → (n : ℕ) × (n < cycle) × (repeat advance (suc n) u ≡ advance v)

-- Of runs of calls on a record, each passed what the one before returned; `Sound` records have fit streams, and any count and note.
pub record OfRuns : Type 0 where
  -- two runs on a record come to the same stream only after equally many pairs
  pub runs : (g : Generator) → Sound g → (l m : List Call) → OnePlace g l m
  -- so from seeding on, whatever calls came before
  pub from_seeding : (a b : Stream) → InRange a → InRange b → (seed_from a b).code ≡ 0
      → (before l m : List Call) → OnePlace (run before (seed_from a b).next) l m
  -- of two rigs, one sent m pairs ahead and one n, whatever both are then asked: until the first has come to n, their streams a are apart, and so are their streams b
  pub rigs : (g : Generator) → InRange g.a → InRange g.b → (m n : ℕ) → (skip_of g m).code ≡ 0 → (skip_of g n).code ≡ 0
      → (l l' : List Call) → m + sum_over handed l (skip_of g m).next < n → Apart (run l (skip_of g m).next) (run l' (skip_of g n).next)
  -- seeds that are the same for a and b make the two streams equal, for good
  pub equal_seeds : (a : Stream) → InRange a → (seed_from a a).code ≡ 0
      → (l : List Call) → (run l (seed_from a a).next).a ≡ (run l (seed_from a a).next).b

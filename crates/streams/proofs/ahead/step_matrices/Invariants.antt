-- `step_matrices`: the first j columns are the step at the first j unit words.
use Rattle.std.proofs.Common.{◌≡◌, List, ◌++◌, map, ℕ, length, take, drop}
use Rattle.streams.specs.Streams.{step}
use Rattle.streams.proofs.ahead.step_matrices.Given as goal

-- with the step at each of the other words, the columns are the step at every word
pub record Stepped (f : ℕ → ℕ) (j : ℕ) (words columns : List ℕ) : Type 0 where
  pub size : length columns ≡ length words
  pub done : take j columns ++ map f (drop j words) ≡ map f words

abbrev pub invariant-loop-j : goal.invariant-loop-j
invariant-loop-j l = Stepped (step 31 13 12) l.j l.word-items l.s0 × Stepped (step 29 2 4) l.j l.word-items l.s1 × Stepped (step 28 3 17) l.j l.word-items l.s2

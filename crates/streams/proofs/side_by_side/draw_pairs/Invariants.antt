-- `draw_pairs` leaves the words of as many pairs as there is room for. The loop has drawn i of them.
use Rattle.std.proofs.Common.{◌≡◌, List, ℕ, length, take}
use Rattle.streams.specs.declared.Lanes.{Lanes}
use Rattle.streams.specs.Lanes.{upper, lower, words, LanesAfter}
use Rattle.streams.proofs.side_by_side.draw_pairs.Given as goal

-- i pairs are drawn
pub record Reached (z₀ : List ℕ) (start : Lanes) (z : List ℕ) (state : Lanes) (i : ℕ) : Type 0 where
  pub kept : length z ≡ length z₀
  pub now_at : LanesAfter i start state
  pub done : take i z ≡ words i (upper start) (lower start)

abbrev pub invariant-loop-word : goal.invariant-loop-word
invariant-loop-word l = Reached l.initial.z l.initial.state l.z l.state l.word-index

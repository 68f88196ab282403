-- The samples of many pairs in the caller's memory, from two streams side by side.
use Rattle.std.specs.Prelude.{List, ◌≡◌, ℕ, ◌/◌, ◌%◌, ℤ, length}
use Rattle.streams.specs.declared.Lanes.{Lanes}
use Rattle.streams.specs.Lanes.{upper, lower, words, LanesAfter}
use Rattle.sample.specs.Samples.{samples_at}

-- n pairs are drawn: both streams are n steps on, and the memory holds the samples of the pairs' words at f fraction bits.
pub record LanesDrawn (f n : ℕ) (u next : Lanes) (out : List ℤ) : Type 0 where
  pub now_at : LanesAfter n u next
  pub written : out ≡ samples_at f (words n (upper u) (lower u))

-- As many pairs are drawn as memory of even length has room for. Where its length is odd none is, and the memory stays.
pub record Filled (f : ℕ) (u next : Lanes) (old new : List ℤ) : Type 0 where
  pub even : length old % 2 ≡ 0 → LanesDrawn f (length old / 2) u next new
  pub odd : (length old % 2 ≡ 0 → ⊥) → (next ≡ u) × (new ≡ old)

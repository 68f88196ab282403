-- How far a signed sine or cosine at 2^30 is from its exact value.
use Rattle.std.specs.Prelude.{◌≡◌, ℕ, ◌+◌, ◌-◌, ◌^◌, ◌≤◌, ℤ, pos}
use Rattle.exact.specs.Fraction.{dyadic, ◌≤ᶠ◌}
use Rattle.exact.specs.Pair.{Enclosure, along}

-- G at 2^30 has the enclosure's sign and is less than 3 units from each of its points
pub record Member (G : ℤ) (e : Enclosure) : Type 0 where
  pub size : ℕ
  pub value : along e.negative G ≡ pos size
  pub most : size ≤ 2 ^ 30
  pub low : dyadic 30 (size - 3) ≤ᶠ e.low
  pub high : e.high ≤ᶠ dyadic 30 (size + 3)

-- For private functions; no public contract cites these.
use Rattle.std.specs.Prelude.{List, ◌≡◌, ℕ, ℤ}
use Rattle.streams.specs.declared.Generator.{Generator}
use Rattle.streams.specs.Streams.{after}
use Rattle.noise.specs.Noise.{samples}

-- n pairs are drawn from a record: the record returned is n pairs on, and the memory holds their samples.
abbrev pub PairsDrawn : (f n : ℕ) → Generator → Generator → List ℤ → Type 0
PairsDrawn f n g next out = (next ≡ after n g) × (out ≡ samples f n g)

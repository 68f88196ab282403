-- How two ends stand in the caller's memory: east low, east high, north low, north high.
use Rattle.std.specs.Prelude.{List, [], ◌∷◌, ℤ}
use Rattle.misclosure.specs.declared.Ends.{Ends}

abbrev pub four_of : Ends → Ends → List ℤ
four_of east north = east.low ∷ east.high ∷ north.low ∷ north.high ∷ []

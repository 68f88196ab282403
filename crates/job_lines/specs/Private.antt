-- For private functions; no public contract cites these.
use Rattle.std.specs.Prelude.{◌≡◌, Option, Some, None, List, get_or}
use Rattle.text.specs.Forms.{no_place}
use Rattle.text.specs.declared.field.Place.{Place}
use Rattle.job_lines.specs.declared.Line.{Line}
use Rattle.job_lines.specs.declared.Line.TheVariants.{Seeds, Sigma, Shot}

-- the names of a shot stand at the first two of these places
abbrev pub NamesAt : List Place → Option Line → Type 0
NamesAt places (Some (Seeds s)) = Unit {0}
NamesAt places (Some (Sigma s)) = Unit {0}
NamesAt places (Some (Shot s)) = (s.from ≡ get_or places 0 no_place) × (s.to ≡ get_or places 1 no_place)
NamesAt places None = Unit {0}

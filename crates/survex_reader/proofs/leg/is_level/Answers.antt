-- `survex_reader::leg::is_level` meets its contract.
use Rattle.std.proofs.Common.{◌∙◌}
use Rattle.survex_reader.proofs.Legs.{level_same}
use Rattle.survex_reader.proofs.leg.is_level.Goals as goal

pub returns : goal.returns
returns c = c.eq.ensures ∙ level_same _ _ c.as_slice.ensures

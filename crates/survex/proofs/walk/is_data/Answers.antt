-- `survex::walk::is_data` meets its contract.
use Rattle.std.proofs.Common.{◌∙◌}
use Rattle.survex.specs.Survex.{data_form}
use Rattle.survex.proofs.Walks.{data_same}
use Rattle.survex.proofs.walk.is_data.Goals as goal

pub returns : goal.returns
unfolding data_form
returns c = c.eq.ensures ∙ data_same _ _ c.as_slice.ensures

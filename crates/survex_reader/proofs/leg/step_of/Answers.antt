-- `survex_reader::leg::step_of` meets its contract.
use Rattle.std.proofs.Common.{refl}
use Rattle.survex_reader.specs.Legs.{step_of}
use Rattle.survex_reader.proofs.leg.step_of.Goals as goal

pub returns : goal.returns
unfolding step_of
returns c = refl

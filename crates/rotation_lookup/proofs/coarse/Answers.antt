-- `rotation_lookup::coarse` meets its contract: the two halves of a row.
use Rattle.rotation_lookup.proofs.Halves.{coarse}
use Rattle.rotation_lookup.proofs.coarse.Goals as goal

pub returns : goal.returns
returns c = coarse _ _ c.nth_coarse-cosine.ensures

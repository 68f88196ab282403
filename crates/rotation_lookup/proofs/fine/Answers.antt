-- `rotation_lookup::fine` meets its contract: the two halves of a row.
use Rattle.rotation_lookup.proofs.Halves.{fine}
use Rattle.rotation_lookup.proofs.fine.Goals as goal

pub returns : goal.returns
returns c = fine _ _ c.nth_fine-cosine.ensures

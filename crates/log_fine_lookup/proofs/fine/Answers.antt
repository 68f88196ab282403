-- `log_fine_lookup::fine` meets its contract: the table is the list.
use Rattle.tables.specs.Tables.{log_fine_is}
use Rattle.log_fine_lookup.proofs.fine.Goals as goal

pub returns : goal.returns
returns c = rw log_fine_is c.nth.ensures

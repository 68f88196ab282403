-- `log_fine_lookup::past` meets its contract: a number that is none of the keys is beyond them.
use mathlib.Core.Path.{sym}
use lib.ListN.{get_or-eq_default}
use Rattle.tables.specs.Values.{log_fine_list}
use Rattle.tables.proofs.Arms.{no_key_le}
use Rattle.log_fine_lookup.proofs.past.Goals as goal

pub returns : goal.returns
returns c = sym (get_or-eq_default log_fine_list 0xffffffff (no_key_le _ _ c.requires))

-- `log_coarse_lookup::past` meets its contract: a number that is none of the keys is before or past them.
use mathlib.Core.Path.{refl}
use Rattle.log_coarse_lookup.specs.Private.{rows}
use Rattle.log_coarse_lookup.proofs.After.{no_key_is}
use Rattle.log_coarse_lookup.proofs.past.Goals as goal

pub returns : goal.returns
returns c = no_key_is rows _ refl c.requires

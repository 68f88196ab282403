-- `rotation_lookup::past` meets its contract: a number that is none of the keys is beyond them.
use Rattle.std.proofs.Common.{sym}
use lib.ListN.{get_or-eq_default}
use Rattle.tables.specs.Values.{cos_coarse_list, sin_coarse_list, cos_fine_list, sin_fine_list}
use Rattle.tables.specs.Private.{beside}
use Rattle.tables.proofs.Arms.{no_key_le}
use Rattle.rotation_lookup.proofs.past.Goals as goal

pub returns : goal.returns
returns c = record {
  coarse = sym (get_or-eq_default (beside 32 cos_coarse_list sin_coarse_list) 0 (no_key_le _ _ c.requires));
  fine = sym (get_or-eq_default (beside 32 cos_fine_list sin_fine_list) 0 (no_key_le _ _ c.requires));
}

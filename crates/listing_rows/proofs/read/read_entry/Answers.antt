-- `read_entry` meets its contract.
use Rattle.std.proofs.Common.{sym, ◌∙◌}
use Rattle.listing_rows.proofs.Reading.{row_is, row_other}
use Rattle.listing_rows.proofs.read.read_entry.Goals as goal

pub returns-in-Some : goal.returns-in-Some
returns-in-Some c = c.shot_entry.ensures ∙ sym (row_is _ _ _ c.row_places.ensures _ c.in-Some.is)

pub returns : goal.returns
returns c = c.end_entry.ensures ∙ sym (row_other _ _ _ c.row_places.ensures c.in_default.is)

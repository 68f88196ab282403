-- `listing_rows::write::put_header` meets its contract.
use Rattle.listing_rows.specs.Rows.{header}
use Rattle.listing_rows.proofs.write.put_header.Goals as goal

pub returns : goal.returns
unfolding header
returns c = c.put.ensures

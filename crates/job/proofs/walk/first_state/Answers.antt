-- `job::walk::first_state` meets its contract.
use Rattle.listing_rows.proofs.Rows.{header_length}
use Rattle.job.proofs.walk.first_state.Goals as goal

pub returns : goal.returns
returns c = rw (c.first_progress-read.ensures, header_length)

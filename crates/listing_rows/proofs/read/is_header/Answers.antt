-- `is_header` meets its contract.
use Rattle.std.proofs.Common.{true, false, ◌∙◌}
use Rattle.listing_rows.specs.Rows.{header, header_of}
use Rattle.listing_rows.proofs.RoundTrip.{header_same}
use Rattle.listing_rows.proofs.read.is_header.Goals as goal

pub returns-in-OneDistance : goal.returns-in-OneDistance
unfolding header header_of
returns-in-OneDistance c = rw c.in-OneDistance.is (c.eq.ensures ∙ header_same false _ _ c.as_slice.ensures)

pub returns-in-TwoReadings : goal.returns-in-TwoReadings
unfolding header_of
returns-in-TwoReadings c = rw c.in-TwoReadings.is (c.eq-in-TwoReadings.ensures ∙ header_same true _ _ c.as_slice-in-TwoReadings.ensures)

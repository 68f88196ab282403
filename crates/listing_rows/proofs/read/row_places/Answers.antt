-- `row_places` meets its contract.
use Rattle.listing_rows.specs.Rows.{row_form}
use Rattle.listing_rows.proofs.Reading.{not_of_one, row_of_one, not_of_two, row_of_two}
use Rattle.listing_rows.proofs.read.row_places.Goals as goal

pub returns-in_default : goal.returns-in_default
unfolding row_form
returns-in_default c = rw c.in-OneDistance.is (not_of_one _ _ c.read_form.ensures.exact c.in_default.not-Ok)

pub returns-in-Ok : goal.returns-in-Ok
unfolding row_form
returns-in-Ok c = rw c.in-OneDistance.is (row_of_one _ _ c.read_form.ensures.exact _ c.in-Ok.is)

pub returns-in_default-read_form : goal.returns-in_default-read_form
unfolding row_form
returns-in_default-read_form c =
    rw c.in-TwoReadings.is (not_of_two _ _ c.read_form-in-TwoReadings.ensures.exact c.in_default-read_form.not-Ok)

pub returns-in-Ok-read_form : goal.returns-in-Ok-read_form
unfolding row_form
returns-in-Ok-read_form c =
    rw c.in-TwoReadings.is (row_of_two _ _ c.read_form-in-TwoReadings.ensures.exact _ c.in-Ok-read_form.is)

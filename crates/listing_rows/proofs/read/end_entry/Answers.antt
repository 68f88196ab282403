-- `end_entry` meets its contract.
use Rattle.listing_rows.specs.Rows.{end_form}
use Rattle.listing_rows.proofs.Reading.{end_not, end_uncounted, end_counted}
use Rattle.listing_rows.proofs.read.end_entry.Goals as goal

pub returns-in_default : goal.returns-in_default
unfolding end_form
returns-in_default c = end_not _ _ c.read_form.ensures.exact c.in_default.not-Ok

pub returns-in_err-count : goal.returns-in_err-count
unfolding end_form
returns-in_err-count c =
    rw c.from_residual.ensures
    (end_uncounted _ _ c.read_form.ensures.exact _ c.in-Ok.is _ c.digit_string_at.ensures c.in_err-count.was)

pub returns : goal.returns
unfolding end_form
returns c = end_counted _ _ c.read_form.ensures.exact _ c.in-Ok.is _ c.digit_string_at.ensures _ c.in_ok-count.was

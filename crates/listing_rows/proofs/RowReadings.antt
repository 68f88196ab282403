-- The readings of specs/RowReadings.antt, computed.
use mathlib.Core.Path.{refl}
use Rattle.text.specs.Fields.{decimal_by, decimal}
use Rattle.text.specs.Forms.{print_form}
use Rattle.listing_rows.specs.Rows.{header, row_form, end_form, shot_row, end_row, refused_row}
use Rattle.listing_rows.specs.RowReadings.{TextReadings}

pub text_readings : TextReadings
unfolding decimal_by decimal print_form header row_form end_form shot_row end_row refused_row
text_readings = record { rows = refl }

-- The readings of specs/EntryReadings.antt, computed.
use mathlib.Core.Path.{refl}
use Rattle.text.specs.Scan.{one_of, up_to}
use Rattle.text.specs.Fields.{all, digit, letter, letter_or_digit, name, digit_string, value}
use Rattle.text.specs.Forms.{starts_with, is_empty, read_form}
use Rattle.listing_rows.specs.Rows.{header, header_of, row_form, end_form}
use Rattle.listing_rows.specs.Entries.{is_some, is_header, high_at, leg_of, end_of, read_entry}
use Rattle.listing_rows.specs.EntryReadings.{TextReadings}

pub text_readings : TextReadings
unfolding one_of up_to all digit letter letter_or_digit name digit_string value starts_with is_empty read_form
    header is_some header_of is_header row_form end_form high_at leg_of end_of read_entry
text_readings = record { headers_of_one = refl; headers_of_two = refl; entries_of_one = refl; entries_of_two = refl }

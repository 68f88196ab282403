-- The readings of specs/TextReadings.antt, computed.
use mathlib.Core.Path.{refl}
use Rattle.text.specs.Scan.{one_of, up_to, before, lines}
use Rattle.text.specs.Fields.{all, digit, letter, letter_or_digit, name, digit_string, value, same}
use Rattle.text.specs.Forms.{starts_with, is_empty, read_form}
use Rattle.listing_rows.specs.Rows.{header, header_of, row_form, end_form}
use Rattle.listing_rows.specs.Entries.{is_some, is_header, high_at, leg_of, end_of, read_entry}
use Rattle.job_lines.specs.Links.{follows, station_code}
use Rattle.misclosure.specs.Misclosure.{beyond, refusal, no_lines, outcome, headed, listing_of, miss_of, headed_between, is_between}
use Rattle.misclosure.specs.TextReadings.{TextReadings}

pub text_readings : TextReadings
unfolding one_of up_to before lines all digit letter letter_or_digit name digit_string value same starts_with is_empty read_form
    header is_some header_of is_header row_form end_form high_at leg_of end_of read_entry
    beyond follows station_code refusal no_lines outcome headed listing_of miss_of headed_between is_between
text_readings = record { ones = refl; twos = refl; told = refl; kinds = refl }

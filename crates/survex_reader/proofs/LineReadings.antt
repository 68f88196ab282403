-- The readings of specs/LineReadings.antt, computed.
use mathlib.Core.Path.{refl}
use Rattle.text.specs.Scan.{one_of, up_to}
use Rattle.text.specs.Forms.{is_empty}
use Rattle.survex_reader.specs.Lines.{uncommented, blanks_before, trim_start, trim_end, left_of, fed, remains}
use Rattle.survex_reader.specs.LineReadings.{TextReadings}

pub text_readings : TextReadings
unfolding one_of up_to is_empty uncommented blanks_before trim_start trim_end left_of fed remains
text_readings = record { left = refl; fed = refl; remains = refl }

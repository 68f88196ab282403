-- The readings of specs/LegReadings.antt, computed.
use mathlib.Core.Path.{refl}
use Rattle.text.specs.Scan.{one_of, up_to, before}
use Rattle.text.specs.Fields.{all, digit, letter, letter_or_digit, name, value}
use Rattle.survex_reader.specs.Legs.{starts_word, words, is_decimal, scaled, step_of, level, leg_form, leg_range, read_leg}
use Rattle.survex_reader.specs.LegReadings.{TextReadings}

pub text_readings : TextReadings
unfolding one_of up_to before all digit letter letter_or_digit name value starts_word words is_decimal scaled step_of level leg_form leg_range read_leg
text_readings = record { legs = refl }

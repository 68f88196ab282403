-- The readings of specs/TextReadings.antt, computed.
use mathlib.Core.Path.{refl}
use Rattle.text.specs.Fields.{all, digit, letter, letter_or_digit, name, digit_string}
use Rattle.text.specs.TextReadings.{TextReadings}

pub text_readings : TextReadings
unfolding all digit letter letter_or_digit name digit_string
text_readings = record { names = refl; numbers = refl }

-- The readings of specs/TextReadings.antt, computed.
use mathlib.Core.Path.{refl}
use Rattle.text.specs.Scan.{one_of, up_to}
use Rattle.text.specs.Fields.{all, digit, letter, letter_or_digit, name, digit_string, value, decimal_by, decimal}
use Rattle.text.specs.Forms.{starts_with, is_empty, read_form, print_form}
use Rattle.job_lines.specs.Forms.{seeds_form, sigma_form, shot_form, seeds_of, sigma_of, shot_of, read_line, print_line}
use Rattle.job_lines.specs.TextReadings.{TextReadings}

pub text_readings : TextReadings
unfolding one_of up_to all digit letter letter_or_digit name digit_string value decimal_by decimal starts_with is_empty read_form print_form
    seeds_form sigma_form shot_form seeds_of sigma_of shot_of read_line print_line
text_readings = record { forms = refl; no_forms = refl; printed = refl }

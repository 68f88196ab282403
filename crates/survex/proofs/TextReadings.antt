-- The readings of specs/TextReadings.antt, computed.
use mathlib.Core.Path.{refl}
use Rattle.text.specs.Scan.{one_of, up_to, before, lines}
use Rattle.text.specs.Fields.{all, digit, letter, letter_or_digit, name, value, decimal_by, decimal}
use Rattle.text.specs.Forms.{starts_with, is_empty, read_form, print_form}
use Rattle.job_lines.specs.Forms.{shot_form, print_line}
use Rattle.survex_reader.specs.Lines.{uncommented, blanks_before, trim_start, trim_end, left_of, fed, remains}
use Rattle.survex_reader.specs.Legs.{starts_word, words, is_decimal, scaled, step_of, level, leg_form, leg_range, read_leg}
use Rattle.survex.specs.Survex.{data_form, is_data, leg_line, legs_from, survex_from, survex_of}
use Rattle.survex.specs.TextReadings.{TextReadings}

pub text_readings : TextReadings
unfolding one_of up_to before lines all digit letter letter_or_digit name value decimal_by decimal starts_with is_empty read_form print_form
    shot_form print_line uncommented blanks_before trim_start trim_end left_of fed remains starts_word words is_decimal scaled step_of level leg_form leg_range
    read_leg data_form is_data leg_line legs_from survex_from survex_of
text_readings = record { texts = refl }

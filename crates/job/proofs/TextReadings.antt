-- The readings of specs/TextReadings.antt, computed; the samples of the example's two pairs are readings of box_muller.
use mathlib.Core.Path.{◌≡◌, refl}
use mathlib.Core.List.{map}
use Rattle.text.specs.Ascii.{ascii}
use Rattle.box_muller.proofs.Readings.{the_readings}
use Rattle.streams.specs.Streams.{step, advance, output, fit, record_code, open_code, count_code, note_code, own_code, room_code, code_of, seed_of, uniforms_of}
use Rattle.noise.specs.Noise.{pair_of}
use Rattle.text.specs.Scan.{one_of, up_to, before, lines}
use Rattle.text.specs.Fields.{all, digit, letter, letter_or_digit, name, digit_string, value, decimal_by, decimal}
use Rattle.text.specs.Forms.{starts_with, is_empty, read_form, print_form}
use Rattle.job_lines.specs.Forms.{seeds_form, sigma_form, shot_form, seeds_of, sigma_of, shot_of, read_line}
use Rattle.job_reader.specs.Refusals.{formless, misplaced, too_many, beyond, seed_code, refusal}
use Rattle.job_reader.specs.Setting.{start, setting_on}
use Rattle.noisy_shot.specs.Rounding.{noise_size, noisy_distance, noisy_bearing}
use Rattle.listing_rows.specs.Rows.{header, row_form, end_form, shot_row, end_row, refused_row}
use Rattle.job.specs.Job.{setting_after, printed, outcome, listing_of, job_of, answer_of, buffer_after, output_of, noisy_row}
use Rattle.job.specs.TextReadings.{RowReading, row_readings, example_job, example_listing, TextReadings}

example : output_of (job_of example_job) 20480 ≡ example_listing
unfolding one_of up_to before lines all digit letter letter_or_digit name digit_string value decimal_by decimal starts_with is_empty read_form print_form
    seeds_form sigma_form shot_form seeds_of sigma_of shot_of read_line formless misplaced too_many beyond seed_code refusal fit record_code seed_of start setting_on
    header end_form end_row refused_row setting_after printed outcome listing_of job_of output_of noise_size noisy_distance noisy_bearing row_form shot_row noisy_row pair_of
    step advance output open_code count_code note_code own_code room_code code_of uniforms_of
example = rw (the_readings.example_first, the_readings.example_second) refl

rows : map (λ (r : RowReading). r.row) row_readings ≡ map (λ (r : RowReading). ascii r.is) row_readings
unfolding decimal_by decimal print_form noise_size noisy_distance noisy_bearing row_form shot_row noisy_row
rows = refl

pub text_readings : TextReadings
unfolding one_of up_to before lines all digit letter letter_or_digit name digit_string value decimal_by decimal starts_with is_empty read_form print_form
    seeds_form sigma_form shot_form seeds_of sigma_of shot_of read_line formless misplaced too_many beyond seed_code refusal fit record_code seed_of start setting_on
    header end_form end_row refused_row setting_after printed outcome listing_of job_of answer_of buffer_after output_of
text_readings = record { rows = rows; jobs = refl; answers = refl; too_long = refl; buffers = refl; example = example }

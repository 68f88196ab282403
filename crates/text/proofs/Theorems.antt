-- The theorems of specs/Theorems.antt.
use Rattle.text.specs.Theorems.{Theorems}
use Rattle.text.proofs.Decimal.{digit_string_decimal, value_decimal, decimal_value, decimal_head}
use Rattle.text.proofs.Forms.{read_printed, printed_read}
use Rattle.text.proofs.Steps.{places_found, all_found, places_hold, found_there, all_there, told, one_each}
use Rattle.text.proofs.Split.{line_first, line_last, join_lines}

pub theorems : Theorems
theorems = record {
  numbers = λ n h. (digit_string_decimal n h, value_decimal n);
  digits = decimal_value;
  no_leading_zero = decimal_head;
  read_printed = read_printed;
  printed_read = printed_read;
  places = places_found;
  all_places = all_found;
  places_hold = places_hold;
  found = found_there;
  found_all = all_there;
  fields = told;
  count = λ form line. one_each form 0 line;
  line_first = line_first;
  line_last = line_last;
  lines_whole = join_lines;
}

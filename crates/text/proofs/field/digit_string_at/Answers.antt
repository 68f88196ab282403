-- `text::field::digit_string_at` meets its contract.
use Rattle.text.proofs.field.digit_string_at.Goals as goal

pub returns : goal.returns
returns c = rw (← c.part.ensures) c.digit_string_of.ensures

pub part-requires : goal.part-requires
part-requires c = tt

pub digit_string_of-requires : goal.digit_string_of-requires
digit_string_of-requires c = tt

-- `text::field::digits_value` meets its contract.
use Rattle.std.proofs.Common.{le-leb}
use borrow.Author.Tests.{lt-leb}
use Rattle.text.specs.Fields.{few_digits}
use Rattle.text.proofs.field.digits_value.Goals as goal

pub returns-then-part-gt-MOST_DIGITS : goal.returns-then-part-gt-MOST_DIGITS
unfolding few_digits
returns-then-part-gt-MOST_DIGITS c = rw (lt-leb _ _ c.if-part-gt-MOST_DIGITS.true)

pub returns : goal.returns
unfolding few_digits
returns c = rw (le-leb _ _ c.if-part-gt-MOST_DIGITS.false) c.spelled.ensures

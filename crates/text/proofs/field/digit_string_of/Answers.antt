-- `text::field::digit_string_of` meets its contract.
use Rattle.std.proofs.Common.{sym, ◌∙◌}
use Rattle.text.proofs.Scan.{digit_string_none, digit_string_zero, digit_string_few}
use Rattle.text.proofs.field.digit_string_of.Goals as goal

pub returns-then-is_empty : goal.returns-then-is_empty
returns-then-is_empty c = rw (← digit_string_none _ (sym c.is_empty.ensures ∙ c.if-is_empty.true))

pub returns-then-part-eq1 : goal.returns-then-part-eq1
returns-then-part-eq1 c =
    rw (← digit_string_few c.args.part.now (sym c.is_empty.ensures ∙ c.if-is_empty.false) (λ h. absurd (h c.if-part-eq1.true))) c.digits_value.ensures

pub returns-then-part-eq48 : goal.returns-then-part-eq48
returns-then-part-eq48 c = rw (← digit_string_zero _ c.if-part-eq1.false c.if-part-eq48.true)

pub returns : goal.returns
returns c =
    rw (← digit_string_few c.args.part.now (sym c.is_empty.ensures ∙ c.if-is_empty.false) (λ h. c.if-part-eq48.false)) c.digits_value-2.ensures

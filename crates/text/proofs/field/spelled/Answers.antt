-- `text::field::spelled` meets its contract.
use Rattle.std.proofs.Common.{◌-◌, arith, sym, ◌∙◌, get_or}
use Rattle.text.proofs.Decimal.{digit_range}
use Rattle.text.specs.Fields.{digit}
use Rattle.text.proofs.Scan.{all_stop, all_step, all_end, value_ahead, value_end, digits_below}
use Rattle.text.proofs.field.spelled.Goals as goal

pub returns-then-not-is_ascii_digit : goal.returns-then-not-is_ascii_digit
unfolding digit
returns-then-not-is_ascii_digit c =
    rw (← all_stop digit _ c.loop-b.b-index c.loop-b.invariant.0 c.loop-b-test.true (sym c.is_ascii_digit.ensures.value ∙ c.if-not-is_ascii_digit.true))

pub loop-b-preserved : goal.loop-b-preserved
unfolding digit
loop-b-preserved c =
    let i = c.loop-b.b-index in
    let b = get_or c.args.part.now i 0 in
    let d = sym c.is_ascii_digit.ensures.value ∙ c.if-not-is_ascii_digit.false in
    let r = digit_range b d in (
      all_step digit _ i c.loop-b.invariant.0 c.loop-b-test.true d,
      c.loop-b.invariant.1 ∙ value_ahead _ i c.loop-b.value c.loop-b-test.true,
      (digits_below i c.loop-b.value (b - 48) (omega (arith, c.requires)) c.loop-b.invariant.2 (omega (arith, r.1))).0,
    )

pub returns : goal.returns
returns c =
    rw (← all_end digit _ c.loop-b.b-index c.loop-b.invariant.0 c.loop-b-test.false, c.loop-b.invariant.1, value_end _ c.loop-b.b-index c.loop-b.value c.loop-b-test.false)

-- `text::buffer::digits_of` meets its contract.
use Rattle.std.proofs.Common.{◌/◌, arith, refl, sym, ◌∙◌, append-nil, length-set}
use Rattle.text.proofs.Decimal.{decimal_length, decimal_some}
use Rattle.text.proofs.Writing.{digit_step, digit_last, length_more}
use Rattle.text.proofs.buffer.digits_of.Goals as goal

pub loop-rest-init : goal.loop-rest-init
loop-rest-init c = (omega arith, refl, decimal_length 19 _ (omega arith), sym (append-nil _))

pub overflow_sub-from : goal.overflow_sub-from
overflow_sub-from c = omega (arith, length_more c.loop-rest.rest c.loop-rest-test.true, decimal_some (c.loop-rest.rest / 10))

pub loop-rest-preserved : goal.loop-rest-preserved
loop-rest-preserved c =
    let at = c in
    let l = length_more at.loop-rest.rest c.loop-rest-test.true in
    let s = decimal_some (at.loop-rest.rest / 10) in (
      omega arith,
      length-set at.loop-rest.bytes _ _ ∙ at.loop-rest.invariant.1,
      omega arith,
      digit_step _ at.loop-rest.rest at.loop-rest.from at.loop-rest.bytes at.loop-rest.invariant.1 at.loop-rest.invariant.0
          at.loop-rest.invariant.3 (omega arith) c.loop-rest-test.true,
    )

pub overflow_sub-from-2 : goal.overflow_sub-from-2
overflow_sub-from-2 c = omega (arith, decimal_some c.loop-rest.rest)

pub returns : goal.returns
returns c =
    let at = c in
    let s = decimal_some at.loop-rest.rest in
    record {
      digits = digit_last _ at.loop-rest.rest at.loop-rest.from at.loop-rest.bytes at.loop-rest.invariant.1 at.loop-rest.invariant.0
          at.loop-rest.invariant.3 (omega arith) (omega arith);
      size = length-set at.loop-rest.bytes _ _ ∙ at.loop-rest.invariant.1;
    }

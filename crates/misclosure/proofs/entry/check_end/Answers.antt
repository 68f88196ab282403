-- `check_end` is `refusal` of an end.
use Rattle.std.proofs.Common.{arith, sym}
use Rattle.misclosure.proofs.Lines.{last_0, last_6}
use Rattle.misclosure.proofs.entry.check_end.Goals as goal

pub returns-then-count-line : goal.returns-then-count-line
returns-then-count-line c = sym (last_0 _ _ _ (omega (arith, c.if-count-line.true)))

pub returns-else-count-line : goal.returns-else-count-line
returns-else-count-line c = sym (last_6 _ _ _ (λ e. c.if-count-line.false (omega (arith, e))))

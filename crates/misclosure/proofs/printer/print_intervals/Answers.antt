-- `print_intervals` writes the lowest and the highest sums in millimetres, or the one line of a refused listing.
use Rattle.misclosure.proofs.Printed.{intervals_sums, intervals_refused}
use Rattle.misclosure.proofs.printer.print_intervals.Goals as goal

pub returns-then-sums-eq0 : goal.returns-then-sums-eq0
returns-then-sums-eq0 c =
    let sums = c.intervals-sums in
    rw (← sums.ensures, intervals_sums sums.result c.if-sums-eq0.true) c.put_intervals.ensures

pub returns : goal.returns
returns c =
    let sums = c.intervals-sums in
    rw (← sums.ensures, intervals_refused sums.result c.if-sums-eq0.false) c.put_refused.ensures

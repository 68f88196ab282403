-- `put_intervals` writes `interval_rows`, row by row.
use Rattle.std.proofs.Common.{rules, refl}
use Rattle.text.proofs.Writing.{then_writes, writer_puts}
use Rattle.misclosure.specs.Output.{interval_rows}
use Rattle.misclosure.proofs.printer.put_intervals.Goals as goal

pub returns : goal.returns
unfolding interval_rows
returns c =
    let puts = writer_puts c.new-writer.ensures.unwritten (then_writes c.put_ends.ensures c.put_ends-2.ensures) refl in
    (puts.0, search (rules, puts.1))

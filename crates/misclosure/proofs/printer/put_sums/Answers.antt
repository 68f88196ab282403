-- `put_sums` writes `sum_rows`, field by field.
use Rattle.std.proofs.Common.{rules, to_z-of_z}
use Rattle.text.proofs.Writing.{then_writes, writer_puts}
use Rattle.misclosure.proofs.Printed.{sum_parts}
use Rattle.misclosure.proofs.printer.put_sums.Goals as goal

pub returns : goal.returns
returns c =
    let east = rw (to_z-of_z c.ranges.east) at c.put_signed.ensures in
    let north = rw (to_z-of_z c.ranges.north) at c.put_signed-2.ensures in
    let all = then_writes (then_writes (then_writes c.put_field.ensures east) c.put_field-2.ensures) north in
    let puts = writer_puts c.new-writer.ensures.unwritten all (sum_parts c.args.east c.args.north) in
    (puts.0, search (rules, puts.1))

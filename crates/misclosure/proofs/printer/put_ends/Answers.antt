-- `put_ends` writes `ends_row`, field by field.
use Rattle.std.proofs.Common.{rules, w64, SFits, to_z-of_z}
use Rattle.text.proofs.Writing.{then_writes}
use Rattle.misclosure.proofs.Printed.{ends_parts}
use Rattle.misclosure.proofs.printer.put_ends.Goals as goal

pub returns : goal.returns
returns c =
    let e = c.args.e in
    let low_fits : SFits w64 e.low = search rules in
    let high_fits : SFits w64 e.high = search rules in
    let low = rw (to_z-of_z low_fits) at c.put_signed.ensures in
    let high = rw (to_z-of_z high_fits) at c.put_signed-2.ensures in
    rw (← ends_parts c.args.name.now e) (then_writes (then_writes c.put_field.ensures low) high)

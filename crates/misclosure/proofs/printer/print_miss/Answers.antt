-- `print_miss` writes the sums in millimetres, or the one line of a refused listing.
use Rattle.std.proofs.Common.{rules, w64, SFits, to_z-of_z}
use Rattle.misclosure.proofs.Printed.{miss_sums, miss_refused}
use Rattle.misclosure.proofs.printer.print_miss.Goals as goal

pub returns-then-miss-eq0 : goal.returns-then-miss-eq0
returns-then-miss-eq0 c =
    let miss = c.misclosure-miss in
    let m = miss.result in
    let east : SFits w64 m.easting = search rules in
    let north : SFits w64 m.northing = search rules in
    rw (← miss.ensures, miss_sums m c.if-miss-eq0.true) (rw (to_z-of_z east, to_z-of_z north) at c.put_sums.ensures)

pub returns : goal.returns
returns c =
    let miss = c.misclosure-miss in
    rw (← miss.ensures, miss_refused miss.result c.if-miss-eq0.false) c.put_refused.ensures

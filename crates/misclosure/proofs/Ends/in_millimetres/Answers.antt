-- `Ends::in_millimetres` meets its contract.
use Rattle.std.proofs.Common.{ap₂, ℤ}
use Rattle.misclosure.proofs.Machine.{rounded_reads}
use Rattle.misclosure.proofs.Ends.in_millimetres.Goals as goal

pub returns : goal.returns
returns c =
    let sums = c.args.self in
    ap₂ (λ (x y : ℤ). record { low = x; high = y })
    (rounded_reads _ sums.low c.requires.0 c.millimetres-low.ensures)
    (rounded_reads _ sums.high c.requires.1 c.millimetres-high.ensures)

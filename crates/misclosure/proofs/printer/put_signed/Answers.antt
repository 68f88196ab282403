-- `put_signed` meets its contract.
use Rattle.std.proofs.Common.{to_z-of_z}
use Rattle.text.proofs.Writing.{then_writes}
use Rattle.misclosure.proofs.SignedDecimal.{below, above}
use Rattle.misclosure.proofs.printer.put_signed.Goals as goal
use Rattle.misclosure.proofs.printer.put_signed.Goals.{then-n-lt0, else-n-lt0}

pub returns : goal.returns
returns c =
    let digits = rw (c.unsigned_abs.ensures.value, to_z-of_z c.ranges.n) at c.put_decimal.ensures in
    elim c.if-n-lt0.branch [
      | then-n-lt0 w ↦ rw (below c.args.n c.ranges.n w.if-n-lt0.true) (then_writes w.put_byte.ensures (rw w.writer-is at digits))
      | else-n-lt0 w ↦ rw (above c.args.n c.ranges.n w.if-n-lt0.false) (rw w.writer-is at digits)
    ]

-- `listing_rows::write::Row::length` meets its contract.
use Rattle.std.proofs.Common.{arith}
use Rattle.text.proofs.Decimal.{decimal_length}
use Rattle.listing_rows.proofs.Rows.{row_length}
use Rattle.listing_rows.proofs.write.Row.length.Goals as goal

pub overflow_add-decimal_length : goal.overflow_add-decimal_length
overflow_add-decimal_length c =
    let row = c.args.self.now in
    omega (arith, c.decimal_length.ensures, c.decimal_length-2.ensures, decimal_length 19 row.mm (omega arith), decimal_length 19 row.step (omega arith))

pub overflow_add-decimal_length-2 : goal.overflow_add-decimal_length-2
overflow_add-decimal_length-2 c =
    let row = c.args.self.now in
    omega (arith, c.decimal_length.ensures, c.decimal_length-2.ensures, decimal_length 19 row.mm (omega arith), decimal_length 19 row.step (omega arith))

pub returns : goal.returns
returns c =
    let row = c.args.self.now in
    omega (arith, row_length row.from.now row.to.now row.mm row.step, c.decimal_length.ensures, c.decimal_length-2.ensures, c.saturating_add.ensures, c.min.ensures)

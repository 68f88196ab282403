-- `listing_rows::write::put_refused` writes `refused_row`, field by field.
use Rattle.std.proofs.Common.{rules}
use Rattle.text.proofs.Writing.{then_writes, writer_puts}
use Rattle.listing_rows.proofs.Rows.{refused_parts}
use Rattle.listing_rows.proofs.write.put_refused.Goals as goal

pub returns : goal.returns
returns c =
    let all = then_writes (then_writes c.put_field.ensures c.put_decimal.ensures) c.put_decimal-2.ensures in
    let puts = writer_puts c.new-writer.ensures.unwritten all (refused_parts c.args.code c.args.line) in
    (puts.0, search (rules, puts.1))

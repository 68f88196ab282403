-- `listing_rows::write::end_row` meets its contract.
use Rattle.std.proofs.Common.{rules, refl}
use Rattle.text.proofs.Writing.{then_writes, writer_puts, room_bound}
use Rattle.listing_rows.specs.Rows.{row_room}
use Rattle.listing_rows.proofs.Rows.{end_parts}
use Rattle.listing_rows.proofs.write.end_row.Goals as goal

pub invariant_of-result : goal.invariant_of-result
invariant_of-result c =
    let all = then_writes c.put_field.ensures c.put_decimal.ensures in
    record { within = room_bound row_room _ (writer_puts c.new-writer.ensures.unwritten all refl) }

pub returns-clause-puts : goal.returns-clause-puts
returns-clause-puts c =
    let all = then_writes c.put_field.ensures c.put_decimal.ensures in
    let puts = writer_puts c.new-writer.ensures.unwritten all (end_parts c.args.count) in
    (puts.0, search (rules, puts.1))

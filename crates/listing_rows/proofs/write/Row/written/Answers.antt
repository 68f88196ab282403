-- `listing_rows::write::Row::written` meets its contract.
use Rattle.std.proofs.Common.{rules, refl}
use Rattle.text.proofs.Writing.{then_writes, writer_puts, room_bound}
use Rattle.listing_rows.specs.Rows.{row_room}
use Rattle.listing_rows.proofs.Rows.{row_parts}
use Rattle.listing_rows.proofs.write.Row.written.Goals as goal

pub invariant_of-result : goal.invariant_of-result
invariant_of-result c =
    let names = then_writes c.put_field.ensures c.put_field-2.ensures in
    let all = then_writes (then_writes names c.put_decimal.ensures) c.put_decimal-2.ensures in
    record { within = room_bound row_room _ (writer_puts c.new-writer.ensures.unwritten all refl) }

pub returns-clause-puts : goal.returns-clause-puts
returns-clause-puts c =
    let row = c.args.self.now in
    let names = then_writes c.put_field.ensures c.put_field-2.ensures in
    let all = then_writes (then_writes names c.put_decimal.ensures) c.put_decimal-2.ensures in
    let puts = writer_puts c.new-writer.ensures.unwritten all (row_parts row.from.now row.to.now row.mm row.step) in
    (puts.0, search (rules, puts.1))

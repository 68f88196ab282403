-- `job_lines::write::shot_line` meets its contract.
use Rattle.std.proofs.Common.{rules, refl, sym}
use Rattle.text.proofs.Writing.{then_writes, writer_puts, room_bound}
use Rattle.job_lines.specs.Room.{shot_room}
use Rattle.job_lines.proofs.ShotLines.{shot_parts}
use Rattle.job_lines.proofs.write.shot_line.Goals as goal

pub invariant_of-result : goal.invariant_of-result
invariant_of-result c =
    let names = then_writes (then_writes c.put.ensures c.put_field.ensures) c.put_field-2.ensures in
    let all = then_writes (then_writes (then_writes names c.put_decimal.ensures) c.put_decimal-2.ensures) c.put_byte.ensures in
    record { within = room_bound shot_room _ (writer_puts c.new-writer.ensures.unwritten all refl) }

pub returns-clause-puts : goal.returns-clause-puts
returns-clause-puts c =
    let from = rw c.part.ensures at c.put_field.ensures in
    let to = rw c.part-2.ensures at c.put_field-2.ensures in
    let names = then_writes (then_writes c.put.ensures from) to in
    let all = then_writes (then_writes (then_writes names c.put_decimal.ensures) c.put_decimal-2.ensures) c.put_byte.ensures in
    let puts = writer_puts c.new-writer.ensures.unwritten all (sym (shot_parts _ _ c.args.s.distance c.args.s.bearing)) in
    (puts.0, search (rules, puts.1))

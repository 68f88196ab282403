-- `job::shot::add_shot` meets its contract.
use Rattle.std.proofs.Common.{arith}
use Rattle.job.proofs.Bounds.{row_measured, row_added, row_within}
use Rattle.job.proofs.shot.add_shot.Goals as goal

pub overflow_add-result : goal.overflow_add-result
overflow_add-result c = omega (arith, c.requires.short, c.length.ensures)

pub returns-then-out-used : goal.returns-then-out-used
returns-then-out-used c =
    let at = c in
    row_measured at.args.line.now at.args.x _ _ _ _ c.part.ensures c.part-2.ensures
    at.requires.room _ _ _ c.length.ensures (omega (arith, c.if-out-used.true))

pub add_row-requires : goal.add_row-requires
add_row-requires c = record { short = c.requires.short; whole = c.written.ensures.length_in_bounds; room = row_within c.written.result _ c.written.ensures.puts }

pub returns : goal.returns
returns c =
    let at = c in
    row_added at.args.line.now at.args.x _ _ _ _ c.part.ensures c.part-2.ensures
    at.requires.room c.written.result _ _ _ _ c.written.ensures.puts c.add_row.ensures

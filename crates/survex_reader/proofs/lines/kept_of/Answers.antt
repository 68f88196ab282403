-- `survex_reader::lines::kept_of` meets its contract.
use Rattle.std.proofs.Common.{arith}
use Rattle.survex_reader.proofs.Places.{stop_within, from_within, to_within, fed_is, kept_is}
use Rattle.survex_reader.proofs.lines.kept_of.Goals as goal

pub slice_bounds-skip_blanks-end : goal.slice_bounds-skip_blanks-end
slice_bounds-skip_blanks-end c = omega (arith, stop_within _ _ _ c.scan-stop.ensures)

pub slice_bounds-trimmed_length-count : goal.slice_bounds-trimmed_length-count
slice_bounds-trimmed_length-count c = from_within _ _ _ c.scan-stop.ensures _ c.skip_blanks-from.ensures

pub slice_bounds-trimmed_length-start : goal.slice_bounds-trimmed_length-start
slice_bounds-trimmed_length-start c = from_within _ _ _ c.scan-stop.ensures _ c.skip_blanks-from.ensures

pub slice_bounds-trimmed_length-end : goal.slice_bounds-trimmed_length-end
slice_bounds-trimmed_length-end c = omega (arith, stop_within _ _ _ c.scan-stop.ensures)

pub overflow_add-to : goal.overflow_add-to
overflow_add-to c = omega (
  arith,
  to_within _ _ _ c.scan-stop.ensures _ c.skip_blanks-from.ensures _ c.trimmed_length.ensures,
)

pub returns : goal.returns
returns c =
    kept_is c.args.line.now _ c.scan-stop.ensures _ c.skip_blanks-from.ensures _ c.trimmed_length.ensures
    _ (fed_is c.args.line.now _ c.scan.ensures)

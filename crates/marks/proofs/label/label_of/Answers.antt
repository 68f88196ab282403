-- `label_of` is `label_of`.
use Rattle.std.proofs.Common.{refl, zero-add, arith}
use Rattle.text.specs.Buffer.{position_after}
use Rattle.marks.specs.Marks.{label_of}
use Rattle.marks.proofs.label.label_of.Goals as goal

pub overflow_cast-result : goal.overflow_cast-result
unfolding position_after
overflow_cast-result c = rw c.put-length.ensures.0 (omega arith)

pub returns : goal.returns
unfolding label_of position_after
returns c = rw (c.put-length.ensures.0, c.put-length.ensures.1, position_after, zero-add) refl

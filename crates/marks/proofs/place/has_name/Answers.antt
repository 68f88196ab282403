-- `has_name` is `has_name`.
use Rattle.marks.specs.Marks.{has_name}
use Rattle.marks.proofs.Names.{own_same}
use Rattle.marks.proofs.place.has_name.Goals as goal

pub returns-then-label : goal.returns-then-label
unfolding has_name
returns-then-label c = rw c.if-label.true (own_same c.args.label.now c.name.result c.args.name c.name.ensures c.eq.ensures)

pub returns-else-label : goal.returns-else-label
unfolding has_name
returns-else-label c = rw c.if-label.false

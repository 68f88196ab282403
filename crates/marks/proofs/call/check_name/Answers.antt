-- `check_name` is `name_code`.
use Rattle.marks.specs.Marks.{name_code}
use Rattle.marks.proofs.call.check_name.Goals as goal

pub returns-then-not-is_name : goal.returns-then-not-is_name
unfolding name_code
returns-then-not-is_name c = rw (← c.is_name.ensures, c.if-not-is_name.true)

pub returns : goal.returns
unfolding name_code
returns c = rw (← c.is_name.ensures, c.if-not-is_name.false)

-- `angle::either` is a conditional.
use Rattle.std.proofs.Common.{refl}
use Rattle.angle.proofs.either.Goals as goal

pub returns-then-exchanged : goal.returns-then-exchanged
returns-then-exchanged c = rw c.if-exchanged.true refl

pub returns-else-exchanged : goal.returns-else-exchanged
returns-else-exchanged c = rw c.if-exchanged.false refl

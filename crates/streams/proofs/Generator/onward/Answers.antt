-- `Generator::onward`: the sum of the count and n is there just where the count has room for n.
use Rattle.std.proofs.Common.{arith}
use Rattle.streams.proofs.Causes.{count_room, count_full}
use Rattle.streams.proofs.Generator.onward.Goals as goal

pub returns-in_default : goal.returns-in_default
returns-in_default c = rw ((count_full c.args.self c.args.n).1 (omega (arith, c.in_default.ensures)))

pub returns : goal.returns
returns c = rw ((count_room c.args.self c.args.n).1 (omega (arith, c.in-Some.ensures.0)), c.in-Some.ensures.1)

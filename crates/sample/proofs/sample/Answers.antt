-- `sample` meets its contract: the two refusals, then the samples of the one z = 65536 k + v.
use Rattle.std.proofs.Common.{arith}
use Rattle.sample.proofs.AnswerLaws.{answer_near, refused_two, refused_three, accepted}
use Rattle.sample.proofs.sample.Goals as goal

pub returns-then-k-ge-LIMIT : goal.returns-then-k-ge-LIMIT
returns-then-k-ge-LIMIT g c =
    let law = g.met.S.Sample in
    let answered = refused_two g.S.Sample.bits c.args.k c.args.v c.clear.ensures (omega arith) in
    record { code = answered.0; steps = answered.1; close = answer_near law.within answered; closer = answer_near law.within_closer answered }

pub returns-then-v-gt65535 : goal.returns-then-v-gt65535
returns-then-v-gt65535 g c =
    let law = g.met.S.Sample in
    let answered = refused_three g.S.Sample.bits c.args.k c.args.v c.clear-then-v-gt65535.ensures (omega arith) (omega arith) in
    record { code = answered.0; steps = answered.1; close = answer_near law.within answered; closer = answer_near law.within_closer answered }

pub returns : goal.returns
returns g c =
    let law = g.met.S.Sample in
    let answered = accepted g.S.Sample.bits c.args.k c.args.v (omega arith) (omega arith) c.samples.ensures in
    record { code = answered.0; steps = answered.1; close = answer_near law.within answered; closer = answer_near law.within_closer answered }

-- `Generator::seed` is `seed_of`: each return rewrites with the record's refusal code.
use Rattle.streams.specs.Streams.{seed_of}
use Rattle.streams.proofs.Refused.{number_not_0}
use Rattle.streams.proofs.Generator.seed.Goals as goal

pub returns-in-Ok : goal.returns-in-Ok
unfolding seed_of
returns-in-Ok c =
    let code_is = rw c.fresh_record-g.ensures at c.in-Ok.ensures in
    rw (c.accepted.ensures, c.fresh_record-g.ensures, ← code_is)

pub returns-in-Err : goal.returns-in-Err
unfolding seed_of
returns-in-Err c =
    let code_is = rw c.fresh_record-g.ensures at c.in-Err.ensures in
    rw (c.refused.ensures, c.fresh_record.ensures, ← code_is, number_not_0 _)

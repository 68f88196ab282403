-- `job_reader::loops::ended` meets its contract.
use Rattle.std.proofs.Common.{◌≡◌, ◌-◌, arith, ne_eqb}
use Rattle.std.proofs.lemmas.Result.{err_from_is_err_and}
use Rattle.job_reader.specs.Private.{ended_of}
use Rattle.job_reader.proofs.Refused.{number_positive}
use Rattle.job_reader.proofs.loops.ended.Goals as goal

pub returns-in_err-count : goal.returns-in_err-count
unfolding ended_of
returns-in_err-count c =
    let p = err_from_is_err_and c.from_residual.result c.from_residual.ensures.1 in
    rw (p.1, p.2, ← c.in_err-count.ensures.verdict, ne_eqb _ 0 (number_positive c.in_err-count.field-0.0.cause))

pub returns-in-Some : goal.returns-in-Some
unfolding ended_of
returns-in-Some c = rw (← c.in_ok-count.ensures.verdict, c.in-Some.is)

pub returns : goal.returns
unfolding ended_of
returns c =
    let count : c.in_ok-count.count ≡ c.args.s.read.line - 3 = omega (arith, c.in_ok-count.ensures.count) in
    rw (← c.in_ok-count.ensures.verdict, c.in_default.is, count)

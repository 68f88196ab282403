-- `job::listed` meets its contract.
use Rattle.std.proofs.Common.{refl, length, lt-ltb}
use Rattle.std.proofs.lemmas.Result.{err_from_is_err_and}
use Rattle.job_reader.specs.Limits.{most_bytes}
use Rattle.job.specs.Job.{job_of, answer_of, buffer_after}
use Rattle.job.proofs.Answered.{job_short, not_both, answered_refused, answered_listed}
use Rattle.job.proofs.listed.Goals as goal

pub returns-then-text-gt-MOST_BYTES : goal.returns-then-text-gt-MOST_BYTES
unfolding job_of answer_of buffer_after
returns-then-text-gt-MOST_BYTES c =
    rw (lt-ltb most_bytes (length c.args.text.now) c.if-text-gt-MOST_BYTES.true) (record { answer = refl; buffer = refl })

pub returns-in_err-decide : goal.returns-in_err-decide
returns-in_err-decide c =
    let p = err_from_is_err_and c.from_residual.result c.from_residual.ensures.1 in
    let a = answered_refused _ c.args.out.now _ c.in_err-decide.ensures in
    rw (p.1, p.2, job_short c.args.text.now c.if-text-gt-MOST_BYTES.false) (record { answer = a.0; buffer = a.1 })

pub returns-in_err-write_listing : goal.returns-in_err-write_listing
returns-in_err-write_listing c =
    let (bytes, e, fit) = c.in_ok-decide.ensures in
    absurd (not_both _ _ _ _ e c.in_err-write_listing.ensures)

pub returns : goal.returns
returns c =
    let (bytes, e, fit) = c.in_ok-decide.ensures in
    let a = answered_listed _ c.args.out.now bytes e fit _ _ c.in_ok-write_listing.ensures in
    rw (job_short c.args.text.now c.if-text-gt-MOST_BYTES.false) (record { answer = a.0; buffer = a.1 })

-- `print_job` leaves the listing that was written, or writes the one line of a refused job.
use Rattle.std.proofs.Common.{arith, length, sym, ap, ◌∙◌}
use Rattle.text.proofs.Writing.{puts_within}
use Rattle.job.specs.Job.{job_of, output_of}
use Rattle.job.specs.declared.JobAnswer.{JobAnswer}
use Rattle.job.proofs.Answered.{code_positive, job_told, printed_listed, printed_refused}
use Rattle.job.proofs.printer.print_job.Goals as goal

pub returns-in-Ok : goal.returns-in-Ok
returns-in-Ok c =
    let out = c.args.out.now in
    let o = job_of c.args.text.now in
    let told = c.in-Ok.ensures in
    let listing = printed_listed o out (job_told c.args.text.now) (sym (ap (λ (r : JobAnswer). r.code) told.answer)) in
    let end = ap (λ (r : JobAnswer). r.length) told.answer ∙ listing.0 in
    let new = told.buffer ∙ listing.1 in
    record { puts = (end, new); within = puts_within out 0 (output_of o (length out)) (omega arith) (end, new) }

pub returns-in-Err : goal.returns-in-Err
returns-in-Err c =
    let out = c.args.out.now in
    let o = job_of c.args.text.now in
    let told = c.in-Err.ensures in
    let code = ap (λ (r : JobAnswer). r.code) told.answer in
    let line = ap (λ (r : JobAnswer). r.line) told.answer in
    let (same, row) = printed_refused o out (λ z. code_positive c.in-Err.refusal (code ∙ z)) in
    let puts = rw (told.buffer ∙ same, c.code.ensures ∙ code, c.line.ensures ∙ line, row) at c.put_refused.ensures in
    record { puts = puts; within = puts_within out 0 (output_of o (length out)) (omega arith) puts }

-- `job_reader::first_bad::first_bad` meets its contract.
use Rattle.std.proofs.Common.{sym, ap}
use Rattle.std.proofs.lemmas.Result.{err_from_is_err_and}
use Rattle.job_reader.specs.declared.walk.Progress.{Progress}
use Rattle.job_reader.proofs.FirstBad.{reading_start, reading_on, reading_off}
use Rattle.job_reader.proofs.first_bad.first_bad.Goals as goal

pub loop-line-init : goal.loop-line-init
loop-line-init c = rw (c.into_iter-line-iterator.ensures.into_iter_gives, c.lines_of-line-items.ensures) (reading_start _ _ c.first_progress-read.ensures)

pub returns-in_err-read : goal.returns-in_err-read
returns-in_err-read c =
    let p = err_from_is_err_and c.from_residual.result c.from_residual.ensures.1 in
    rw (p.1, p.2) (sym (reading_off _ _ _ _ _ c.loop-line.invariant c.in-Some.ensures.steps _ c.in_err-read.ensures.0))

pub loop-line-preserved : goal.loop-line-preserved
loop-line-preserved c =
    let read = c.in_ok-read.ensures in
    reading_on _ _ _ _ _ c.loop-line.invariant c.in-Some.ensures.steps _ read.accepted (ap (λ (p : Progress). p.line) read.next)

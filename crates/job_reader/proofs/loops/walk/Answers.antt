-- `job_reader::loops::walk` meets its contract.
use Rattle.std.proofs.lemmas.Result.{err_from_is_err_and}
use Rattle.job_reader.proofs.Going.{line_on, line_off, at_start, all_taken}
use Rattle.job_reader.proofs.loops.walk.Goals as goal

pub loop-line-init : goal.loop-line-init
loop-line-init c =
    let (read, station, unlinked) = c.first_state-s.ensures in
    rw (c.into_iter-line-iterator.ensures.into_iter_gives, c.lines_of-line-items.ensures) (at_start _ _ _ read station unlinked)

pub returns-in_err-s : goal.returns-in_err-s
returns-in_err-s c =
    let p = err_from_is_err_and c.from_residual.result c.from_residual.ensures.1 in
    let off = c.in_err-s.ensures in
    rw (p.1, p.2) (line_off _ _ _ _ _ _ _ _ c.loop-line.invariant c.in-Some.ensures.steps _ off.0 off.1)

pub loop-line-preserved : goal.loop-line-preserved
loop-line-preserved c = line_on _ _ _ _ _ _ _ _ c.loop-line.invariant c.in-Some.ensures.steps _ c.in_ok-s.ensures

pub returns : goal.returns
returns c = all_taken _ _ _ _ (rw c.in-None.ensures.steps.0 at c.loop-line.invariant) _ c.ended.ensures

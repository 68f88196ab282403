-- `job::walk::walk` meets its contract.
use Rattle.std.proofs.lemmas.Result.{err_from_is_err_and}
use Rattle.job.proofs.Going.{going_start, ready, line_on, line_off}
use Rattle.job.proofs.walk.walk.Goals as goal

pub loop-line-init : goal.loop-line-init
loop-line-init c =
    rw (c.into_iter-line-iterator.ensures.into_iter_gives, c.lines_of-line-items.ensures) (going_start _ _ _ c.first_state-s.ensures)

pub take_line-requires : goal.take_line-requires
take_line-requires c = ready _ _ _ _ _ c.loop-line.invariant

pub returns-in_err-s : goal.returns-in_err-s
returns-in_err-s c =
    let p = err_from_is_err_and c.from_residual.result c.from_residual.ensures.1 in
    rw (p.1, p.2) (line_off _ _ _ _ _ c.loop-line.invariant _ _ c.in-Some.ensures.steps _ c.in_err-s.ensures.0)

pub loop-line-preserved : goal.loop-line-preserved
loop-line-preserved c =
    let (ok, state, buffer) = c.in_ok-s.ensures in
    line_on _ _ _ _ _ c.loop-line.invariant _ _ c.in-Some.ensures.steps _ _ ok state buffer

pub returns : goal.returns
returns c = rw c.in-None.ensures.steps.0 at c.loop-line.invariant

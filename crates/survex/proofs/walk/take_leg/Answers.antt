-- `survex::walk::take_leg` meets its contract.
use Rattle.std.proofs.Common.{rules, ◌≡◌, refl, sym}
use Rattle.std.proofs.lemmas.Result.{err_from_is_err_and}
use Rattle.job_lines.proofs.ShotLines.{shot_bytes}
use Rattle.job_reader.proofs.Answered.{was_ok, was_err}
use Rattle.survex.specs.declared.refusal.BadLine.{BadLine}
use Rattle.survex.proofs.ShotLines.{leg_short}
use Rattle.survex.proofs.walk.take_leg.Goals as goal

pub returns-in_err-leg : goal.returns-in_err-leg
returns-in_err-leg c =
    let p = err_from_is_err_and c.from_residual.result c.from_residual.ensures.1 in
    let (cause, is_err, made) = was_err BadLine c.leg_of.result c.in_err-leg.field-0.0 _ c.in_err-leg.ensures.cases in
    let bad : c.in_err-leg.field-0.0 ≡ record { cause = cause; line = c.args.number } = search rules in
    let said = rw is_err at c.leg_of.ensures.says in
    rw (p.1, p.2, bad, ← said) (refl, refl)

pub returns : goal.returns
returns c =
    let said = rw (was_ok BadLine c.leg_of.result c.in_ok-leg.leg c.in_ok-leg.ensures.cases) at c.leg_of.ensures.says in
    let s = shot_bytes _ _ c.shot_line-shot.result (leg_short _ _ _ (sym said)) c.shot_line-shot.ensures.puts in
    rw (← said, ← s.0, ← s.1, ← c.as_slice.ensures) (rw c.grown.ensures, c.put_at.ensures)

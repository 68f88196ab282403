-- `job::state::take_line` meets its contract.
use Rattle.std.proofs.Common.{refl, sym, ap, ◌∙◌}
use Rattle.std.proofs.lemmas.Result.{err_from_is_err_and}
use Rattle.job_lines.specs.Forms.{line_says}
use Rattle.job.specs.Private.{Printing}
use Rattle.job.proofs.Names.{taken_early}
use Rattle.job.proofs.Bounds.{printing}
use Rattle.job.proofs.state.take_line.Goals as goal

pub returns-in_err-step : goal.returns-in_err-step
returns-in_err-step c =
    let p = err_from_is_err_and c.from_residual.result c.from_residual.ensures.1 in
    rw (p.1, p.2) (c.in_err-step.ensures.0, refl)

pub on_shot-requires : goal.on_shot-requires
on_shot-requires c =
    let s = c.args.s in
    let read = c.in_ok-step.ensures in
    let p : Printing s.read.line s.used s.read.setting (line_says c.args.line.now c.in_ok-step.step.says) = rw read.says (printing s c.args.line.now c.requires read.accepted) in
    rw c.in-Shot.is at p

pub returns-in-Shot : goal.returns-in-Shot
returns-in-Shot c =
    let read = c.in_ok-step.ensures in
    let form = sym (ap (line_says c.args.line.now) c.in-Shot.is) ∙ read.says in
    let shot = rw form at c.on_shot.ensures in
    (read.accepted, shot.0, shot.1)

pub returns : goal.returns
returns c =
    let read = c.in_ok-step.ensures in
    let early = taken_early c.args.s _ c.args.out.now c.args.line.now _ _ read.says c.in_default.not-Shot read.next in
    (read.accepted, early.0, early.1)

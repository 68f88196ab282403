-- `job_reader::shot::take_line` meets its contract.
use Rattle.std.proofs.Common.{refl, sym, ap, ◌∙◌}
use Rattle.std.proofs.lemmas.Result.{err_from_is_err_and}
use Rattle.job_lines.specs.Forms.{Form, line_says}
use Rattle.job_reader.specs.Refusals.{refusal}
use Rattle.job_reader.specs.Setting.{progress_on}
use Rattle.job_reader.proofs.Taking.{taken_early}
use Rattle.job_reader.proofs.shot.take_line.Goals as goal

pub returns-in_err-step : goal.returns-in_err-step
returns-in_err-step c =
    let p = err_from_is_err_and c.from_residual.result c.from_residual.ensures.1 in
    rw (p.1, p.2) (c.in_err-step.ensures.0, refl)

pub on_shot-requires : goal.on_shot-requires
on_shot-requires c =
    let read = c.in_ok-step.ensures in
    let form = sym (ap (line_says c.args.line.now) c.in-Shot.is) ∙ read.says in
    (ap (refusal c.args.s.read.line) form ∙ read.accepted, read.next ∙ ap (λ (x : Form). progress_on x c.args.s.read) (sym form))

pub returns-in-Shot : goal.returns-in-Shot
returns-in-Shot c =
    let read = c.in_ok-step.ensures in
    let form = sym (ap (line_says c.args.line.now) c.in-Shot.is) ∙ read.says in
    rw form at c.on_shot.ensures

pub returns : goal.returns
returns c =
    let read = c.in_ok-step.ensures in
    taken_early _ c.args.s _ _ read.accepted read.next c.args.line.now _ read.says c.in_default.not-Shot refl refl

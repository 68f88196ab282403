-- `read_line` meets its contract.
use Rattle.std.proofs.Common.{sym, ap, ◌∙◌}
use Rattle.job_lines.specs.Forms.{seeds_form, sigma_form, shot_form}
use Rattle.text.proofs.FoundFields.{found, missed}
use Rattle.text.proofs.Steps.{all_found}
use Rattle.job_lines.proofs.Exact.{is_shot, seeds_other, sigma_other, told_other, told_shot}
use Rattle.job_lines.proofs.RoundTrip.{all_marks, read_seeds, read_sigma, read_shot, read_none, shot_alone}
use Rattle.job_lines.proofs.read_line.Goals as goal

pub returns-in-Ok : goal.returns-in-Ok
unfolding seeds_form sigma_form shot_form
returns-in-Ok c =
    let f = found shot_form _ 4 _ c.read_form.ensures.exact (sym all_marks.2) _ c.in-Ok.is in
    let (p, q) = shot_alone _ _ f in
    let stand = all_found 4 shot_form _ _ (sym all_marks.2) (sym c.read_form.ensures.exact ∙ c.in-Ok.is) in
    let told = told_shot _ _ _ _ (c.shot_line.ensures.says ∙ sym (read_shot _ _ p q f)) c.shot_line.ensures.names_at stand in
    record { says = told.0; exact = told.1 }

pub returns-in-Ok-read_form : goal.returns-in-Ok-read_form
unfolding seeds_form sigma_form shot_form
returns-in-Ok-read_form c =
    let e = read_seeds _ _ (found seeds_form _ 6 _ c.read_form-2.ensures.exact (sym all_marks.0) _ c.in-Ok-read_form.is) in
    let told = told_other _ _ _ (c.seeds_line.ensures ∙ sym e) (ap is_shot e ∙ seeds_other _) in
    record { says = told.0; exact = told.1 }

pub returns-in_default-read_form-2 : goal.returns-in_default-read_form-2
unfolding seeds_form sigma_form shot_form
returns-in_default-read_form-2 c =
    let s = missed shot_form _ 4 _ c.read_form.ensures.exact (sym all_marks.2) c.in_default.not-Ok in
    let p = missed seeds_form _ 6 _ c.read_form-2.ensures.exact (sym all_marks.0) c.in_default-read_form.not-Ok in
    let q = missed sigma_form _ 2 _ c.read_form-3.ensures.exact (sym all_marks.1) c.in_default-read_form-2.not-Ok in
    let e = read_none _ p q s in
    let told = told_other c.args.line.now _ _ (sym e) (ap is_shot e) in
    record { says = told.0; exact = told.1 }

pub returns : goal.returns
unfolding seeds_form sigma_form shot_form
returns c =
    let p = missed seeds_form _ 6 _ c.read_form-2.ensures.exact (sym all_marks.0) c.in_default-read_form.not-Ok in
    let e = read_sigma _ _ p (found sigma_form _ 2 _ c.read_form-3.ensures.exact (sym all_marks.1) _ c.in-Ok-read_form-2.is) in
    let told = told_other _ _ _ (c.sigma_line.ensures ∙ sym e) (ap is_shot e ∙ sigma_other _) in
    record { says = told.0; exact = told.1 }

-- `survex::written` meets its contract.
use Rattle.std.proofs.Common.{sym, ap, ◌∙◌}
use Rattle.std.proofs.lemmas.Result.{err_from_is_err_and}
use Rattle.survex.specs.Survex.{survex_of}
use Rattle.survex.specs.declared.LegsAnswer.{LegsAnswer}
use Rattle.survex.proofs.Answers.{survex_told, buffer_kept, buffer_is, refusal_positive}
use Rattle.survex.proofs.written.Goals as goal

pub returns-in_err-convert : goal.returns-in_err-convert
returns-in_err-convert c =
    let p = err_from_is_err_and c.from_residual.result c.from_residual.ensures.1 in
    let e = c.in_err-convert.ensures.answer in
    rw (p.1, p.2) (record { answer = e; buffer = buffer_kept _ c.args.out.now _ e (refusal_positive c.in_err-convert.field-0.0) })

pub returns : goal.returns
returns c =
    let k = c.convert-2.ensures in
    let z = ap (λ (x : LegsAnswer). x.code) (k.answer ∙ sym c.in_ok-convert.ensures.answer) in
    record { answer = k.answer; buffer = buffer_is (survex_of c.args.text.now) c.args.out.now _ _ (survex_told _) k z }

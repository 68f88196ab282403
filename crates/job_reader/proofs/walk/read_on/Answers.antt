-- `job_reader::walk::read_on` meets its contract.
use Rattle.std.proofs.Common.{rules, arith, ◌≡◌, refl, sym}
use Rattle.std.proofs.lemmas.Result.{err_from_is_err_and}
use Rattle.std.specs.Prelude.{Some}
use Rattle.job_lines.specs.Forms.{read_line}
use Rattle.job_reader.specs.Setting.{Refuses, Says}
use Rattle.job_reader.specs.declared.walk.Refused.{Refused}
use Rattle.job_reader.proofs.Accepted.{line_few}
use Rattle.job_reader.proofs.Answered.{was_ok, was_err}
use Rattle.job_reader.proofs.Refused.{none_is}
use Rattle.job_reader.proofs.walk.read_on.Goals as goal

pub returns-in_default : goal.returns-in_default
returns-in_default c =
    let read = rw c.in_default.is at c.read_line.ensures in
    let refused : Refuses c.args.p.line (read_line c.args.line.now) c.refuse.result.bad × Says c.args.line.now c.refuse.result.says =
    rw c.refuse.ensures (record { cause = none_is _ _ (sym read.says); line = refl }, record { form = read.says; exact = read.exact }) in
    refused

pub returns-in_err-setting : goal.returns-in_err-setting
returns-in_err-setting c =
    let p = err_from_is_err_and c.from_residual.result c.from_residual.ensures.1 in
    let read = rw c.in-Some.is at c.read_line.ensures in
    let (cause, set, made) = was_err Refused c.setting_after.result c.in_err-setting.field-0.0 _ c.in_err-setting.ensures.cases in
    let refused : c.in_err-setting.field-0.0 ≡ record { says = Some c.in-Some.says; bad = record { cause = cause; line = c.args.p.line } } = search rules in
    let u = rw (set, read.says) at (c.setting_after.ensures c.args.line.now) in
    rw (p.1, p.2, refused) (record { cause = u; line = refl }, record { form = read.says; exact = read.exact })

pub overflow_add-result : goal.overflow_add-result
overflow_add-result c =
    let u = rw (was_ok Refused c.setting_after.result c.in_ok-setting.setting c.in_ok-setting.ensures.cases) at (c.setting_after.ensures c.args.line.now) in
    omega (arith, line_few _ _ u.0)

pub returns : goal.returns
returns c =
    let read = rw c.in-Some.is at c.read_line.ensures in
    let u = rw (was_ok Refused c.setting_after.result c.in_ok-setting.setting c.in_ok-setting.ensures.cases, read.says) at (c.setting_after.ensures c.args.line.now) in
    record { accepted = u.0; says = read.says; exact = read.exact; next = rw u.1 }

-- `text::form::read_form` meets its contract.
use Rattle.std.proofs.Common.{eq-eqb, ne_eqb}
use Rattle.text.proofs.Steps.{fit_start, fit_full, fit_mark, fit_end, fit_unlike, fit_byte, fit_left, fit_whole}
use Rattle.text.proofs.form.read_form.Goals as goal

pub loop-f-init : goal.loop-f-init
loop-f-init g c = fit_start g.row.N _ _

pub loop-f-preserved-then-f-eq35 : goal.loop-f-preserved-then-f-eq35
loop-f-preserved-then-f-eq35 g c =
    fit_mark _ _ _ _ _ _ _ c.loop-f.invariant c.loop-f-test.true (eq-eqb _ 35 c.if-f-eq35.true) _ c.field_end-end.ensures c.if-count.false

pub loop-f-preserved : goal.loop-f-preserved
loop-f-preserved g c =
    fit_byte _ _ _ _ _ _ _ c.loop-f.invariant c.loop-f-test.true (ne_eqb _ 35 c.if-f-eq35.false) c.if-line-at.false c.if-line-at-2.false

pub returns-then-count : goal.returns-then-count
returns-then-count g c = let a = fit_full _ _ _ _ _ _ _ c.loop-f.invariant c.loop-f-test.true (eq-eqb _ 35 c.if-f-eq35.true) c.if-count.true in record { fields = a.fields; exact = a.exact }

pub returns-then-line-at : goal.returns-then-line-at
returns-then-line-at g c = let a = fit_end _ _ _ _ _ _ _ c.loop-f.invariant c.loop-f-test.true (ne_eqb _ 35 c.if-f-eq35.false) c.if-line-at.true in record { fields = a.fields; exact = a.exact }

pub returns-then-line-at-2 : goal.returns-then-line-at-2
returns-then-line-at-2 g c = let a = fit_unlike _ _ _ _ _ _ _ c.loop-f.invariant c.loop-f-test.true (ne_eqb _ 35 c.if-f-eq35.false) c.if-line-at.false c.if-line-at-2.true in record { fields = a.fields; exact = a.exact }

pub returns-then-at-line : goal.returns-then-at-line
returns-then-at-line g c = let a = fit_left _ _ _ _ _ _ _ c.loop-f.invariant c.loop-f-test.false c.if-at-line.true in record { fields = a.fields; exact = a.exact }

pub returns : goal.returns
returns g c = let a = fit_whole _ _ _ _ _ _ _ c.loop-f.invariant c.loop-f-test.false c.if-at-line.false in record { fields = a.fields; exact = a.exact }

-- `survex_reader::leg::leg_of` meets its contract.
use Rattle.std.proofs.Common.{sym, ap, ◌∙◌}
use Rattle.std.proofs.lemmas.Result.{err_from_is_err_and}
use Rattle.survex_reader.specs.Legs.{level}
use Rattle.survex_reader.specs.declared.leg.LegRefusal.TheVariants.{Form, Range}
use Rattle.survex_reader.proofs.Legs.{missing, present, not_five, not_formed, not_ranged, not_level, range_compass, is_leg_lem, told_wrong, told_leg}
use Rattle.survex_reader.proofs.leg.leg_of.Goals as goal

pub returns-in_err-f : goal.returns-in_err-f
returns-in_err-f c =
    let m = missing _ _ _ (sym c.ok_or.ensures.value ∙ c.in_err-f.was) in
    let p = err_from_is_err_and c.from_residual.result c.from_residual.ensures.1 in
    let t = told_wrong c.args.line.now _ Form (not_five _ (rw m.0 at c.fields_of.ensures)) in
    rw (p.1, p.2, m.1) record { says = t.0; exact = t.1 }

pub numbers_of-requires : goal.numbers_of-requires
numbers_of-requires c =
    let f = present _ _ _ (sym c.ok_or.ensures.value ∙ c.in_ok-f.was) in
    (rw f at c.fields_of.ensures).1

pub returns-in_err-n : goal.returns-in_err-n
returns-in_err-n c =
    let m = missing _ _ _ (sym c.ok_or-2.ensures.value ∙ c.in_err-n.was) in
    let p = err_from_is_err_and c.from_residual-in_err-n.result c.from_residual-in_err-n.ensures.1 in
    let t = told_wrong c.args.line.now _ Form (not_formed _ (rw m.0 at c.numbers_of.ensures)) in
    rw (p.1, p.2, m.1) record { says = t.0; exact = t.1 }

pub returns-then-not-is_in_range : goal.returns-then-not-is_in_range
returns-then-not-is_in_range c =
    let f = rw (present _ _ _ (sym c.ok_or.ensures.value ∙ c.in_ok-f.was)) at c.fields_of.ensures in
    let n = rw (present _ _ _ (sym c.ok_or-2.ensures.value ∙ c.in_ok-n.was)) at c.numbers_of.ensures in
    let t = told_wrong c.args.line.now _ Range (not_ranged _ _ n f.0 (sym c.is_in_range.ensures ∙ c.if-not-is_in_range.true)) in
    record { says = t.0; exact = t.1 }

pub returns-then-not-is_level : goal.returns-then-not-is_level
returns-then-not-is_level c =
    let f = rw (present _ _ _ (sym c.ok_or.ensures.value ∙ c.in_ok-f.was)) at c.fields_of.ensures in
    let n = rw (present _ _ _ (sym c.ok_or-2.ensures.value ∙ c.in_ok-n.was)) at c.numbers_of.ensures in
    let clino = c.is_level.ensures ∙ ap level (c.part.ensures ∙ f.1.clino) in
    let t = told_wrong c.args.line.now _ Range (not_level _ _ n f.0 (sym clino ∙ c.if-not-is_level.true)) in
    record { says = t.0; exact = t.1 }

pub step_of-requires : goal.step_of-requires
step_of-requires c = range_compass c.in_ok-n.n.tape _ (sym c.is_in_range.ensures ∙ c.if-not-is_in_range.false)

pub returns : goal.returns
returns c =
    let f = rw (present _ _ _ (sym c.ok_or.ensures.value ∙ c.in_ok-f.was)) at c.fields_of.ensures in
    let n = rw (present _ _ _ (sym c.ok_or-2.ensures.value ∙ c.in_ok-n.was)) at c.numbers_of.ensures in
    let clino = c.is_level.ensures ∙ ap level (c.part.ensures ∙ f.1.clino) in
    let t = told_leg c.args.line.now _ _ (rw (f.1.from, f.1.to)
    (is_leg_lem _ _ n f.0 (sym c.is_in_range.ensures ∙ c.if-not-is_in_range.false) (sym clino ∙ c.if-not-is_level.false) _ c.step_of.ensures)) f.1.from_place f.1.to_place in
    record { says = t.0; exact = t.1 }

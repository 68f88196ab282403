-- `Ends::widened` meets its contract.
use Rattle.std.proofs.Common.{true, false}
use Rattle.misclosure.proofs.Machine.{field_sum, factor_below, factor_above, widened_is}
use Rattle.misclosure.proofs.Ends.widened.Goals as goal

pub returns-then-factor-lt0 : goal.returns-then-factor-lt0
returns-then-factor-lt0 c =
    let a = c.args in
    let (small, low, high, unit) = c.requires in
    widened_is a.factor false a.low a.high a.self _ _ (factor_below a.factor unit c.if-factor-lt0.true)
    (field_sum _ a.self.low a.high a.factor c.added-least.ensures small.0 high unit)
    (field_sum _ a.self.high a.low a.factor c.added-greatest.ensures small.1 low unit)

pub returns : goal.returns
returns c =
    let a = c.args in
    let (small, low, high, unit) = c.requires in
    widened_is a.factor true a.low a.high a.self _ _ (factor_above a.factor unit c.if-factor-lt0.false)
    (field_sum _ a.self.low a.low a.factor c.added-least-2.ensures small.0 low unit)
    (field_sum _ a.self.high a.high a.factor c.added-greatest-2.ensures small.1 high unit)

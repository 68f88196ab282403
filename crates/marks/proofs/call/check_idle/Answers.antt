-- `check_idle` is `idle_code`: the record's code first.
use Rattle.std.proofs.Common.{◌∙◌}
use Rattle.streams.proofs.Refused.{stopped}
use Rattle.marks.proofs.Tested.{unfit, fit}
use Rattle.marks.proofs.call.check_idle.Goals as goal

pub returns-in_err-check_streams : goal.returns-in_err-check_streams
returns-in_err-check_streams c = stopped _ _ c.from_residual.ensures.1 ∙ unfit _ _ c.in_err-check_streams.ensures

pub returns : goal.returns
returns c = fit _ c.in_ok-check_streams.ensures c.check_none_open.ensures

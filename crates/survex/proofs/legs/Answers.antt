-- `survex::legs` meets its contract.
use Rattle.std.proofs.Common.{◌∙◌}
use Rattle.survex.proofs.Answers.{length_within}
use Rattle.survex.proofs.legs.Goals as goal

pub returns-clause-length_in_bounds : goal.returns-clause-length_in_bounds
returns-clause-length_in_bounds c = length_within _ c.args.out.now _ (c.from.ensures ∙ c.written.ensures.answer)

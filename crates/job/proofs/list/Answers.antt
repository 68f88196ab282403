-- `job::list` meets its contract.
use Rattle.std.proofs.Common.{◌∙◌}
use Rattle.job.proofs.Answered.{answer_within}
use Rattle.job.proofs.list.Goals as goal

pub returns-clause-length_in_bounds : goal.returns-clause-length_in_bounds
returns-clause-length_in_bounds c = answer_within _ _ _ (c.from.ensures ∙ c.listed.ensures.answer)

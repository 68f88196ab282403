-- `job_lines::link::follows` meets its contract.
use Rattle.std.proofs.Common.{sym, ◌∙◌}
use Rattle.text.proofs.Scan.{empty, some}
use Rattle.text.proofs.SameBytes.{same_is}
use Rattle.job_lines.proofs.Following.{follows_none, follows_some}
use Rattle.job_lines.proofs.link.follows.Goals as goal

pub returns-then-is_empty : goal.returns-then-is_empty
returns-then-is_empty c = c.if-is_empty.true ∙ sym (follows_none _ _ (empty _ (sym c.is_empty.ensures ∙ c.if-is_empty.true)))

pub returns-else-is_empty : goal.returns-else-is_empty
returns-else-is_empty c =
    c.eq.ensures ∙ same_is _ _ ∙ sym (follows_some c.args.station.now c.args.from.now (some _ (sym c.is_empty.ensures ∙ c.if-is_empty.false)))

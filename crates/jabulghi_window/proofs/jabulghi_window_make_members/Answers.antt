-- `jabulghi_window_make_members` meets its contract: `made`, and empty places.
use Rattle.std.proofs.Common.{◌∙◌}
use Rattle.drift.proofs.Answered.{answered_kept}
use Rattle.jabulghi_window.proofs.Answered.{made_places, code_stored, window_stored}
use Rattle.jabulghi_window.proofs.jabulghi_window_make_members.Goals as goal

pub returns-clause-code : goal.returns-clause-code
returns-clause-code c = code_stored _ (answered_kept.made _) c.made.ensures c.stored.ensures.code

pub returns-clause-window_after : goal.returns-clause-window_after
returns-clause-window_after c =
    window_stored _ (answered_kept.made _) c.made.ensures c.stored.ensures.members (c.clear.ensures ∙ made_places _)

-- `jabulghi_window_push_all_members` meets its contract: `run` on the caller's places, with the members read and written.
use Rattle.std.proofs.Common.{to_z-of_z, SFits, w64, rules}
use Rattle.drift.proofs.Answered.{answered_kept}
use Rattle.jabulghi_window.proofs.Answered.{code_stored, window_stored}
use Rattle.jabulghi_window.proofs.jabulghi_window_push_all_members.Goals as goal

pub returns-clause-code : goal.returns-clause-code
returns-clause-code c =
    let s : SFits w64 c.args.sum.now = search rules in
    let q : SFits w64 c.args.squares.now = search rules in
    let e = rw (to_z-of_z s, to_z-of_z q) at c.run-ran.ensures in
    code_stored _ (answered_kept.all _ _) e.value c.stored.ensures.code

pub returns-clause-window_after : goal.returns-clause-window_after
returns-clause-window_after c =
    let s : SFits w64 c.args.sum.now = search rules in
    let q : SFits w64 c.args.squares.now = search rules in
    let e = rw (to_z-of_z s, to_z-of_z q) at c.run-ran.ensures in
    window_stored _ (answered_kept.all _ _) e.value c.stored.ensures.members e.places_after

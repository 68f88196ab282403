-- `run` is `pushed_all` on the caller's places.
use Rattle.std.proofs.Common.{sym, ap, ◌∙◌, ◌+◌, drop, get_or, pos, to_z-of_z, SFits, w16, rules}
use Rattle.drift.specs.Drift.{WindowAnswer, accepted, with_places, checked_of, pushed_of, pushed_from}
use Rattle.drift.proofs.Runs.{one_more, at_end, all_from, passed, is_refusal, test_failed, push_failed, run_of_unfit, rest_failed}
use Rattle.drift.proofs.window.run.Goals as goal

pub returns-in_err-last-clause-value : goal.returns-in_err-last-clause-value
returns-in_err-last-clause-value c =
    rw (run_of_unfit _ c.args.samples.now c.in_err-last.ensures.value) (is_refusal _ c.from_residual.ensures.0)

pub returns-in_err-last-clause-places_after : goal.returns-in_err-last-clause-places_after
returns-in_err-last-clause-places_after c =
    let e = c.in_err-last.ensures in
    rw (run_of_unfit _ c.args.samples.now e.value) (e.places_after ∙ ap (λ (r : WindowAnswer). r.window.places) (test_failed _ e.value))

pub loop-sample-init : goal.loop-sample-init
loop-sample-init c =
    let e = c.in_ok-last.ensures in
    let w = with_places c.args.m c.args.places.now in
    ap (λ (r : WindowAnswer). pushed_from r c.args.samples.now) (passed (checked_of w) e.value e.places_after) ∙ all_from w c.args.samples.now

pub loop-sample-preserved : goal.loop-sample-preserved
loop-sample-preserved c =
    let at = c.loop-sample in
    let l = c.args.samples.now in
    let x = get_or l at.sample-index (pos 0) in
    let fit : SFits w16 x = search rules in
    let e = rw (to_z-of_z fit) at c.in_ok-last-2.ensures in
    let w = with_places at.last at.places in
    ap (λ (r : WindowAnswer). pushed_from r (drop (at.sample-index + 1) l)) (passed (pushed_of w x) e.value e.places_after)
    ∙ sym (one_more (accepted w) l at.sample-index (pos 0) c.loop-sample-test.true)
    ∙ at.invariant

pub returns-in_err-last-2-clause-value : goal.returns-in_err-last-2-clause-value
returns-in_err-last-2-clause-value c =
    let at = c.loop-sample in
    let l = c.args.samples.now in
    let fit : SFits w16 (get_or l at.sample-index (pos 0)) = search rules in
    let e = rw (to_z-of_z fit) at c.in_err-last-2.ensures in
    rw (rest_failed _ l at.sample-index c.loop-sample-test.true at.invariant e.value) (is_refusal _ c.from_residual-in_err-last-2.ensures.0)

pub returns-in_err-last-2-clause-places_after : goal.returns-in_err-last-2-clause-places_after
returns-in_err-last-2-clause-places_after c =
    let at = c.loop-sample in
    let l = c.args.samples.now in
    let x = get_or l at.sample-index (pos 0) in
    let fit : SFits w16 x = search rules in
    let e = rw (to_z-of_z fit) at c.in_err-last-2.ensures in
    rw (rest_failed _ l at.sample-index c.loop-sample-test.true at.invariant e.value)
    (e.places_after ∙ ap (λ (r : WindowAnswer). r.window.places) (push_failed _ x e.value))

pub returns-clause-value : goal.returns-clause-value
returns-clause-value c =
    let at = c.loop-sample in
    rw (sym at.invariant, at_end (accepted (with_places at.last at.places)) c.args.samples.now at.sample-index c.loop-sample-test.false)

pub returns-clause-places_after : goal.returns-clause-places_after
returns-clause-places_after c =
    let at = c.loop-sample in
    rw (sym at.invariant, at_end (accepted (with_places at.last at.places)) c.args.samples.now at.sample-index c.loop-sample-test.false)

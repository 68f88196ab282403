-- `step` is `pushed_of` on the caller's places: refused, or moved.
use Rattle.std.proofs.Common.{ap, ◌∙◌, to_z-of_z}
use Rattle.drift.specs.Drift.{WindowAnswer}
use Rattle.drift.proofs.Runs.{is_refusal, test_failed, push_of_unfit, test_passed, push_value, push_places}
use Rattle.drift.proofs.window.step.Goals as goal

pub returns-in_err-fit-clause-value : goal.returns-in_err-fit-clause-value
returns-in_err-fit-clause-value c =
    rw (push_of_unfit _ c.args.sample c.in_err-fit.ensures.value) (is_refusal _ c.from_residual.ensures.0)

pub returns-in_err-fit-clause-places_after : goal.returns-in_err-fit-clause-places_after
returns-in_err-fit-clause-places_after c =
    let e = c.in_err-fit.ensures in
    rw (push_of_unfit _ c.args.sample e.value) (e.places_after ∙ ap (λ (r : WindowAnswer). r.window.places) (test_failed _ e.value))

pub moved-requires : goal.moved-requires
moved-requires c = (test_passed _ c.in_ok-fit.ensures.value).0

pub returns-clause-value : goal.returns-clause-value
returns-clause-value c =
    let e = c.in_ok-fit.ensures in
    push_value _ c.args.sample e.value e.places_after (rw (to_z-of_z c.ranges.sample) at c.moved.ensures.value)

pub returns-clause-places_after : goal.returns-clause-places_after
returns-clause-places_after c =
    let e = c.in_ok-fit.ensures in
    push_places _ c.args.sample e.value e.places_after (rw (to_z-of_z c.ranges.sample) at c.moved.ensures.places_after)

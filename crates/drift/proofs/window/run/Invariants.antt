-- `run` is `pushed_all` on the caller's places. The loop's invariant: the pushes that are left, from here, give what all of them give.
use Rattle.std.proofs.Common.{◌≡◌, drop}
use Rattle.drift.specs.Drift.{accepted, with_places, pushed_from, pushed_all}
use Rattle.drift.proofs.window.run.Given as goal

abbrev pub invariant-loop-sample : goal.invariant-loop-sample
invariant-loop-sample l = pushed_from (accepted (with_places l.last l.places)) (drop l.sample-index l.samples) ≡ pushed_all (with_places l.fn.m l.fn.places) l.samples

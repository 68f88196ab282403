-- `under_roots` is a pass in place.
use Rattle.std.proofs.Common.{get_or}
use Rattle.sample.specs.Private.{UnderRootAt}
use Rattle.sample.proofs.PassLaws.{Done}
use Rattle.sample.proofs.passes.under_roots.Given as goal

abbrev pub invariant-loop-i : goal.invariant-loop-i
invariant-loop-i l = Done (λ j y. UnderRootAt (get_or l.places j 0) (get_or l.r j 0) (get_or l.initial.x j 0) y) l.initial.x l.x l.i

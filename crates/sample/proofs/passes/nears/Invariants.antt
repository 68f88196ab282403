-- `nears` is a pass in place.
use Rattle.std.proofs.Common.{get_or}
use Rattle.sample.specs.Private.{NearAt}
use Rattle.sample.proofs.PassLaws.{Done}
use Rattle.sample.proofs.passes.nears.Given as goal

abbrev pub invariant-loop-i : goal.invariant-loop-i
invariant-loop-i l = Done (λ j y. NearAt (get_or l.x j 0) y) l.initial.r l.r l.i

-- `nears` is a pass in place.
use Rattle.std.proofs.Common.{arith}
use Rattle.sample.proofs.PassLaws.{none_done, one_done, all_done}
use Rattle.sample.proofs.passes.nears.Goals as goal

pub loop-i-init : goal.loop-i-init
loop-i-init c = none_done

pub bounds-x-i : goal.bounds-x-i
bounds-x-i c = omega (arith, c.loop-i-test.true, c.requires)

pub bounds-r-i : goal.bounds-r-i
bounds-r-i c =
    let head = c in
    omega (arith, c.loop-i-test.true, head.loop-i.invariant.kept, head.requires)

pub loop-i-preserved : goal.loop-i-preserved
loop-i-preserved c =
    let head = c in
    one_done head.loop-i.invariant (omega (arith, c.loop-i-test.true, head.loop-i.invariant.kept, head.requires)) c.near.ensures

pub shape_of-r : goal.shape_of-r
shape_of-r c = c.loop-i.invariant.kept

pub returns : goal.returns
returns c = all_done c.loop-i.invariant c.loop-i-test.false

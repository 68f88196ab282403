-- `under_roots` is a pass in place.
use Rattle.std.proofs.Common.{arith}
use Rattle.sample.proofs.PassLaws.{none_done, one_done, all_done}
use Rattle.sample.proofs.passes.under_roots.Goals as goal

pub loop-i-init : goal.loop-i-init
loop-i-init c = none_done

pub bounds-places-i : goal.bounds-places-i
bounds-places-i c =
    let head = c in
    omega (arith, c.loop-i-test.true, head.loop-i.invariant.kept, head.requires)

pub bounds-r-i : goal.bounds-r-i
bounds-r-i c =
    let head = c in
    omega (arith, c.loop-i-test.true, head.loop-i.invariant.kept, head.requires)

pub loop-i-preserved : goal.loop-i-preserved
loop-i-preserved c =
    let turn = c in
    let d = turn.loop-i.invariant in
    one_done d (omega (arith, turn.loop-i-test.true, d.kept, turn.requires)) (rw (← (d.rest turn.loop-i.i (omega arith))) c.under_root.ensures)

pub shape_of-x : goal.shape_of-x
shape_of-x c = c.loop-i.invariant.kept

pub returns : goal.returns
returns c = all_done c.loop-i.invariant c.loop-i-test.false

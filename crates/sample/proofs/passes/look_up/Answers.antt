-- `look_up` writes five lists beside z.
use Rattle.std.proofs.Common.{arith}
use Rattle.sample.proofs.PassLaws.{none_looked, one_looked, all_looked}
use Rattle.sample.proofs.passes.look_up.Goals as goal

pub loop-i-init : goal.loop-i-init
loop-i-init c = none_looked c.requires

pub bounds-places-i : goal.bounds-places-i
bounds-places-i c = omega (arith, c.loop-i-test.true, c.loop-i.invariant.looked.room.places_room)

pub bounds-r-i : goal.bounds-r-i
bounds-r-i c = omega (arith, c.loop-i-test.true, c.loop-i.invariant.looked.room.r_room)

pub bounds-x-i : goal.bounds-x-i
bounds-x-i c = omega (arith, c.loop-i-test.true, c.loop-i.invariant.looked.room.x_room)

pub bounds-coarse-i : goal.bounds-coarse-i
bounds-coarse-i c = omega (arith, c.loop-i-test.true, c.loop-i.invariant.looked.room.coarse_room)

pub bounds-fine-i : goal.bounds-fine-i
bounds-fine-i c = omega (arith, c.loop-i-test.true, c.loop-i.invariant.looked.room.fine_room)

pub loop-i-preserved : goal.loop-i-preserved
loop-i-preserved c =
    one_looked c.loop-i.invariant c.loop-i-test.true
    (record { cell = c.of-cell.ensures; rotated = c.of-rotations.ensures })

pub shape_of-places : goal.shape_of-places
shape_of-places c = c.loop-i.invariant.kept.places_kept

pub shape_of-r : goal.shape_of-r
shape_of-r c = c.loop-i.invariant.kept.r_kept

pub shape_of-x : goal.shape_of-x
shape_of-x c = c.loop-i.invariant.kept.x_kept

pub shape_of-coarse : goal.shape_of-coarse
shape_of-coarse c = c.loop-i.invariant.kept.coarse_kept

pub shape_of-fine : goal.shape_of-fine
shape_of-fine c = c.loop-i.invariant.kept.fine_kept

pub returns : goal.returns
returns c = all_looked c.loop-i.invariant.looked c.loop-i-test.false

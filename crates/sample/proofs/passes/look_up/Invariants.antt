-- `look_up` writes five lists beside z.
use Rattle.sample.proofs.PassLaws.{Looking}
use Rattle.sample.proofs.passes.look_up.Given as goal

abbrev pub invariant-loop-i : goal.invariant-loop-i
invariant-loop-i l = Looking l.z l.initial.places l.initial.r l.initial.x l.initial.coarse l.initial.fine l.places l.r l.x l.coarse l.fine l.i

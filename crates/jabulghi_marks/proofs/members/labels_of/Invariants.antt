-- `labels_of` is `labels_of`.
use Rattle.jabulghi_marks.proofs.Filling.{Filled}
use Rattle.jabulghi_marks.proofs.members.labels_of.Given as goal

abbrev pub invariant-loop-i : goal.invariant-loop-i
invariant-loop-i l = Filled l.used l.lengths l.names l.label-items l.i

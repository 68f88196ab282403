-- `by_chunks` has written the samples before `at`.
use Rattle.std.proofs.Common.{◌-◌, length}
use Rattle.sample.proofs.ChunkLaws.{Going}
use Rattle.sample.proofs.by_chunks.Given as goal

abbrev pub invariant-loop-at : goal.invariant-loop-at
invariant-loop-at g l =
    let m = g.S.Sample in
    Going m.bits l.initial.z l.initial.places l.initial.r l.initial.x l.initial.coarse l.initial.fine (m.values l.initial.out) l.initial.state l.z l.places l.r l.x l.coarse l.fine (m.values l.out) l.state l.at

abbrev pub decreases-loop-at : goal.decreases-loop-at
decreases-loop-at g l = length l.initial.out - l.at

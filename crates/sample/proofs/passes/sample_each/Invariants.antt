-- `sample_each` meets its contract: it has written the samples of the first i of the z.
use Rattle.sample.proofs.SamplesLaws.{Sampled}
use Rattle.sample.proofs.passes.sample_each.Given as goal

abbrev pub invariant-loop-i : goal.invariant-loop-i
invariant-loop-i g l = let m = g.S.Sample in Sampled m.bits l.z (m.values l.initial.out) (m.values l.out) l.i

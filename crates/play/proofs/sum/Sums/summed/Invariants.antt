-- `Sums::summed` meets its contract.
use Rattle.std.proofs.Common.{length}
use Rattle.sums.specs.Sums.{sine, cosine}
use Rattle.play.proofs.Summing.{Summed}
use Rattle.play.proofs.sum.Sums.summed.Given as goal

abbrev pub invariant-loop-shot : goal.invariant-loop-shot
invariant-loop-shot l =
    Summed sine l.noisy.distance l.noisy.bearing l.noisy.shots.now l.samples l.initial.s.east l.s.east (length l.yielded)
    × Summed cosine l.noisy.distance l.noisy.bearing l.noisy.shots.now l.samples l.initial.s.north l.s.north (length l.yielded)

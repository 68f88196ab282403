-- `NoisyLoop::each_play` meets its contract.
use Rattle.play.proofs.Runs.{Written}
use Rattle.play.proofs.noisy_loop.NoisyLoop.each_play.Given as goal

abbrev pub invariant-loop-miss : goal.invariant-loop-miss
invariant-loop-miss l = Written l.initial.g l.self.distance l.self.bearing l.self.shots.now l.miss-items l.g l.miss-index

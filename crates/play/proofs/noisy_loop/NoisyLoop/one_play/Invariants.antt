-- `NoisyLoop::one_play` meets its contract.
use Rattle.std.proofs.Common.{◌≡◌}
use Rattle.play.specs.Private.{chunk_shots}
use Rattle.play.proofs.Blocks.{Playing}
use Rattle.play.proofs.noisy_loop.NoisyLoop.one_play.Given as goal

abbrev pub invariant-loop-shots : goal.invariant-loop-shots
invariant-loop-shots l =
    (l.shots-iterator.size ≡ chunk_shots) × Playing l.initial.g l.self.distance l.self.bearing l.self.shots.now l.g l.sums l.shots-iterator.rest.now

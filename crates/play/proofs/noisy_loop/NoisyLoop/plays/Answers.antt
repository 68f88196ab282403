-- `NoisyLoop::plays` meets its contract.
use Rattle.std.proofs.Common.{arith, length}
use Rattle.play.proofs.Blocks.{sound_for}
use Rattle.play.proofs.Runs.{skip_room, skipped_pairs, skipped_misses}
use Rattle.play.proofs.noisy_loop.NoisyLoop.plays.Goals as goal

pub overflow_mul-first : goal.overflow_mul-first
overflow_mul-first c = record { fits = omega (arith, skip_room _ _ _ _ c.requires, c.ranges.first) }

pub each_play-requires : goal.each_play-requires
each_play-requires c =
    skipped_pairs _ _ _ _ (sound_for c.args.g _ (omega arith) (omega arith) c.requires) c.requires _ c.skip-skipped.ensures

pub returns : goal.returns
returns c =
    skipped_misses _ c.args.first (length c.args.misses.now) c.args.self.shots.now (sound_for c.args.g _ (omega arith) (omega arith) c.requires) c.requires _ c.skip-skipped.ensures _ c.each_play.ensures

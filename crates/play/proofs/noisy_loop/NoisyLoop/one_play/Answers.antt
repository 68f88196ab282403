-- `NoisyLoop::one_play` meets its contract.
use Rattle.std.proofs.Common.{◌≡◌, ◌*◌, ◌-◌, arith, refl, ◌∙◌, length, rules}
use lib.Seq.{length-take-le}
use Rattle.play.proofs.Blocks.{sound_for, playing_first, spare_part, near_part, asked_part, block_on, played_through}
use Rattle.play.proofs.noisy_loop.NoisyLoop.one_play.Goals as goal

pub loop-shots-init : goal.loop-shots-init
loop-shots-init c =
    let e = c.chunks-shots-items.ensures in
    rw c.into_iter-shots-iterator.ensures.into_iter_gives
    (rw (e.size, e.rest) (refl, playing_first _ _ _ _ _ c.args.self.near refl refl))

pub summed-sums-requires-clause-spare : goal.summed-sums-requires-clause-spare
summed-sums-requires-clause-spare c =
    let part = c.in-Some.shots.now in
    let (rest, long, some) = c.in-Some.ensures.steps.1 in
    let (size, playing) = c.loop-shots.invariant in
    let room : length c.loop-shots.samples ≡ 64 = search rules in
    let old = length-take-le (2 * length part - 0) c.loop-shots.samples (omega (arith, long, size, room)) in
    let r = rw rest at playing in
    let asked = asked_part part _ r _ (omega (arith, old)) (sound_for c.args.g _ (omega arith) (omega arith) c.requires) c.requires _ c.block.ensures.memory in
    (spare_part part _ r c.args.self.few, asked.0)

pub invariant_of-part : goal.invariant_of-part
invariant_of-part c =
    let (rest, long, some) = c.in-Some.ensures.steps.1 in
    record {
      steady_distance = c.args.self.steady_distance;
      steady_bearing = c.args.self.steady_bearing;
      near = near_part _ _ (rw rest at c.loop-shots.invariant.1);
      few = omega (arith, long);
    }

pub loop-shots-preserved : goal.loop-shots-preserved
loop-shots-preserved c =
    let part = c.in-Some.shots.now in
    let (kept, (rest, long, some)) = c.in-Some.ensures.steps in
    let (size, playing) = c.loop-shots.invariant in
    let room : length c.loop-shots.samples ≡ 64 = search rules in
    let old = length-take-le (2 * length part - 0) c.loop-shots.samples (omega (arith, long, size, room)) in
    let sums = c.summed-sums.ensures in (
      kept ∙ size,
      block_on part _ (rw rest at playing) _ (omega (arith, old)) (sound_for c.args.g _ (omega arith) (omega arith) c.requires) c.requires _ c.block.ensures.memory _ _ c.block.ensures.answer sums.0 sums.1 sums.2,
    )

pub returns : goal.returns
returns c = played_through _ c.loop-shots.invariant.1 (c.in-None.ensures.steps.1.0) c.args.self.few

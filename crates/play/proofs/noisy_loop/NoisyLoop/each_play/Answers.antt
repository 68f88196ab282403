-- `NoisyLoop::each_play` meets its contract.
use Rattle.std.proofs.Common.{arith, ap, ◌∙◌}
use Rattle.sums.specs.Sums.{rounded}
use Rattle.misclosure.proofs.Machine.{rounded_reads}
use Rattle.play.proofs.Blocks.{sound_for}
use Rattle.play.proofs.Runs.{at_first, pairs_of_play, one_more, at_end}
use Rattle.play.proofs.noisy_loop.NoisyLoop.each_play.Goals as goal

pub loop-miss-init : goal.loop-miss-init
loop-miss-init c = at_first _ _ _ _ _

pub one_play-p-requires : goal.one_play-p-requires
one_play-p-requires c =
    let r = c.loop-miss.invariant in
    rw r.now_at (pairs_of_play _ _ _ _ (sound_for c.args.g _ (omega arith) (omega arith) c.requires) c.requires (omega (arith, c.loop-miss-test.true)))

pub loop-miss-preserved : goal.loop-miss-preserved
loop-miss-preserved c =
    let r = c.loop-miss.invariant in
    let p = c.one_play-p in
    let spare = p.ensures.3 in
    one_more r (omega (arith, c.loop-miss-test.true, c.loop-miss.auto.miss-items)) p.ensures.0 _ _
    (rounded_reads _ p.result.sums.east (omega (arith, spare.east)) c.millimetres-east.ensures ∙ ap rounded p.ensures.1)
    (rounded_reads _ p.result.sums.north (omega (arith, spare.north)) c.millimetres-north.ensures ∙ ap rounded p.ensures.2)

pub returns : goal.returns
returns c = at_end c.loop-miss.invariant _ c.loop-miss.auto.miss-items c.loop-miss.auto.miss-index-end c.loop-miss-test.false

-- `Sums::summed` meets its contract.
use Rattle.std.proofs.Common.{arith, [], ◌∷◌}
use lib.ListN.{length-append}
use Rattle.angle.proofs.Ranges.{signed_range}
use Rattle.sums.specs.Sums.{sine, cosine}
use Rattle.play.proofs.Summing.{at_start, one_more, at_end, first_small, near_at}
use Rattle.play.proofs.Zipped.{turn, turns}
use Rattle.play.proofs.sum.Sums.summed.Goals as goal

pub loop-shot-init : goal.loop-shot-init
loop-shot-init c = (at_start sine _ _ _ _ _, at_start cosine _ _ _ _ _)

pub moved-s-requires : goal.moved-s-requires
moved-s-requires c =
    let (spare, small) = c.requires.spare in
    let even = c.requires.samples_len in
    let (east, north) = c.loop-shot.invariant in
    let chunks = c.as_chunks.ensures in
    let zip = c.zip-shot-items.ensures in
    let (more, shot, x, y) = turn c.args.samples.now c.loop-shot.yielded c.loop-shot.shot-iterator c.next.new.self c.next.result even chunks.front chunks.front_len c.into_iter-shot-iterator.ensures.into_iter_gives zip.first c.iter.ensures.rest zip.second.0 c.loop-shot.yielded_by c.next.ensures.steps _ c.in-Some.is in (
      record { east = omega (arith, spare.east, east.small, more); north = omega (arith, spare.north, north.small, more) },
      rw (shot c.in-Some.shot) (near_at _ _ c.in-Some.shot c.args.noisy.near more),
      rw x (first_small _ _ small (omega (arith, more, even))),
      rw y (first_small _ _ small (omega (arith, more, even))),
    )

pub loop-shot-preserved : goal.loop-shot-preserved
loop-shot-preserved c =
    let (spare, small) = c.requires.spare in
    let even = c.requires.samples_len in
    let (east, north) = c.loop-shot.invariant in
    let chunks = c.as_chunks.ensures in
    let zip = c.zip-shot-items.ensures in
    let (more, shot, x, y) = turn c.args.samples.now c.loop-shot.yielded c.loop-shot.shot-iterator c.next.new.self c.next.result even chunks.front chunks.front_len c.into_iter-shot-iterator.ensures.into_iter_gives zip.first c.iter.ensures.rest zip.second.0 c.loop-shot.yielded_by c.next.ensures.steps _ c.in-Some.is in
    let moved = rw (x, y, shot c.in-Some.shot) at c.moved-s.ensures in
    rw (length-append c.loop-shot.yielded ((c.in-Some.field-0-0, c.in-Some.field-0-1) ∷ [])) (
      one_more sine (λ v. (signed_range v).0) _ _ _ _ _ _ _ _ c.in-Some.shot east c.args.noisy.steady_distance more even c.args.noisy.near small moved.0,
      one_more cosine (λ v. (signed_range v).1) _ _ _ _ _ _ _ _ c.in-Some.shot north c.args.noisy.steady_distance more even c.args.noisy.near small moved.1,
    )

pub returns : goal.returns
returns c =
    let (east, north) = c.loop-shot.invariant in
    let chunks = c.as_chunks.ensures in
    let zip = c.zip-shot-items.ensures in
    let all = turns c.args.samples.now c.loop-shot.yielded c.loop-shot.shot-iterator c.next.new.self c.next.result c.requires.samples_len chunks.front chunks.front_len c.into_iter-shot-iterator.ensures.into_iter_gives zip.first c.iter.ensures.rest zip.second.0 c.loop-shot.yielded_by c.next.ensures.steps c.in-None.is in (
      at_end _ _ _ _ _ _ _ _ east (omega (arith, all)),
      at_end _ _ _ _ _ _ _ _ north (omega (arith, all)),
      record { east = omega (arith, east.small, all); north = omega (arith, north.small, all) },
    )

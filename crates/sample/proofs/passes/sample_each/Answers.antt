-- `sample_each` meets its contract: it has written the samples of the first i of the z.
use Rattle.std.proofs.Common.{◌∙◌, ◌+◌, ◌*◌, sym, arith, get_or, set, length-set}
use Rattle.radius.proofs.Ranges.{radius_of_range}
use Rattle.sample.proofs.PassLaws.{radius_taken, rotations_taken}
use Rattle.sample.proofs.ValuesLaws.{values_length, values_set}
use Rattle.sample.proofs.SamplesLaws.{none_sampled, one_sampled, all_sampled}
use Rattle.sample.proofs.StoredLaws.{first_is, second_is, first_read, second_read}
use Rattle.sample.proofs.passes.sample_each.Goals as goal

pub loop-i-init : goal.loop-i-init
loop-i-init g c = none_sampled

pub bounds-x-i : goal.bounds-x-i
bounds-x-i g c = omega (arith, c.loop-i-test.true, c.requires.0.x_room)

pub bounds-r-i : goal.bounds-r-i
bounds-r-i g c = omega (arith, c.loop-i-test.true, c.requires.0.r_room)

pub bounds-coarse-i : goal.bounds-coarse-i
bounds-coarse-i g c = omega (arith, c.loop-i-test.true, c.requires.0.coarse_room)

pub bounds-fine-i : goal.bounds-fine-i
bounds-fine-i g c = omega (arith, c.loop-i-test.true, c.requires.0.fine_room)

pub pair_of-pair-requires : goal.pair_of-pair-requires
pair_of-pair-requires g c =
    (rw (radius_taken c.requires.0 c.loop-i-test.true c.root-f.ensures) (radius_of_range _), rotations_taken c.requires.0 c.loop-i-test.true)

pub bounds-out-i : goal.bounds-out-i
bounds-out-i g c =
    let each = g.met.S.Sample.each in
    omega (arith, c.loop-i-test.true, c.loop-i.invariant.kept, c.requires.1, values_length each c.loop-i.out, values_length each c.args.out.now)

pub bounds-out-i-in-loop-i : goal.bounds-out-i-in-loop-i
bounds-out-i-in-loop-i g c =
    let each = g.met.S.Sample.each in
    simp length-set (omega (arith, c.loop-i-test.true, c.loop-i.invariant.kept, c.requires.1, values_length each c.loop-i.out, values_length each c.args.out.now))

pub loop-i-preserved : goal.loop-i-preserved
loop-i-preserved g c =
    let m = g.S.Sample in
    let each = g.met.S.Sample.each in
    let z = get_or c.args.z.now c.loop-i.i 0 in
    let F-is = radius_taken c.requires.0 c.loop-i-test.true c.root-f.ensures in
    let first = first_read m.bits m.width g.met.S.Sample.holds z (first_is m.bits z c.pair_of-pair.ensures.0 F-is) c.of_units-first.ensures in
    let second = second_read m.bits m.width g.met.S.Sample.holds z (second_is m.bits z c.pair_of-pair.ensures.1 F-is) c.of_units-second.ensures in
    rw (values_set each (set c.loop-i.out (2 * c.loop-i.i) c.of_units-first.result) (2 * c.loop-i.i + 1) c.of_units-second.result, values_set each c.loop-i.out (2 * c.loop-i.i) c.of_units-first.result)
    (one_sampled c.loop-i.invariant (values_length each _ ∙ c.requires.1) c.loop-i-test.true first second)

pub shape_of-out : goal.shape_of-out
shape_of-out g c =
    let each = g.met.S.Sample.each in
    sym (values_length each c.loop-i.out) ∙ c.loop-i.invariant.kept ∙ values_length each c.args.out.now

pub returns : goal.returns
returns g c = all_sampled c.loop-i.invariant (values_length g.met.S.Sample.each _ ∙ c.requires.1) c.loop-i-test.false

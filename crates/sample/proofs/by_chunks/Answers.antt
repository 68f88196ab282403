-- `by_chunks` has written the samples before `at`.
use Rattle.std.proofs.Common.{refl, sym, ◌∙◌, ◌-◌, ◌/◌, arith, rules}
use Rattle.sample.proofs.ValuesLaws.{values_length, values_put_mid}
use Rattle.sample.proofs.ChunkLaws.{start, next_chunk, room_kept, part_kept, asked, again, ended}
use Rattle.sample.proofs.by_chunks.Goals as goal

pub loop-at-init : goal.loop-at-init
loop-at-init g c = start (omega arith)

pub overflow_mul-z : goal.overflow_mul-z
overflow_mul-z g c = omega (arith, c.loop-at.invariant.z_kept, c.requires.1)

pub chunk_end-end-requires : goal.chunk_end-end-requires
chunk_end-end-requires g c =
    let inv = c.loop-at.invariant in
    let each = g.met.S.Sample.each in
    omega (arith, inv.reached.within, inv.reached.length_kept, values_length each c.loop-at.out)

pub overflow_sub-n : goal.overflow_sub-n
overflow_sub-n g c = omega (arith, (next_chunk c.loop-at.invariant (values_length g.met.S.Sample.each _) (values_length g.met.S.Sample.each _) c.requires.1.0 c.requires.2 c.loop-at-test.true c.chunk_end-end.ensures).some)

pub slice_bounds-draw_samples-end : goal.slice_bounds-draw_samples-end
slice_bounds-draw_samples-end g c = omega (arith, (next_chunk c.loop-at.invariant (values_length g.met.S.Sample.each _) (values_length g.met.S.Sample.each _) c.requires.1.0 c.requires.2 c.loop-at-test.true c.chunk_end-end.ensures).few)

pub slice_bounds-draw_samples-start-in-loop-at : goal.slice_bounds-draw_samples-start-in-loop-at
slice_bounds-draw_samples-start-in-loop-at g c = omega (arith, (next_chunk c.loop-at.invariant (values_length g.met.S.Sample.each _) (values_length g.met.S.Sample.each _) c.requires.1.0 c.requires.2 c.loop-at-test.true c.chunk_end-end.ensures).some)

pub slice_bounds-draw_samples-end-in-loop-at : goal.slice_bounds-draw_samples-end-in-loop-at
slice_bounds-draw_samples-end-in-loop-at g c = (next_chunk c.loop-at.invariant (values_length g.met.S.Sample.each _) (values_length g.met.S.Sample.each _) c.requires.1.0 c.requires.2 c.loop-at-test.true c.chunk_end-end.ensures).inside

pub slice_bounds-draw_samples-count-in-loop-at : goal.slice_bounds-draw_samples-count-in-loop-at
slice_bounds-draw_samples-count-in-loop-at g c = omega (arith, (next_chunk c.loop-at.invariant (values_length g.met.S.Sample.each _) (values_length g.met.S.Sample.each _) c.requires.1.0 c.requires.2 c.loop-at-test.true c.chunk_end-end.ensures).some)

pub draw_samples-state-requires : goal.draw_samples-state-requires
draw_samples-state-requires g c =
    let inv = c.loop-at.invariant in
    asked (next_chunk c.loop-at.invariant (values_length g.met.S.Sample.each _) (values_length g.met.S.Sample.each _) c.requires.1.0 c.requires.2 c.loop-at-test.true c.chunk_end-end.ensures) _ refl _ refl (room_kept c.requires.0 inv.z_kept inv.kept)

pub loop-at-smaller : goal.loop-at-smaller
loop-at-smaller g c =
    let chunk = next_chunk c.loop-at.invariant (values_length g.met.S.Sample.each _) (values_length g.met.S.Sample.each _) c.requires.1.0 c.requires.2 c.loop-at-test.true c.chunk_end-end.ensures in
    let each = g.met.S.Sample.each in
    omega (arith, chunk.some, chunk.inside, c.loop-at.invariant.reached.length_kept, values_length each c.loop-at.out, values_length each c.args.out.now)

pub loop-at-preserved : goal.loop-at-preserved
loop-at-preserved g c =
    let inv = c.loop-at.invariant in
    let each = g.met.S.Sample.each in
    let size = values_length each c.loop-at.out in
    record {
      reached = rw (values_put_mid each c.loop-at.at (c.chunk_end-end.result - c.loop-at.at) c.loop-at.out c.draw_samples-state.new.out)
          (again (next_chunk c.loop-at.invariant (values_length g.met.S.Sample.each _) (values_length g.met.S.Sample.each _) c.requires.1.0 c.requires.2 c.loop-at-test.true c.chunk_end-end.ensures) _ refl size inv.reached (sym size ∙ inv.reached.length_kept) c.draw_samples-state.ensures);
      z_kept = part_kept ((c.chunk_end-end.result - c.loop-at.at) / 2 - 0) c.loop-at.z c.draw_samples-state.new.z
          (search rules) inv.z_kept;
      kept = record {
        places_kept = search rules;
        r_kept = search rules;
        x_kept = search rules;
        coarse_kept = search rules;
        fine_kept = search rules;
      };
    }

pub shape_of-z : goal.shape_of-z
shape_of-z g c = c.loop-at.invariant.z_kept

pub shape_of-places : goal.shape_of-places
shape_of-places g c = c.loop-at.invariant.kept.places_kept

pub shape_of-r : goal.shape_of-r
shape_of-r g c = c.loop-at.invariant.kept.r_kept

pub shape_of-x : goal.shape_of-x
shape_of-x g c = c.loop-at.invariant.kept.x_kept

pub shape_of-coarse : goal.shape_of-coarse
shape_of-coarse g c = c.loop-at.invariant.kept.coarse_kept

pub shape_of-fine : goal.shape_of-fine
shape_of-fine g c = c.loop-at.invariant.kept.fine_kept

pub shape_of-out : goal.shape_of-out
shape_of-out g c =
    let each = g.met.S.Sample.each in
    sym (values_length each c.loop-at.out) ∙ c.loop-at.invariant.reached.length_kept ∙ values_length each c.args.out.now

pub returns : goal.returns
returns g c =
    let reached = c.loop-at.invariant.reached in
    let each = g.met.S.Sample.each in
    ended reached (values_length each _) (omega (arith, c.loop-at-test.false, reached.length_kept, values_length each c.loop-at.out, values_length each c.args.out.now))

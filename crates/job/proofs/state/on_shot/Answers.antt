-- `job::state::on_shot` meets its contract.
use Rattle.std.proofs.Common.{ap, arith, refl}
use Rattle.streams.specs.declared.RecordAnswer.{RecordAnswer}
use Rattle.job.specs.Job.{setting_after}
use Rattle.job.specs.Private.{accepted_state, accepted_buffer}
use Rattle.job_reader.proofs.Accepted.{line_few, shot_within}
use Rattle.job.proofs.Bounds.{noise_on}
use Rattle.job.proofs.state.on_shot.Goals as goal

pub overflow_cast-x : goal.overflow_cast-x
overflow_cast-x c = omega (arith, shot_within _ _ _ _ _ c.requires.accepted)

pub overflow_cast-x-2 : goal.overflow_cast-x-2
overflow_cast-x-2 c = omega (arith, shot_within _ _ _ _ _ c.requires.accepted)

pub add_shot-after-requires : goal.add_shot-after-requires
add_shot-after-requires c =
    let at = c in
    let row = noise_on at.args.line.now at.args.x at.args.s.read.setting _ _ _ c.pair-pair.ensures.memory c.noisy_distance-mm.ensures
    c.noisy_bearing-step.ensures in
    record { short = at.requires.short; room = rw row at.requires.row }

pub overflow_add-result : goal.overflow_add-result
overflow_add-result c = omega (arith, line_few _ _ c.requires.accepted)

pub returns : goal.returns
unfolding accepted_state accepted_buffer setting_after
returns c =
    let at = c in
    let row = noise_on at.args.line.now at.args.x at.args.s.read.setting _ _ _ c.pair-pair.ensures.memory c.noisy_distance-mm.ensures c.noisy_bearing-step.ensures in
    let a = c.add_shot-after.ensures in
    rw (← row, ← (ap (λ (r : RecordAnswer). r.next) c.pair-pair.ensures.answer), ← a.0) (refl, a.1)

pub shape_of-out : goal.shape_of-out
shape_of-out c = c.add_shot-after.auto.out

-- `played` meets its contract.
use Rattle.std.proofs.Common.{arith, refl}
use Rattle.std.proofs.lemmas.Result.{err_from_is_err_and}
use Rattle.job_reader.proofs.Refused.{code_positive}
use Rattle.play.proofs.Answered.{play_refused, few, play_full, near, steady, shots_few, pairs, play_accepted}
use Rattle.play.proofs.played.Goals as goal

pub returns-in_err-read : goal.returns-in_err-read
returns-in_err-read c =
    let p = err_from_is_err_and c.from_residual.result c.from_residual.ensures.1 in
    let t = play_refused c.args.text.now c.args.first c.args.misses.now _ c.in_err-read.ensures.answer (code_positive c.in_err-read.field-0.0) in
    rw (p.1, p.2) (record { answer = t.0; memory = t.1 })

pub overflow_cast-n : goal.overflow_cast-n
overflow_cast-n c =
    omega (arith, few c.args.text.now c.args.first c.args.misses.now _ c.in_ok-read.ensures.answer refl)

pub returns-then-not-has_room : goal.returns-then-not-has_room
returns-then-not-has_room c =
    let t = play_full c.args.text.now c.args.first c.args.misses.now _ c.in_ok-read.ensures.answer refl _ c.has_room.ensures c.if-not-has_room.true in
    record { answer = t.0; memory = t.1 }

pub slice_bounds-noisy-end : goal.slice_bounds-noisy-end
slice_bounds-noisy-end c =
    omega (arith, few c.args.text.now c.args.first c.args.misses.now _ c.in_ok-read.ensures.answer refl, c.requires, c.read_loop.auto)

pub invariant_of-noisy : goal.invariant_of-noisy
invariant_of-noisy c =
    let text = c.args.text.now in
    let first = c.args.first in
    let old = c.args.misses.now in
    let answer = c.in_ok-read.ensures.answer in
    let kept = c.in_ok-read.ensures.memory in
    let room = c.has_room.ensures in
    let left = c.if-not-has_room.false in
    let steady = steady text first old _ answer refl _ room _ _ c.requires kept left in
    record {
      steady_distance = steady.sigma_distance;
      steady_bearing = steady.sigma_bearing;
      near = near text first old _ answer refl _ room _ _ c.requires kept left;
      few = shots_few text first old _ answer refl _ room _ _ c.requires kept left;
    }

pub plays-requires : goal.plays-requires
plays-requires c =
    pairs c.args.text.now c.args.first c.args.misses.now _ c.in_ok-read.ensures.answer refl _ c.has_room.ensures _ _ c.requires c.in_ok-read.ensures.memory c.if-not-has_room.false

pub returns : goal.returns
returns c =
    let t = play_accepted c.args.text.now c.args.first c.args.misses.now _ c.in_ok-read.ensures.answer refl _ c.has_room.ensures _ _ c.requires c.in_ok-read.ensures.memory c.if-not-has_room.false _ c.plays.ensures in
    record { answer = t.0; memory = t.1 }

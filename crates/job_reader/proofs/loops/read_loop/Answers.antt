-- `read_loop` meets its contract.
use Rattle.std.proofs.Common.{refl}
use Rattle.std.proofs.lemmas.Result.{err_from_is_err_and}
use Rattle.job_reader.specs.Loop.{answer_of}
use Rattle.job_reader.proofs.Ending.{loop_long, loop_ended}
use Rattle.job_reader.proofs.loops.read_loop.Goals as goal

pub returns-then-text-gt-MOST_BYTES : goal.returns-then-text-gt-MOST_BYTES
unfolding answer_of
returns-then-text-gt-MOST_BYTES c =
    let (long, kept) = loop_long c.args.text.now c.args.shots.now c.if-text-gt-MOST_BYTES.true in
    rw (long, kept) (record { answer = refl; memory = refl })

pub returns-in_err-walk : goal.returns-in_err-walk
unfolding answer_of
returns-in_err-walk c =
    let p = err_from_is_err_and c.from_residual.result c.from_residual.ensures.1 in
    let done = loop_ended c.args.text.now _ _ _ c.if-text-gt-MOST_BYTES.false c.in_err-walk.ensures in
    rw (p.1, p.2) (record { answer = done.0; memory = done.1 })

pub returns : goal.returns
returns c =
    let done = loop_ended c.args.text.now _ _ _ c.if-text-gt-MOST_BYTES.false c.in_ok-walk.ensures in
    record { answer = done.0; memory = done.1 }

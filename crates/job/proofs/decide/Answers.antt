-- `job::decide` meets its contract.
use Rattle.std.proofs.Common.{arith}
use Rattle.std.proofs.lemmas.Result.{err_from_is_err_and}
use Rattle.job.proofs.Answered.{judged_refused, judged_listed, line_decides, measured_long, measured_fits}
use Rattle.job.proofs.Theorems.{listing_short}
use Rattle.job.proofs.decide.Goals as goal

pub returns-in_err-first_bad : goal.returns-in_err-first_bad
returns-in_err-first_bad c =
    let p = err_from_is_err_and c.from_residual.result c.from_residual.ensures.1 in
    rw (p.1, p.2) (line_decides _ _ _ (judged_refused c.args.text.now _ c.in_err-first_bad.ensures))

pub returns-then-room-ge-LONGEST_LISTING : goal.returns-then-room-ge-LONGEST_LISTING
returns-then-room-ge-LONGEST_LISTING c =
    let (bytes, e) = judged_listed c.args.text.now c.in_ok-first_bad.ensures in
    (bytes, e, omega (arith, listing_short c.args.text.now bytes e, c.if-room-ge-LONGEST_LISTING.true))

pub returns-in_err-length : goal.returns-in_err-length
returns-in_err-length c =
    let p = err_from_is_err_and c.from_residual-in_err-length.result c.from_residual-in_err-length.ensures.1 in
    rw (p.1, p.2) (line_decides _ _ _ c.in_err-length.ensures)

pub returns-then-room-length : goal.returns-then-room-length
returns-then-room-length c = measured_long _ _ _ _ _ c.in_ok-length.ensures c.if-room-length.true

pub returns : goal.returns
returns c = measured_fits _ _ _ _ _ c.in_ok-length.ensures c.if-room-length.false

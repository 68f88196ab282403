-- `survex::walk::grown` meets its contract.
use Rattle.std.proofs.Common.{◌+◌, arith, sym}
use Rattle.survex.specs.Private.{grown_of}
use Rattle.survex.proofs.Measures.{measured_fits, measured_over}
use Rattle.survex.proofs.walk.grown.Goals as goal

pub returns-in_err-used : goal.returns-in_err-used
unfolding grown_of
returns-in_err-used c = rw (c.from_residual.ensures, c.in_err-used.was)

pub returns-in_err-left : goal.returns-in_err-left
unfolding grown_of
returns-in_err-left c =
    rw (c.from_residual-in_err-left.ensures, c.in_ok-used.was)
    (sym (measured_over c.args.room (c.in_ok-used.used + c.args.n) (omega (arith, c.in_err-left.ensures))))

pub returns-in_err-checked_sub : goal.returns-in_err-checked_sub
unfolding grown_of
returns-in_err-checked_sub c =
    rw (c.from_residual-in_err-checked_sub.ensures, c.in_ok-used.was)
    (sym (measured_over c.args.room (c.in_ok-used.used + c.args.n) (omega (arith, c.in_ok-left.ensures, c.in_err-checked_sub.ensures))))

pub returns : goal.returns
unfolding grown_of
returns c =
    rw c.in_ok-used.was
    (sym (measured_fits c.args.room (c.in_ok-used.used + c.args.n) (omega (arith, c.in_ok-left.ensures, c.in_ok-checked_sub.ensures))))

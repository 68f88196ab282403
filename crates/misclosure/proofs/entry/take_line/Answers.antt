-- `take_line` meets its contract.
use Rattle.std.proofs.Common.{sym}
use Rattle.std.proofs.lemmas.Result.{err_from_is_err_and}
use Rattle.misclosure.proofs.Lines.{any_end, neither_6}
use Rattle.misclosure.proofs.entry.take_line.Goals as goal

pub returns-in_err-check_end-in-End : goal.returns-in_err-check_end-in-End
returns-in_err-check_end-in-End c =
    let p = err_from_is_err_and c.from_residual.result c.from_residual.ensures.1 in
    rw (p.1, p.2, ← c.read_entry.ensures, c.in-Some.is, c.in-End.is) (record { code = any_end _ _ _ c.in_err-check_end-in-End.ensures; next = tt })

pub returns-in_ok-check_end-in-End : goal.returns-in_ok-check_end-in-End
returns-in_ok-check_end-in-End c = rw (← c.read_entry.ensures, c.in-Some.is, c.in-End.is) (record { code = any_end _ _ _ c.in_ok-check_end-in-End.ensures; next = tt })

pub returns-in_default : goal.returns-in_default
returns-in_default c = rw (← c.read_entry.ensures, c.in_default.is) (record { code = sym (neither_6 c.args.s.line c.args.s.station.now); next = tt })

-- `survex::walk::convert` meets its contract.
use Rattle.std.proofs.lemmas.Result.{err_from_is_err_and}
use Rattle.survex.proofs.Walks.{refused_converts}
use Rattle.survex.proofs.walk.convert.Goals as goal

pub returns-in_err-first : goal.returns-in_err-first
returns-in_err-first c =
    let p = err_from_is_err_and c.from_residual.result c.from_residual.ensures.1 in
    rw (p.1, p.2) (refused_converts _ _ _ _ _ _ c.in_err-first.ensures)

pub walk-requires : goal.walk-requires
walk-requires c = c.in_ok-first.ensures.1

pub returns : goal.returns
returns c = rw c.in_ok-first.ensures.0 c.walk.ensures

-- `on_shot` meets its contract: the first of its three causes, or the shot.
use Rattle.std.proofs.lemmas.Result.{err_from_is_err_and}
use Rattle.misclosure.proofs.Lines.{same_code, shot_limited}
use Rattle.misclosure.proofs.entry.on_shot.Goals as goal

pub returns-in_err-check_shot : goal.returns-in_err-check_shot
returns-in_err-check_shot c =
    let p = err_from_is_err_and c.from_residual.result c.from_residual.ensures.1 in
    rw (p.1, p.2) (record { code = same_code c.args.line.now c.args.s c.args.x c.part.ensures c.in_err-check_shot.ensures; next = tt })

pub moved-requires : goal.moved-requires
moved-requires c = shot_limited c.args.line.now c.args.s c.args.x c.part.ensures c.in_ok-check_shot.ensures

pub returns : goal.returns
returns c = record { code = same_code c.args.line.now c.args.s c.args.x c.part.ensures c.in_ok-check_shot.ensures; next = c.moved.ensures }

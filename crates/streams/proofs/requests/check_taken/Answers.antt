-- `check_taken` is `taken_code`.
use Rattle.std.proofs.Common.{◌*◌, arith, eq-eqb, ne_eqb}
use Rattle.streams.specs.Streams.{taken_code}
use Rattle.streams.proofs.Refused.{asked_too_many}
use Rattle.streams.proofs.requests.check_taken.Goals as goal

pub returns-in_err-check_asked : goal.returns-in_err-check_asked
returns-in_err-check_asked c = asked_too_many _ _ _ _ c.from_residual.ensures.1 (c.in_err-check_asked.ensures)

pub returns-then-n-g : goal.returns-then-n-g
unfolding taken_code
returns-then-n-g c =
    let start = c in
    let other = ne_eqb start.args.n (2 * start.args.g.asked) (λ z. absurd (omega (arith, z, c.if-n-g.true))) in
    rw (← c.in_ok-check_asked.ensures, other)

pub returns : goal.returns
unfolding taken_code
returns c =
    let start = c in
    let same = eq-eqb start.args.n (2 * start.args.g.asked) (omega (arith, c.if-n-g.false)) in
    rw (← c.in_ok-check_asked.ensures, same)

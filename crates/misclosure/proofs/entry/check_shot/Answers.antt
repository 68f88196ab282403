-- `check_shot` is `refusal` of a shot: the first of its three causes.
use Rattle.std.proofs.Common.{arith, sym, ◌∙◌, lt-ltb, le-ltb}
use Rattle.misclosure.specs.Misclosure.{refusal}
use Rattle.job_lines.specs.Links.{station_code}
use Rattle.misclosure.proofs.entry.check_shot.Goals as goal

pub returns-then-is_beyond : goal.returns-then-is_beyond
unfolding refusal
returns-then-is_beyond c = rw (sym c.is_beyond.ensures ∙ c.if-is_beyond.true)

pub returns-then-x : goal.returns-then-x
unfolding refusal
returns-then-x c = rw (sym c.is_beyond.ensures ∙ c.if-is_beyond.false, lt-ltb c.args.x.high c.args.x.low c.if-x.true)

pub returns-then-not-follows : goal.returns-then-not-follows
unfolding refusal station_code
returns-then-not-follows c =
    rw (sym c.is_beyond.ensures ∙ c.if-is_beyond.false, le-ltb c.args.x.high c.args.x.low (omega (arith, c.if-x.false)), sym c.follows.ensures ∙ c.if-not-follows.true)

pub returns : goal.returns
unfolding refusal station_code
returns c =
    rw (sym c.is_beyond.ensures ∙ c.if-is_beyond.false, le-ltb c.args.x.high c.args.x.low (omega (arith, c.if-x.false)), sym c.follows.ensures ∙ c.if-not-follows.false)

-- The next line is the first of what is left.
use Rattle.std.proofs.Common.{arith, rules, sym, ap, ◌<◌, ◌∙◌, length}
use Rattle.text.specs.Scan.{lines}
use Rattle.text.proofs.Split.{no_lines, lines_next, first_length}
use Rattle.text.proofs.line.LinesIterator.next.Goals as goal

pub returns-then-is_empty-clause-steps : goal.returns-then-is_empty-clause-steps
returns-then-is_empty-clause-steps c = let e = no_lines _ (sym c.is_empty.ensures ∙ c.if-is_empty.true) in (e, e)

pub split_at-requires : goal.split_at-requires
split_at-requires c = omega (arith, c.line_end.ensures, first_length c.args.self.now.rest.now)

pub returns-clause-steps : goal.returns-clause-steps
returns-clause-steps c =
    rw (c.split_at.ensures.front, c.split_at.ensures.back)
    (lines_next _ _ (sym c.is_empty.ensures ∙ c.if-is_empty.false) c.line_end.ensures)

pub returns-clause-goes : goal.returns-clause-goes
returns-clause-goes c =
    let e = returns-clause-steps c in
    let k : length (lines c.split_at.result.1.now) < length (lines c.args.self.now.rest.now) = omega (arith, ap length e) in
    search rules

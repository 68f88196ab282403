-- `is_between` meets its contract: the first line is that header.
use Rattle.std.proofs.Common.{rules}
use Rattle.misclosure.proofs.Going.{header_told}
use Rattle.misclosure.proofs.is_between.Goals as goal

pub returns : goal.returns
returns c = header_told c.lines_of.result c.next.new.self c.args.text.now (rw c.lines_of.ensures) c.next.result c.next.ensures.steps c.is_some_and.ensures (λ x h. search rules)

-- `read_listing` meets its contract: the header, then the lines after it.
use Rattle.std.proofs.Common.{sym, ◌∙◌}
use Rattle.misclosure.proofs.Going.{none_left, header_on, header_off, no_header, refused_sums_lem}
use Rattle.misclosure.proofs.walk.read_listing.Goals as goal

pub returns-in_default : goal.returns-in_default
returns-in_default c =
    let e = none_left c.lines_of-rest.result c.next.new.self c.next.result c.next.ensures.steps c.in_default.not-Some in
    rw c.misplaced.ensures (refused_sums_lem _ 6 1 (no_header c.args.text.now (rw c.lines_of-rest.ensures at e) _))

pub returns-then-not-is_header : goal.returns-then-not-is_header
returns-then-not-is_header c =
    let e = rw c.lines_of-rest.ensures at c.in-Some.ensures.steps in
    rw c.misplaced-then-not-is_header.ensures
    (refused_sums_lem _ 6 1 (header_off _ c.args.text.now _ _ e (sym c.is_header.ensures ∙ c.if-not-is_header.true)))

pub returns : goal.returns
returns c =
    let e = rw c.lines_of-rest.ensures at c.in-Some.ensures.steps in
    rw (header_on _ c.args.text.now _ _ e (sym c.is_header.ensures ∙ c.if-not-is_header.false)) c.walk.ensures

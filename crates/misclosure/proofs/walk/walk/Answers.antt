-- `walk` meets its contract: line after line, up to one that is refused, the end, or the end of the text.
use Rattle.std.proofs.Common.{sym, ap, ◌∙◌, rules, Ok}
use Rattle.std.proofs.lemmas.Result.{err_from_is_err_and}
use Rattle.misclosure.proofs.Going.{going_start, none_left, line_accepted, line_refused, line_on, line_last, all_taken, refused_sums_lem}
use Rattle.misclosure.proofs.walk.walk.Goals as goal

pub loop-line-init : goal.loop-line-init
loop-line-init c =
    let (line, station, east, north) = c.first_state-s.ensures in
    going_start _ _ _ _ _ _ line station east north

pub returns-in_err-taken : goal.returns-in_err-taken
returns-in_err-taken c =
    let p = err_from_is_err_and c.from_residual.result c.from_residual.ensures.1 in
    let is = line_refused c.loop-line.s c.loop-line.invariant c.in-Some.ensures.steps _ c.take_line.result c.map_err.result _ c.take_line.ensures
    c.in_err-taken.was c.map_err.ensures.cases (λ cause h. search rules) in
    rw (p.1, p.2) is

pub loop-line-preserved : goal.loop-line-preserved
loop-line-preserved c =
    let is = line_accepted _ c.take_line.result c.map_err.result _ c.in_ok-taken.was c.map_err.ensures.cases ∙ ap Ok c.in-Some-taken.is in
    line_on c.loop-line.s c.loop-line.invariant c.in-Some.ensures.steps _ (rw is at c.take_line.ensures)

pub returns-in-None : goal.returns-in-None
returns-in-None c =
    let is = line_accepted _ c.take_line.result c.map_err.result _ c.in_ok-taken.was c.map_err.ensures.cases ∙ ap Ok c.in-None.is in
    c.ended.ensures ∙ sym (line_last c.loop-line.s c.loop-line.invariant c.in-Some.ensures.steps (rw is at c.take_line.ensures))

pub returns : goal.returns
returns c =
    let g = c.loop-line.invariant in
    let e = none_left c.loop-line.rest c.next.new.self c.next.result c.next.ensures.steps c.in_default.not-Some in
    rw c.misplaced.ensures (refused_sums_lem _ 6 _ (all_taken (rw e at g)))

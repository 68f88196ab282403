-- `text::line::scan` meets its contract.
use Rattle.std.proofs.Common.{rules, ℕ, ap, ◌∙◌, ◌+◌}
use Rattle.std.specs.List.{list_any}
use lib.Dec.{eqb}
use Rattle.std.proofs.lemmas.Iterator.{YieldsList-from_slice}
use Rattle.std.proofs.lemmas.Iterator.Search.{position_from_yields_List}
use Rattle.text.specs.Scan.{one_of}
use borrow.Author.Tests.{tests}
use Rattle.text.proofs.Scan.{one_of_any, place_or_end, rest_from}
use Rattle.text.proofs.line.scan.Goals as goal

pub returns : goal.returns
returns c =
    let stops = c.args.stops.now in
    let found = position_from_yields_List (λ b. list_any (λ y. eqb y b) stops) _ _ c.position.result c.position.ensures.ran (YieldsList-from_slice _ c.iter.ensures.rest) (λ x b q k. search (rules, tests)) in
    let e = c.unwrap_or.ensures ∙ place_or_end _ (one_of stops) (one_of_any stops) _ _ found in
    ap (λ (n : ℕ). c.args.at + n) (e ∙ rw (rest_from _ _ _ c.min.ensures))

-- `survex_reader::lines::skip_blanks` meets its contract.
use Rattle.std.proofs.Common.{rules, ℕ, refl, ap, ◌∙◌, ◌+◌}
use Rattle.std.proofs.lemmas.Iterator.{YieldsList-from_slice}
use Rattle.std.proofs.lemmas.Iterator.Search.{position_from_yields_List}
use borrow.Author.Tests.{tests}
use Rattle.text.proofs.Scan.{place_or_end, rest_from}
use Rattle.survex_reader.specs.Lines.{not_blank}
use Rattle.survex_reader.proofs.lines.skip_blanks.Goals as goal

pub returns : goal.returns
returns c =
    let found = position_from_yields_List not_blank _ _ c.position.result c.position.ensures.ran (YieldsList-from_slice _ c.iter.ensures.rest) (λ x b q k. search (rules, tests)) in
    let e = c.unwrap_or.ensures ∙ place_or_end not_blank not_blank (λ b. refl) _ _ found in
    ap (λ (n : ℕ). c.args.at + n) (e ∙ rw (rest_from _ _ _ c.min.ensures))

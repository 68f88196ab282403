-- `text::field::is_name` meets its contract.
use Rattle.std.proofs.Common.{rules, sym, length, ltb, ◌∙◌, le-leb, lt-ltb, le-ltb}
use Rattle.std.proofs.lemmas.Iterator.{YieldsList-from_slice}
use Rattle.std.proofs.lemmas.Iterator.Search.{all_from_yields_List}
use Rattle.std.specs.Char.{is_ascii_alphanumeric}
use mathlib.Core.Bool.{and-false}
use borrow.Author.Tests.{tests, lt-leb}
use Rattle.text.specs.Fields.{name, letter_or_digit}
use Rattle.text.proofs.Scan.{all_is, alphanumeric, empty, some}
use Rattle.text.proofs.field.is_name.Goals as goal

pub returns-then-is_empty : goal.returns-then-is_empty
unfolding name
returns-then-is_empty c = rw (le-ltb 0 (length c.args.part.now) (empty _ (sym c.is_empty.ensures ∙ c.if-is_empty.true)))

pub returns-then-part-gt-NAME_LENGTH : goal.returns-then-part-gt-NAME_LENGTH
unfolding name
returns-then-part-gt-NAME_LENGTH c =
    rw (lt-leb _ 12 c.if-part-gt-NAME_LENGTH.true) (sym (rw (and-false (ltb 0 (length c.args.part.now)))))

pub returns : goal.returns
unfolding name
returns c =
    let l = c.args.part.now in
    let t = all_from_yields_List is_ascii_alphanumeric _ _ c.all.result c.all.ensures.ran (YieldsList-from_slice l c.iter.ensures.rest) (λ x b q k. search (rules, tests)) in
    rw (lt-ltb 0 (length l) (some _ (sym c.is_empty.ensures ∙ c.if-is_empty.false)), le-leb _ 12 c.if-part-gt-NAME_LENGTH.false)
    (t ∙ all_is is_ascii_alphanumeric letter_or_digit alphanumeric l)

-- `survex_reader::leg::digits_up_to` meets its contract.
use Rattle.std.proofs.Common.{sym, ◌∙◌}
use Rattle.text.proofs.Scan.{some}
use Rattle.survex_reader.proofs.Numbers.{digits_few}
use Rattle.survex_reader.proofs.leg.digits_up_to.Goals as goal

pub returns : goal.returns
returns c =
    let e = digits_few c.args.most c.args.part.now (some _ (sym c.is_empty.ensures ∙ c.if-is_empty.false)) c.if-most-part.false c.requires in
    rw (← e) c.digits_value.ensures

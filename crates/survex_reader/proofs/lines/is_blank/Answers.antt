-- `survex_reader::lines::is_blank` meets its contract.
use Rattle.std.proofs.Common.{◌∙◌}
use Rattle.text.proofs.Scan.{one_of_any}
use Rattle.survex_reader.proofs.lines.is_blank.Goals as goal

pub returns : goal.returns
returns c = c.contains.ensures.value ∙ one_of_any _ _

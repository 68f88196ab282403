-- `tested`: where the record and the name pass, the place decides.
use Rattle.std.proofs.Common.{◌∙◌, ap}
use Rattle.streams.specs.Refusals.{code_of_result}
use Rattle.marks.specs.Codes.{mark_code}
use Rattle.marks.proofs.Tested.{at_place, place_is}
use Rattle.marks.proofs.call.tested.Goals as goal

pub returns : goal.returns
returns c =
    at_place (ap code_of_result c.in_ok-busy.was) c.in_ok-check_name.ensures (ap mark_code c.ok_or.ensures.value ∙ place_is _ _ c.requires)

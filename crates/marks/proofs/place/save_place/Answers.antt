-- `save_place` is `save_place`, and a place of the set.
use Rattle.std.proofs.Common.{rules}
use Rattle.marks.proofs.Tested.{held_or_free}
use Rattle.marks.proofs.place.save_place.Goals as goal

pub returns-clause-place : goal.returns-clause-place
returns-clause-place c = held_or_free _ c.told-labels _ c.place_of.result c.or_else.result c.place_of.ensures c.or_else.ensures (λ h. search rules)

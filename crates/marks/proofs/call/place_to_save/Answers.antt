-- `place_to_save` is `place_to_save`: the causes of its record, its name and its place in their order.
use Rattle.std.proofs.Common.{◌∙◌}
use Rattle.marks.specs.Marks.{place_to_save}
use Rattle.marks.proofs.Placing.{both, placed_is, save_inside}
use Rattle.marks.proofs.call.place_to_save.Goals as goal

pub returns : goal.returns
unfolding place_to_save
returns c =
    let first = c.save_place-found.ensures.place in
    let code_is = rw (first, c.check_idle.ensures) at c.tested.ensures in
    let (placed, within) = both (save_inside _ _ _) (c.of.ensures ∙ placed_is code_is first) in
    record { placed = placed; within = within }

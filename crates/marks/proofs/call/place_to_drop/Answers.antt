-- `place_to_drop` is `place_to_drop`: the causes of its name and its place in their order.
use Rattle.std.proofs.Common.{◌≡◌, ap, ◌∙◌, length, rules}
use Rattle.marks.specs.Codes.{or_places}
use Rattle.marks.specs.Marks.{has_name, place_to_drop}
use Rattle.marks.proofs.Searches.{found_first}
use Rattle.marks.proofs.Placing.{both, placed_is, drop_inside}
use Rattle.marks.proofs.call.place_to_drop.Goals as goal

pub returns : goal.returns
unfolding place_to_drop
returns c =
    let size : length c.args.labels ≡ 16 = search rules in
    let first = ap or_places c.place_of-found.ensures ∙ found_first (has_name c.args.name.now) c.args.labels size in
    let code_is = rw first at c.tested.ensures in
    let (placed, within) = both (drop_inside _ _) (c.of.ensures ∙ placed_is code_is first) in
    record { placed = placed; within = within }

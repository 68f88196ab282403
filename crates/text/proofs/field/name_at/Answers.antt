-- `text::field::name_at` meets its contract.
use Rattle.text.proofs.field.name_at.Goals as goal

pub returns : goal.returns
returns c = rw (← c.part.ensures) c.is_name.ensures

pub part-requires : goal.part-requires
part-requires c = tt

pub is_name-requires : goal.is_name-requires
is_name-requires c = tt

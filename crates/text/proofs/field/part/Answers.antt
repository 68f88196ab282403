-- `text::field::part` meets its contract.
use Rattle.std.proofs.Common.{ℕ, Bor, List, ap, ◌∙◌, refl}
use Rattle.text.proofs.Scan.{part_got}
use Rattle.text.proofs.field.part.Goals as goal

pub returns : goal.returns
returns c = ap (λ (x : Bor (List ℕ)). x.now) c.unwrap_or.ensures ∙ part_got _ c.args.place c.get.result _ refl c.get.ensures.lookup

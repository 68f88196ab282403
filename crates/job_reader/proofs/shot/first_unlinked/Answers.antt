-- `job_reader::shot::first_unlinked` meets its contract.
use Rattle.std.proofs.Common.{◌≡◌, ℕ, refl, ◌∙◌}
use Rattle.std.specs.Prelude.{Option, Some, None}
use Rattle.std.specs.Option.{option_or}
use Rattle.job_reader.specs.Private.{first_unlinked}
use Rattle.job_reader.proofs.shot.first_unlinked.Goals as goal

linked : (u : Option ℕ) (k : ℕ) → u ≡ first_unlinked u k 0
unfolding first_unlinked
linked (Some n) k = refl
linked None k = refl

not_linked : (u : Option ℕ) (k : ℕ) → option_or u (Some k) ≡ first_unlinked u k 23
unfolding first_unlinked
not_linked (Some n) k = refl
not_linked None k = refl

pub returns-then-linked : goal.returns-then-linked
returns-then-linked c = rw c.if-linked.true (linked _ _)

pub returns : goal.returns
returns c = rw c.if-linked.false (c.or.ensures ∙ not_linked _ _)

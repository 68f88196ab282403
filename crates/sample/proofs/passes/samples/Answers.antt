-- `samples` meets its contract: each pass leaves what the next one asks for.
use Rattle.std.proofs.Common.{rules}
use Rattle.sample.proofs.PassLaws.{ready}
use Rattle.sample.proofs.passes.samples.Goals as goal

pub sample_each-requires : goal.sample_each-requires
sample_each-requires g c = (
  ready c.look_up.ensures (λ j. (c.type_inv.z j).fits) c.under_roots.ensures c.nears.ensures (search rules) (search rules),
  c.requires.1,
)

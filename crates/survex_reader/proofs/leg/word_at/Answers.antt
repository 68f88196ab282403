-- `survex_reader::leg::word_at` meets its contract.
use Rattle.survex_reader.specs.Legs.{word_at}
use Rattle.survex_reader.proofs.leg.word_at.Goals as goal

pub returns : goal.returns
unfolding word_at
returns c = rw (c.scan.ensures, c.skip_blanks-from.ensures)

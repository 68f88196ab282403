-- `in_chunks` goes by chunks, where the length is even.
use Rattle.sample.proofs.ValuesLaws.{values_length}
use Rattle.sample.proofs.ChunkLaws.{filled_even, filled_odd}
use Rattle.sample.proofs.in_chunks.Goals as goal

pub returns-then-out-ne0 : goal.returns-then-out-ne0
returns-then-out-ne0 g c = filled_odd (values_length g.met.S.Sample.each _) c.if-out-ne0.true

pub returns : goal.returns
returns g c = filled_even (values_length g.met.S.Sample.each _) c.if-out-ne0.false c.by_chunks.ensures

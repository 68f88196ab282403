-- `text::buffer::Writer::put_field` meets its contract.
use Rattle.text.proofs.Writing.{then_writes}
use Rattle.text.proofs.buffer.Writer.put_field.Goals as goal

pub returns : goal.returns
returns c = then_writes c.put.ensures c.put_byte.ensures

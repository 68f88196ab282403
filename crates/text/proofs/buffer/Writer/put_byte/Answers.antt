-- `text::buffer::Writer::put_byte` meets its contract.
use Rattle.std.proofs.Common.{refl}
use Rattle.text.proofs.Writing.{put_one, put_none}
use Rattle.text.proofs.buffer.Writer.put_byte.Goals as goal

pub returns-then-self : goal.returns-then-self
returns-then-self c = record { same_buffer = refl; puts = put_one _ _ c.args.byte c.if-self.true }

pub returns-else-self : goal.returns-else-self
returns-else-self c = record { same_buffer = refl; puts = put_none _ _ c.args.byte c.if-self.false }

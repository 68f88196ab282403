-- `text::buffer::put` meets its contract.
use Rattle.std.proofs.Common.{arith}
use Rattle.text.proofs.Writing.{put_next, put_part}
use Rattle.text.proofs.buffer.put.Goals as goal

pub returns : goal.returns
returns c =
    let u = c.min-start.ensures in
    let e = c.min-n.ensures in (
      put_next c.args.out.now _ c.args.bytes.now _ _ u e,
      rw c.copy_from_slice.ensures.after (put_part c.args.out.now _ c.args.bytes.now _ _ u e _ _ (omega arith) (omega arith)),
    )

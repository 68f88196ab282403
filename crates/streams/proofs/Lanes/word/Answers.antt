-- `Lanes::word` gives both draws: exclusive-or works on each half apart.
use Rattle.streams.specs.Streams.{output}
use Rattle.streams.specs.Lanes.{word_of}
use Rattle.streams.proofs.Halves.{xor_three}
use Rattle.streams.proofs.Lanes.word.Goals as goal

pub returns : goal.returns
unfolding word_of output
returns c = let u = c.args.self in xor_three 32 u.s0 u.s1 u.s2

-- `Lanes::advanced` steps both halves: the law of both halves at the three parameters of the family.
use Rattle.std.proofs.Common.{arith}
use Rattle.streams.specs.Streams.{advance}
use Rattle.streams.proofs.Halves.{double_step, halves_step}
use Rattle.streams.proofs.Lanes.advanced.Goals as goal

pub returns : goal.returns
unfolding advance double_step
returns c = λ i. record {
  s0 = halves_step 31 13 12 (omega arith) (omega arith) c.args.self.s0 (omega arith) i;
  s1 = halves_step 29 2 4 (omega arith) (omega arith) c.args.self.s1 (omega arith) i;
  s2 = halves_step 28 3 17 (omega arith) (omega arith) c.args.self.s2 (omega arith) i;
}

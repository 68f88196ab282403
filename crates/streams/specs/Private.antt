-- For private functions; no public contract cites these.
use Rattle.std.specs.Prelude.{◌+◌, ◌*◌, ◌^◌}
use Rattle.streams.specs.declared.Stream.{Stream}
use Rattle.streams.specs.declared.Lanes.{Lanes}

-- Two streams side by side: each register of a in the upper half of a number of 64 bits, and that of b in the lower.
abbrev pub lanes_of : Stream → Stream → Lanes
lanes_of a b = record {
  s0 = a.s0 * 2 ^ 32 + b.s0;
  s1 = a.s1 * 2 ^ 32 + b.s1;
  s2 = a.s2 * 2 ^ 32 + b.s2;
}

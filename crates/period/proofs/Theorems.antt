-- The theorems of specs/Theorems.antt.
use native.Mathlib.Omega.{arith}
use Rattle.period.specs.Cycle.{cycle}
use Rattle.period.specs.Theorems.{OfStreams, OfRuns}
use Rattle.period.proofs.Registers.{tested, register_back}
use Rattle.period.proofs.Streams.{stream_back}
use Rattle.period.proofs.Draws.{draws_back, places_differ}
use Rattle.period.proofs.OneCycle.{one_cycle}
use Rattle.period.proofs.Runs.{skips_apart, stretches_apart, runs_same, seeded_same, rigs_apart, equal_streams}

pub of_streams : OfStreams
unfolding cycle
of_streams = record {
  registers = (register_back tested.0, register_back tested.1, register_back tested.2);
  stream = stream_back;
  draws = draws_back;
  size = omega arith;
  places = places_differ;
  skips = skips_apart;
  stretches = λ g ra rb m j n k apart. stretches_apart g ra rb m j n k (omega (arith, apart));
  one_cycle = one_cycle;
}

pub of_runs : OfRuns
of_runs = record { runs = runs_same; from_seeding = seeded_same; rigs = λ g ra rb m n p q l l' behind. rigs_apart g ra rb m n p q l l' (omega (arith, behind)); equal_seeds = equal_streams }

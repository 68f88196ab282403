-- How evenly the streams draw, as theorems: the record below has its proof in proofs/Theorems.antt.
-- `EquallyMany` is over all contents of registers of 32 bits. Seeding refuses a register below its minimum, so over accepted seeds it holds but
-- for the refused contents. Of a stream these are 2^88 - (2^31 - 1)(2^29 - 1)(2^28 - 1) of the 2^88 contents of the bits that draws read, fewer
-- than one in 2^27 (`size` in crates/period/specs/Theorems.antt), so of two streams fewer than one in 2^26. How the refused contents are shared
-- out among the values is not said.
use Rattle.std.specs.Prelude.{◌≡◌, ℕ, ◌*◌, ◌≤◌}
use Rattle.streams.specs.declared.Generator.{Generator}
use Rattle.streams.specs.Streams.{uniforms_of, after, skip_of}
use Rattle.streams.specs.Recurrence.{InRange}
use Rattle.equidistribution.specs.Equidistribution.{state_bits, EquallyMany, Words, Equidistributed, BothInRange, Gives}

pub record Theorems : Type 0 where
  -- maximal: as many draws as 88 bits can have, for every number of bits of each
  pub maximal : (l t : ℕ) → 1 ≤ l → l ≤ 32 → l * t ≤ state_bits → Equidistributed l t
  -- every k and v of a pair, and of two successive pairs, come from equally many contents of both streams, a and b having contents of their own.
  -- Nothing is said of a and b at a fixed distance on their one cycle (`one_cycle` in crates/period/specs/Theorems.antt): there a determines b
  pub pairs : (t : ℕ) → t ≤ 2 → (k v k' v' : ℕ → ℕ) → Words 48 t k → Words 16 t v → Words 48 t k' → Words 16 t v'
      → EquallyMany BothInRange (Gives t k v) (Gives t k' v')
  -- what the streams of a record give is what its next t pairs hand out, where it has room for them
  pub records : (t : ℕ) (g : Generator) → InRange g.a → InRange g.b → (skip_of g t).code ≡ 0
      → Gives t (λ j. (uniforms_of (after j g)).k) (λ j. (uniforms_of (after j g)).v) (g.a, g.b)

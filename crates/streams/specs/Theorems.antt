-- What seeding answers (document 01, the table of causes; document 02, Jobs 1, 4 and 7) and one draw from a stream (document 01), in the documents'
-- words and numbers: the record at the end has a proof in proofs/Seeding.antt.
use Rattle.std.specs.Prelude.{◌≡◌, ◌↔◌, ℕ, ◌*◌, ◌/◌, ◌%◌, ◌^◌, ◌≤◌}
use Rattle.std.specs.Int.Bits.{bit_and, bit_xor}
use Rattle.streams.specs.declared.Stream.{Stream}
use Rattle.streams.specs.declared.Generator.{Generator}
use Rattle.streams.specs.declared.RecordAnswer.{RecordAnswer}
use Rattle.streams.specs.Streams.{advance, seed_of}

-- "Shifts are on 32 bits; bits pushed out at the top are lost."
abbrev pub left : ℕ → ℕ → ℕ
left x n = x * 2 ^ n % 2 ^ 32

abbrev pub right : ℕ → ℕ → ℕ
right x n = x / 2 ^ n

-- "One draw from a stream", line by line. A register's lowest 1, 3 or 4 bits are cleared by the mask 4294967294, 4294967288 or 4294967280.
pub record Drawn (u next : Stream) : Type 0 where
  -- "s0 becomes (s0 with its lowest 1 bit cleared, shifted left 12) xor (((s0 left 13) xor s0) shifted right 19)."
  pub s0_becomes : next.s0 ≡ bit_xor (left (bit_and u.s0 4294967294) 12) (right (bit_xor (left u.s0 13) u.s0) 19)
  -- "s1: lowest 3 bits cleared, left 4; xor ((left 2) xor s1) right 25."
  pub s1_becomes : next.s1 ≡ bit_xor (left (bit_and u.s1 4294967288) 4) (right (bit_xor (left u.s1 2) u.s1) 25)
  -- "s2: lowest 4 bits cleared, left 17; xor ((left 3) xor s2) right 11."
  pub s2_becomes : next.s2 ≡ bit_xor (left (bit_and u.s2 4294967280) 17) (right (bit_xor (left u.s2 3) u.s2) 11)

-- a record of six registers, as seeding makes it: its count is 0, "none open and a noted 0"
abbrev pub seeded_record : ℕ → ℕ → ℕ → ℕ → ℕ → ℕ → Generator
seeded_record a0 a1 a2 b0 b1 b2 =
    record {
      a = record { s0 = a0; s1 = a1; s2 = a2 };
      b = record { s0 = b0; s1 = b1; s2 = b2 };
      count = 0;
      waiting = 0;
      asked = 0;
    }

-- "s0 at least 2, s1 at least 8 and s2 at least 16"
abbrev pub AtLeast : ℕ → ℕ → ℕ → Type 0
AtLeast s0 s1 s2 = (2 ≤ s0) × (8 ≤ s1) × (16 ≤ s2)

-- seeding from six numbers: each code just where its cause holds and none before it does, and the record that comes with it
pub record Seeds (a0 a1 a2 b0 b1 b2 : ℕ) (r : RecordAnswer) : Type 0 where
  pub just_11 : (r.code ≡ 11) ↔ (AtLeast a0 a1 a2 → ⊥)
  pub just_12 : (r.code ≡ 12) ↔ (AtLeast a0 a1 a2 × (AtLeast b0 b1 b2 → ⊥))
  pub just_0 : (r.code ≡ 0) ↔ (AtLeast a0 a1 a2 × AtLeast b0 b1 b2)
  pub accepted : r.code ≡ 0 → r.next ≡ seeded_record a0 a1 a2 b0 b1 b2
  -- "seeding: six zeros"
  pub refused : (r.code ≡ 0 → ⊥) → r.next ≡ seeded_record 0 0 0 0 0 0

pub record Theorems : Type 0 where
  pub draw : (u : Stream) → Drawn u (advance u)
  pub seeding : (a0 a1 a2 b0 b1 b2 : ℕ) → Seeds a0 a1 a2 b0 b1 b2 (seed_of a0 a1 a2 b0 b1 b2)

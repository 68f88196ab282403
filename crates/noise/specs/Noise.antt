-- Pairs and blocks from a generator record (document 01, "The two streams" and the table of refusals), their samples at f fraction bits: 11 in 16 bits,
-- 13 in 18 (document 02, Job 8). What a call returns beside its samples does not depend on f.
use Rattle.std.specs.Prelude.{List, [], ◌∷◌, ℕ, zero, suc, ◌/◌, ℤ, pos, length}
use Rattle.streams.specs.declared.Generator.{Generator}
use Rattle.streams.specs.declared.Uniforms.{Uniforms}
use Rattle.streams.specs.declared.RecordAnswer.{RecordAnswer}
use Rattle.streams.specs.Streams.{cleared, code_of, if_accepted, uniforms_of, after}
use Rattle.streams.specs.Streams.Call.{a_Block, a_take}
use Rattle.box_muller.specs.declared.Samples.{Samples}
use Rattle.box_muller.specs.Sample.{samples_of}

-- What a pair returns: its refusal code, its two samples and the next record.
pub record PairAnswer : Type 0 where
  pub code : ℕ
  pub first : ℤ
  pub second : ℤ
  pub next : Generator

-- A pair: two numbers drawn, the samples of the call from k and v on them, which accepts them (`pair_drawn`), and the next record; where they were refused, 0 0 and
-- the record passed in.
unfoldable pub pair_of : ℕ → Generator → PairAnswer
pair_of f g =
    let drawn : Uniforms = uniforms_of g in
    let s : Samples = samples_of f drawn.k drawn.v in
    record {
      code = drawn.code;
      first = if_accepted drawn.code s.first (pos 0);
      second = if_accepted drawn.code s.second (pos 0);
      next = drawn.next;
    }

-- What the call returns beside its samples, and the samples in the caller's memory.
abbrev pub pair_returns : ℕ → Generator → RecordAnswer
pair_returns f g = record { code = (pair_of f g).code; next = (pair_of f g).next }

abbrev pub samples_in : PairAnswer → List ℤ
samples_in p = p.first ∷ p.second ∷ []

-- The samples of n pairs, first and second of each alternating.
unfoldable pub samples : (f n : ℕ) → Generator → List ℤ
samples f zero g = []
samples f (suc n) g = (pair_of f g).first ∷ (pair_of f g).second ∷ samples f n (pair_of f g).next

-- The refusal code of a block of n elements.
abbrev pub block_code : Generator → ℕ → ℕ
block_code g n = code_of (a_Block n) g

-- A block of n elements: the record n / 2 pairs on; refused, the record passed in.
unfoldable pub block_of : Generator → ℕ → RecordAnswer
block_of g n = record { code = block_code g n; next = if_accepted (block_code g n) (after (n / 2) g) g }

-- What the caller's block then holds: the samples of those pairs; refused, what it held.
unfoldable pub block_holds : ℕ → Generator → List ℤ → List ℤ
block_holds f g old = if_accepted (block_code g (length old)) (samples f (length old / 2) g) old

-- A look at a block of n elements (document 02, Jobs 6 and 7): "it shows and refuses as if none were open, and returns the note too".
unfoldable pub look_of : Generator → ℕ → RecordAnswer
look_of g n = record { code = (block_of (cleared g) n).code; next = g }

-- What the caller's block then holds: what "a real block call on a copy of the record would give", with no request open.
unfoldable pub look_holds : ℕ → Generator → List ℤ → List ℤ
look_holds f g old = block_holds f (cleared g) old

-- Taking into a block of n elements (document 02, Job 7): the record as many pairs on as it noted, its note cleared; refused, the record passed in.
unfoldable pub take_of : Generator → ℕ → RecordAnswer
take_of g n =
    record { code = code_of (a_take n) g; next = if_accepted (code_of (a_take n) g) (after g.asked (cleared g)) g }

-- What the caller's block then holds: the samples of those pairs; refused, what it held.
unfoldable pub take_holds : ℕ → Generator → List ℤ → List ℤ
take_holds f g old = if_accepted (code_of (a_take (length old)) g) (samples f g.asked (cleared g)) old

-- A refused call changes no word of the caller's record (document 02, Jobs 4 and 7: "returning as 11 does", the record passed in).
use Rattle.std.specs.Prelude.{ℕ, ◌^◌, ◌<◌, ◌≡◌, List, length, get_or}
use Rattle.streams.specs.declared.Generator.{Generator}
use Rattle.streams.specs.Streams.{skip_of, ask_of, give_up_of}
use Rattle.noise.specs.Noise.{pair_of, block_of, take_of}
use Rattle.jabulghi.specs.Words.{words_of, generator_of}

-- Ten words of 32 bits.
pub record TenWords (words : List ℕ) : Type 0 where
  pub ten : length words ≡ 10
  pub bits : (i : ℕ) → get_or words i 0 < 2 ^ 32

-- A call that returns this code and this record leaves these words in memory, where it is refused.
abbrev pub Unchanged : List ℕ → ℕ → Generator → Type 0
Unchanged words code next = (code ≡ 0 → ⊥) → words_of next ≡ words

-- Each call on a record, as its contract has its code and its record; those of 18 bits have the same, at 13 fraction bits in place of 11.
pub record RefusedCalls (words : List ℕ) : Type 0 where
  -- the words of the record that ten words are: the same words
  pub again : words_of (generator_of words) ≡ words
  pub pair : (f : ℕ) → Unchanged words (pair_of f (generator_of words)).code (pair_of f (generator_of words)).next
  pub block : (n : ℕ) → Unchanged words (block_of (generator_of words) n).code (block_of (generator_of words) n).next
  pub skip : (n : ℕ) → Unchanged words (skip_of (generator_of words) n).code (skip_of (generator_of words) n).next
  pub ask : (n : ℕ) → Unchanged words (ask_of (generator_of words) n).code (ask_of (generator_of words) n).next
  pub take : (n : ℕ) → Unchanged words (take_of (generator_of words) n).code (take_of (generator_of words) n).next
  pub give_up : Unchanged words (give_up_of (generator_of words)).code (give_up_of (generator_of words)).next

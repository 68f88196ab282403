-- What the callers read: streams laid side by side come apart again, a word is 65536 k + v of its pair, and the words of m pairs and of n
-- more are those of m + n.
use mathlib.Core.Path.{◌≡◌, refl, ap}
use mathlib.Core.List.{◌++◌}
use Prim.Native.Nat.{ℕ, zero, suc, ◌+◌, ◌*◌, ◌/◌, ◌%◌}
use native.Mathlib.Nat.{zero-add, suc-add, mod-lt}
use native.Mathlib.Omega.{arith}
use lib.ListN.{length}
use lib.Pow.{high, low, pow_pos}
use Rattle.bit_matrix.specs.Matrices.{repeat}
use Rattle.streams.specs.declared.Stream.{Stream}
use Rattle.streams.specs.Streams.{advance, output}
use Rattle.streams.specs.Recurrence.{InRange}
use Rattle.streams.proofs.Register.{step_lt}
use Rattle.streams.specs.declared.Lanes.{Lanes}
use Rattle.streams.specs.Lanes.{upper, lower, word_of, words}
use Rattle.streams.specs.Private.{lanes_of}

-- ---- Side by side and apart

pub upper_is : (a b : Stream) → InRange b → upper (lanes_of a b) ≡ a
upper_is a b h = λ i. record {
  s0 = high a.s0 32 h.s0_range i;
  s1 = high a.s1 32 h.s1_range i;
  s2 = high a.s2 32 h.s2_range i;
}

pub lower_is : (a b : Stream) → InRange b → lower (lanes_of a b) ≡ b
lower_is a b h = λ i. record {
  s0 = low a.s0 32 h.s0_range i;
  s1 = low a.s1 32 h.s1_range i;
  s2 = low a.s2 32 h.s2_range i;
}

-- the lower halves one step on are registers of 32 bits
pub lower_range : (u : Lanes) → InRange (advance (lower u))
unfolding advance
lower_range u = record {
  s0_range = step_lt 31 13 12 _ (mod-lt u.s0 (pow_pos 32));
  s1_range = step_lt 29 2 4 _ (mod-lt u.s1 (pow_pos 32));
  s2_range = step_lt 28 3 17 _ (mod-lt u.s2 (pow_pos 32));
}

-- ---- Words

pub word_is_pair : (a b : Stream) → word_of a b ≡ (output a * 65536 + output b / 65536) * 65536 + output b % 65536
unfolding word_of
word_is_pair a b = omega arith

pub words_add : (m n : ℕ) (a b : Stream) → words (m + n) a b ≡ words m a b ++ words n (repeat advance m a) (repeat advance m b)
unfolding words repeat
words_add zero n a b = rw (zero-add n)
words_add (suc m) n a b = rw (suc-add m n, words_add m n (advance a) (advance b))

pub length_words : (n : ℕ) (a b : Stream) → length (words n a b) ≡ n
unfolding words
length_words zero a b = refl
length_words (suc n) a b = ap suc (length_words n (advance a) (advance b))

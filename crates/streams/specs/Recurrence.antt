-- L'Ecuyer's recurrence, against which the streams are proved: P. L'Ecuyer, "Maximally Equidistributed Combined Tausworthe
-- Generators" (1996). A Tausworthe generator of the trinomial z^k - z^q - 1 and the step s has bits x_0, x_1, .. with
-- x_(m+k) = x_(m+q) + x_m mod 2, and its t-th word has the bits x_(ts), x_(ts+1), .., the first one highest (in the paper, over
-- L bits: u_n = x_(ns) 2^-1 + x_(ns+1) 2^-2 + .. + x_(ns+L-1) 2^-L). A combined generator takes the bitwise exclusive-or of
-- several. Here L = 32 and the parameters (k, q, s) are (31, 13, 12), (29, 2, 4), (28, 3, 17).
-- Theorems are stated by these definitions, and `moved` is what a private function gives; no public contract cites them.
use Rattle.std.specs.Prelude.{◌≡◌, cond, ℕ, zero, suc, ◌+◌, ◌-◌, ◌*◌, ◌/◌, ◌%◌, ◌^◌, ◌≤◌, ◌<◌, ltb}
use Rattle.bit_matrix.specs.Matrices.{repeat}
use Rattle.streams.specs.declared.Stream.{Stream}
use Rattle.streams.specs.declared.Generator.{Generator}
use Rattle.streams.specs.declared.RecordAnswer.{RecordAnswer}
use Rattle.streams.specs.Streams.{advance, output, onward, seed_of}

-- ---- Sequences of bits

-- Bit i of a word of 32 bits, counted from the top: bit 0 is the highest.
unfoldable pub top : ℕ → ℕ → ℕ
top x i = x / 2 ^ (31 - i) % 2

-- The sequence x follows the recurrence x_(m+k) = x_(m+q) + x_m mod 2.
abbrev pub Follows : ℕ → ℕ → (ℕ → ℕ) → Type 0
Follows k q x = (m : ℕ) → x (m + k) ≡ (x (m + q) + x m) % 2

-- The k first bits w one place on: the first bit leaves, and the recurrence gives the last.
unfoldable pub shifted : ℕ → ℕ → (ℕ → ℕ) → ℕ → ℕ
shifted k q w i = cond (ltb (i + 1) k) (w (i + 1)) ((w q + w 0) % 2)

-- The sequence that starts with the k bits w and goes on by the recurrence.
unfoldable pub sequence_from : ℕ → ℕ → (ℕ → ℕ) → ℕ → ℕ
sequence_from k q w zero = w 0
sequence_from k q w (suc m) = sequence_from k q (shifted k q w) m

-- The sequence of a register: it starts with the register's highest k bits.
unfoldable pub sequence : ℕ → ℕ → ℕ → ℕ → ℕ
sequence k q x = sequence_from k q (top x)

-- The combined sequence of a stream: bit i of its t-th draw, of the three sequences at 12 t + i, 4 t + i and 17 t + i.
unfoldable pub combined : Stream → ℕ → ℕ → ℕ
combined u t i =
    (sequence 31 13 u.s0 (t * 12 + i) + sequence 29 2 u.s1 (t * 4 + i) + sequence 28 3 u.s2 (t * 17 + i)) % 2

-- The parameters for which the register step is proved. The last bound says that the cleared bits are read nowhere else.
pub record Params (k q s : ℕ) : Type 0 where
  pub q_positive : 0 < q
  pub s_positive : 0 < s
  pub k_width : k ≤ 32
  pub s_room : s + q ≤ k
  pub cleared : 32 + q + s ≤ k + k

-- ---- Runs of draws

-- The t-th draw of a stream, the first being draw 1.
unfoldable pub draw_at : Stream → ℕ → ℕ
draw_at u t = output (repeat advance t u)

-- The record with both streams n draws on, and its count.
abbrev pub moved : ℕ → Generator → Generator
moved n g = onward g (repeat advance n g.a) (repeat advance n g.b) n

-- Seeding from the registers of two streams.
abbrev pub seed_from : Stream → Stream → RecordAnswer
seed_from a b = seed_of a.s0 a.s1 a.s2 b.s0 b.s1 b.s2

-- ---- Registers of 32 bits, and their minima

pub record InRange (u : Stream) : Type 0 where
  pub s0_range : u.s0 < 2 ^ 32
  pub s1_range : u.s1 < 2 ^ 32
  pub s2_range : u.s2 < 2 ^ 32

-- Document 01: s0 at least 2, s1 at least 8 and s2 at least 16.
pub record Minima (u : Stream) : Type 0 where
  pub s0_least : 2 ≤ u.s0
  pub s1_least : 8 ≤ u.s1
  pub s2_least : 16 ≤ u.s2

-- A record with fit streams of registers of 32 bits; its count may be any.
pub record Sound (g : Generator) : Type 0 where
  pub range_a : InRange g.a
  pub range_b : InRange g.b
  pub minima_a : Minima g.a
  pub minima_b : Minima g.b

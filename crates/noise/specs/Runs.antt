-- Runs of calls on a record, each passed what the one before returned.
use Rattle.std.specs.Prelude.{List, [], ◌∷◌, ℕ, ◌+◌, ◌/◌}
use Rattle.streams.specs.declared.Generator.{Generator}
use Rattle.streams.specs.declared.RecordAnswer.{RecordAnswer}
use Rattle.streams.specs.Streams.{Call, code_of, if_accepted, uniforms_of, skip_of, ask_of, give_up_of}
use Rattle.streams.specs.Streams.Call.{numbers, a_pair, a_skip, a_Block, a_look, an_ask, a_take, give_up}
use Rattle.box_muller.specs.Steps.{fraction_bits}
use Rattle.noise.specs.Noise.{pair_of, block_of, look_of, take_of}

-- The refusal code and the record that a call returns. Neither depends on the width of the samples: blocks of 16 and of 18 bits are both `a_Block`, and so
-- for pairs, looks and takes (`either_width`).
unfoldable pub returned : Call → Generator → RecordAnswer
returned numbers g = record { code = (uniforms_of g).code; next = (uniforms_of g).next }
returned a_pair g = record { code = (pair_of fraction_bits g).code; next = (pair_of fraction_bits g).next }
returned (a_skip n) g = skip_of g n
returned (a_Block n) g = block_of g n
returned (a_look n) g = look_of g n
returned (an_ask n) g = ask_of g n
returned (a_take n) g = take_of g n
returned give_up g = give_up_of g

-- The record after a run of calls.
unfoldable pub run : List Call → Generator → Generator
run [] g = g
run (c ∷ l) g = run l (returned c g).next

-- A sum over a run, of a figure of each call and the record passed to it.
unfoldable pub sum_over : (Call → Generator → ℕ) → List Call → Generator → ℕ
sum_over f [] g = 0
sum_over f (c ∷ l) g = f c g + sum_over f l (returned c g).next

-- The pairs that a call hands out or skips where it is accepted: a look, an ask and giving up none, a take those that were noted.
unfoldable pub pairs_out : Call → Generator → ℕ
pairs_out numbers g = 1
pairs_out a_pair g = 1
pairs_out (a_skip n) g = n
pairs_out (a_Block n) g = n / 2
pairs_out (a_look n) g = 0
pairs_out (an_ask n) g = 0
pairs_out (a_take n) g = g.asked
pairs_out give_up g = 0

-- The pairs that it hands out or skips: refused, none.
unfoldable pub handed : Call → Generator → ℕ
handed c g = if_accepted (code_of c g) (pairs_out c g) 0

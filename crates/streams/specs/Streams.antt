-- The two streams: registers, records, calls and refusals (document 01, "The two streams", "A job and its listing").
-- A register is a number below 2 ^ 32.
use Rattle.std.specs.Prelude.{ℕ, zero, suc, ◌+◌, ◌-◌, ◌*◌, ◌/◌, ◌%◌, ◌^◌, Bool, cond, ◌&&◌, List, [], ◌∷◌, leb, eqb}
use Rattle.std.specs.Int.Bits.{bit_and, bit_xor}
use Rattle.streams.specs.declared.Stream.{Stream}
use Rattle.streams.specs.declared.Generator.{Generator}
use Rattle.streams.specs.declared.RecordAnswer.{RecordAnswer}
use Rattle.streams.specs.declared.Uniforms.{Uniforms}

-- ---- One draw ("One draw from a stream")

-- A register of the family (k, q, s): its lowest 32 - k bits cleared, shifted left s, xor ((left q) xor itself) right k - s.
unfoldable pub step : ℕ → ℕ → ℕ → ℕ → ℕ
step k q s x = bit_xor (bit_and x (2 ^ 32 - 2 ^ (32 - k)) * 2 ^ s % 2 ^ 32) (bit_xor (x * 2 ^ q % 2 ^ 32) x / 2 ^ (k - s))

-- The three registers of a stream one step on: (k, q, s) = (31, 13, 12), (29, 2, 4), (28, 3, 17).
unfoldable pub advance : Stream → Stream
advance u = record { s0 = step 31 13 12 u.s0; s1 = step 29 2 4 u.s1; s2 = step 28 3 17 u.s2 }

-- The draw is the xor of the three registers as they then are.
unfoldable pub output : Stream → ℕ
output u = bit_xor (bit_xor u.s0 u.s1) u.s2

-- ---- Records

-- A record as seeding makes it: its count is 0, "none open and a noted 0" (document 02, Jobs 4 and 7).
abbrev pub fresh : Stream → Stream → Generator
fresh a b = record { a = a; b = b; count = 0; waiting = 0; asked = 0 }

-- The same record n pairs on, its streams as they then are.
abbrev pub onward : Generator → Stream → Stream → ℕ → Generator
onward g a b n = record { a = a; b = b; count = g.count + n; waiting = g.waiting; asked = g.asked }

-- The same record with another note: a request is open where `waiting` is not 0, for `asked` pairs.
abbrev pub noted : Generator → ℕ → ℕ → Generator
noted g waiting asked = record { a = g.a; b = g.b; count = g.count; waiting = waiting; asked = asked }

-- "Clears the note".
abbrev pub cleared : Generator → Generator
cleared g = noted g 0 0

-- ---- Refusals

-- "s0 at least 2, s1 at least 8 and s2 at least 16"
unfoldable pub fit : Stream → Bool
fit u = leb 2 u.s0 && (leb 8 u.s1 && leb 16 u.s2)

-- A record's refusal code: 0, or why every call on it is refused: "Number 11 for stream a and 12 for stream b", "11 first" (document 02,
-- Job 1).
unfoldable pub record_code : Generator → ℕ
record_code g = cond (fit g.a) (cond (fit g.b) 0 12) 11

-- "14: a request is open; 15: none is open" (document 02, Job 7).
unfoldable pub open_code : Generator → ℕ
open_code g = cond (eqb g.waiting 0) 0 14

unfoldable pub none_open_code : Generator → ℕ
none_open_code g = cond (eqb g.waiting 0) 15 0

-- "16: n above 1,000,000, asked or found noted on taking, or a block not of 2n samples".
abbrev pub most_asked : ℕ
most_asked = 1000000

unfoldable pub asked_code : ℕ → ℕ
asked_code n = cond (leb n most_asked) 0 16

unfoldable pub taken_code : Generator → ℕ → ℕ
taken_code g n = cond (eqb (asked_code g.asked) 0) (cond (eqb n (2 * g.asked)) 0 16) 16

-- "block of odd length"
unfoldable pub length_code : ℕ → ℕ
length_code n = cond (eqb (n % 2) 0) 0 4

-- 13 for n pairs more: "the count would pass 2^64 - 1" (document 02, Job 4).
abbrev pub most_count : ℕ
most_count = 2 ^ 64 - 1

unfoldable pub count_code : Generator → ℕ → ℕ
count_code g n = cond (leb (g.count + n) most_count) 0 13

-- The calls on a record: the numbers of a pair, a pair; a skip of n pairs; a block of n elements, or a look at one; asking for n pairs, taking them
-- into a block of n elements, giving up.
pub data Call : Type 0 where
  numbers a_pair give_up : Call
  a_skip a_Block a_look an_ask a_take : ℕ → Call

-- For its note: 14 for "A pair, block, skip or second ask", "A look .. never gets 14"; "15: none is open when taking or giving up".
unfoldable pub note_code : Call → Generator → ℕ
note_code numbers g = open_code g
note_code a_pair g = open_code g
note_code (a_skip n) g = open_code g
note_code (a_Block n) g = open_code g
note_code (a_look n) g = 0
note_code (an_ask n) g = open_code g
note_code (a_take n) g = none_open_code g
note_code give_up g = none_open_code g

-- For the call's own arguments: 16 where a request is asked for or taken, 4 for a block or a look.
unfoldable pub own_code : Call → Generator → ℕ
own_code numbers g = 0
own_code a_pair g = 0
own_code (a_skip n) g = 0
own_code (a_Block n) g = length_code n
own_code (a_look n) g = length_code n
own_code (an_ask n) g = asked_code n
own_code (a_take n) g = taken_code g n
own_code give_up g = 0

-- For the count: the room for all pairs that the call asks for. Giving up asks for none.
unfoldable pub room_code : Call → Generator → ℕ
room_code numbers g = count_code g 1
room_code a_pair g = count_code g 1
room_code (a_skip n) g = count_code g n
room_code (a_Block n) g = count_code g (n / 2)
room_code (a_look n) g = count_code g (n / 2)
room_code (an_ask n) g = count_code g n
room_code (a_take n) g = count_code g g.asked
room_code give_up g = 0

-- The refusal code of a call: the first of its causes, each 0 where it does not apply, in the order that they are tested: "after 11 and 12, in the
-- order 15, 14, 16, 4, then 13".
abbrev pub first_cause : List ℕ → ℕ
first_cause [] = 0
first_cause (cause ∷ causes) = cond (eqb cause 0) (first_cause causes) cause

abbrev pub causes_of : Call → Generator → List ℕ
causes_of c g = record_code g ∷ note_code c g ∷ own_code c g ∷ room_code c g ∷ []

unfoldable pub code_of : Call → Generator → ℕ
code_of c g = first_cause (causes_of c g)

-- ---- The calls

-- What a call with that refusal code returns: the first where it is accepted (0), else the second.
abbrev pub if_accepted : {A : Type 0} → ℕ → A → A → A
if_accepted code yes-value no_value = cond (eqb code 0) yes-value no_value

-- Seeding from six numbers: the record, or six zeros.
unfoldable pub seed_of : ℕ → ℕ → ℕ → ℕ → ℕ → ℕ → RecordAnswer
seed_of a0 a1 a2 b0 b1 b2 =
    let g : Generator = fresh (record { s0 = a0; s1 = a1; s2 = a2 }) (record { s0 = b0; s1 = b1; s2 = b2 }) in
    let none : Stream = record { s0 = 0; s1 = 0; s2 = 0 } in
    record { code = record_code g; next = if_accepted (record_code g) g (fresh none none) }

-- The refusal code of a call for n pairs: of a skip, and, n being 1, of a pair and of its numbers.
abbrev pub pairs_code : Generator → ℕ → ℕ
pairs_code g n = code_of (a_skip n) g

-- The two numbers of a pair, one draw from a and then one from b: k is a × 65536 + floor(b / 65536), v is b mod 65536. Refused,
-- 0 0 and the record passed in.
unfoldable pub uniforms_of : Generator → Uniforms
uniforms_of g =
    let a' : Stream = advance g.a in
    let b' : Stream = advance g.b in
    record {
      code = pairs_code g 1;
      k = if_accepted (pairs_code g 1) (output a' * 65536 + output b' / 65536) 0;
      v = if_accepted (pairs_code g 1) (output b' % 65536) 0;
      next = if_accepted (pairs_code g 1) (onward g a' b' 1) g;
    }

-- The record n pairs on.
unfoldable pub after : ℕ → Generator → Generator
after zero g = g
after (suc n) g = after n (uniforms_of g).next

-- "The record that n pair draws would leave"; refused, the record passed in.
unfoldable pub skip_of : Generator → ℕ → RecordAnswer
skip_of g n = record { code = pairs_code g n; next = if_accepted (pairs_code g n) (after n g) g }

-- "Asking for n pairs .. notes them in the record and moves nothing"; refused, the record passed in.
unfoldable pub ask_of : Generator → ℕ → RecordAnswer
ask_of g n = record { code = code_of (an_ask n) g; next = if_accepted (code_of (an_ask n) g) (noted g 1 n) g }

-- "Giving up clears it and moves nothing"; refused, the record passed in.
unfoldable pub give_up_of : Generator → RecordAnswer
give_up_of g = record { code = code_of give_up g; next = if_accepted (code_of give_up g) (cleared g) g }

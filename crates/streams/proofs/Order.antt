-- The order of the tests, at records that meet two causes at once: for each call, each two neighbours among its causes, and the first of them
-- decides. (Of 11 and 12, which are one cause for all calls, see `edges`.)
use mathlib.Core.Path.{◌≡◌, refl}
use mathlib.Core.List.{List, [], ◌∷◌, map}
use Prim.Native.Nat.{ℕ}
use Rattle.streams.specs.declared.Generator.{Generator}
use Rattle.streams.specs.Streams.{fit, record_code, open_code, none_open_code, asked_code, taken_code, length_code, count_code}
use Rattle.streams.specs.Streams.{most_count, Call, note_code, own_code, room_code, causes_of}
use Rattle.streams.specs.Streams.Call.{numbers, a_pair, a_skip, a_Block, a_look, an_ask, a_take, give_up}

-- A record with this register in stream b (2 is fit, 1 is not), this count and this note.
abbrev with_b : ℕ → ℕ → ℕ → ℕ → Generator
with_b b0 count waiting asked =
    record {
      a = record { s0 = 2; s1 = 8; s2 = 16 };
      b = record { s0 = b0; s1 = 8; s2 = 16 };
      count = count;
      waiting = waiting;
      asked = asked;
    }

-- A call on a record, and the causes that it meets: two neighbours, with nothing between them.
pub record Met : Type 0 where
  pub call : Call
  pub given : Generator
  pub causes : List ℕ

pub neighbours : List Met
neighbours =
    record { call = numbers; given = with_b 1 0 1 0; causes = 12 ∷ 14 ∷ 0 ∷ 0 ∷ [] }
    ∷ record { call = numbers; given = with_b 2 most_count 1 0; causes = 0 ∷ 14 ∷ 0 ∷ 13 ∷ [] }
    ∷ record { call = a_pair; given = with_b 1 0 1 0; causes = 12 ∷ 14 ∷ 0 ∷ 0 ∷ [] }
    ∷ record { call = a_pair; given = with_b 2 most_count 1 0; causes = 0 ∷ 14 ∷ 0 ∷ 13 ∷ [] }
    ∷ record { call = a_skip 1; given = with_b 1 0 1 0; causes = 12 ∷ 14 ∷ 0 ∷ 0 ∷ [] }
    ∷ record { call = a_skip 1; given = with_b 2 most_count 1 0; causes = 0 ∷ 14 ∷ 0 ∷ 13 ∷ [] }
    ∷ record { call = a_Block 2; given = with_b 1 0 1 0; causes = 12 ∷ 14 ∷ 0 ∷ 0 ∷ [] }
    ∷ record { call = a_Block 3; given = with_b 2 0 1 0; causes = 0 ∷ 14 ∷ 4 ∷ 0 ∷ [] }
    ∷ record { call = a_Block 3; given = with_b 2 most_count 0 0; causes = 0 ∷ 0 ∷ 4 ∷ 13 ∷ [] }
    ∷ record { call = a_look 3; given = with_b 1 0 1 0; causes = 12 ∷ 0 ∷ 4 ∷ 0 ∷ [] }
    ∷ record { call = a_look 3; given = with_b 2 most_count 1 0; causes = 0 ∷ 0 ∷ 4 ∷ 13 ∷ [] }
    ∷ record { call = an_ask 1; given = with_b 1 0 1 0; causes = 12 ∷ 14 ∷ 0 ∷ 0 ∷ [] }
    ∷ record { call = an_ask 1000001; given = with_b 2 0 1 0; causes = 0 ∷ 14 ∷ 16 ∷ 0 ∷ [] }
    ∷ record { call = an_ask 1000001; given = with_b 2 most_count 0 0; causes = 0 ∷ 0 ∷ 16 ∷ 13 ∷ [] }
    ∷ record { call = a_take 0; given = with_b 1 0 0 0; causes = 12 ∷ 15 ∷ 0 ∷ 0 ∷ [] }
    ∷ record { call = a_take 1; given = with_b 2 0 0 0; causes = 0 ∷ 15 ∷ 16 ∷ 0 ∷ [] }
    ∷ record { call = a_take 3; given = with_b 2 most_count 1 1; causes = 0 ∷ 0 ∷ 16 ∷ 13 ∷ [] }
    ∷ record { call = give_up; given = with_b 1 0 0 0; causes = 12 ∷ 15 ∷ 0 ∷ 0 ∷ [] }
    ∷ []

pub met : map (λ (m : Met). causes_of m.call m.given) neighbours ≡ map (λ (m : Met). m.causes) neighbours
unfolding fit record_code open_code none_open_code asked_code taken_code length_code count_code note_code own_code room_code neighbours
met = refl

-- 16 on taking: a request for more than 1,000,000 that no call of ours made, a block of other length, odd or even; and one that is taken.
pub taken_cases : map (λ (n : ℕ). taken_code (with_b 2 0 1 n) 4000000) (2000000 ∷ 1000000 ∷ []) ≡ 16 ∷ 16 ∷ []
unfolding asked_code taken_code
taken_cases = refl

pub taken_lengths : map (taken_code (with_b 2 0 1 2)) (2 ∷ 3 ∷ 4 ∷ 5 ∷ 6 ∷ []) ≡ 16 ∷ 16 ∷ 0 ∷ 16 ∷ 16 ∷ []
unfolding asked_code taken_code
taken_lengths = refl

-- "16: n above 1,000,000, asked": 1,000,000 pairs are accepted, and one more is not.
pub asked_cases : map asked_code (1000000 ∷ 1000001 ∷ []) ≡ 0 ∷ 16 ∷ []
unfolding asked_code
asked_cases = refl

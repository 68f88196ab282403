-- What a call on a record is refused for (document 01, the table of refusals; document 02, Jobs 1, 4, 6 and 7), in the documents' words and with their
-- numbers. None of this is read by the code or by its definitions: `under_cause` compares the two.
use Rattle.std.specs.Prelude.{◌≡◌, List, [], ◌∷◌, ◌⊎◌, ℕ, ◌+◌, ◌-◌, ◌*◌, ◌/◌, ◌%◌, ◌^◌, ◌<◌}
use Rattle.streams.specs.declared.Generator.{Generator}
use Rattle.streams.specs.Streams.{Call}
use Rattle.streams.specs.Streams.Call.{numbers, a_pair, a_skip, a_Block, a_look, an_ask, a_take, give_up}
use Rattle.streams.specs.Recurrence.{Minima}
use Rattle.streams.specs.FirstCause.{NoneEarlier}
use Rattle.noise.specs.Runs.{returned}

-- The refusals of a call on a record, by their causes.
pub data Refusal : Type 0 where
  unfit_a unfit_b none_open one_open not_as_asked odd_length count_full : Refusal

unfoldable pub refusal_code : Refusal → ℕ
refusal_code unfit_a = 11
refusal_code unfit_b = 12
refusal_code none_open = 15
refusal_code one_open = 14
refusal_code not_as_asked = 16
refusal_code odd_length = 4
refusal_code count_full = 13

-- "11 first"; "after 11 and 12, in the order 15, 14, 16, 4, then 13".
unfoldable pub order : List Refusal
order = unfit_a ∷ unfit_b ∷ none_open ∷ one_open ∷ not_as_asked ∷ odd_length ∷ count_full ∷ []

-- No request is open; one is, for 0 pairs too.
abbrev pub NoneOpen : Generator → Type 0
NoneOpen g = g.waiting ≡ 0

abbrev pub Open : Generator → Type 0
Open g = g.waiting ≡ 0 → ⊥

-- "n above 1,000,000".
abbrev pub TooMany : ℕ → Type 0
TooMany n = 1000000 < n

-- "a block not of 2n samples", n being noted.
abbrev pub OtherSize : Generator → ℕ → Type 0
OtherSize g m = m ≡ 2 * g.asked → ⊥

-- "block of odd length".
abbrev pub Odd : ℕ → Type 0
Odd n = n % 2 ≡ 1

-- "The count would pass 2^64 - 1", by n pairs more.
abbrev pub Passes : Generator → ℕ → Type 0
Passes g n = 2 ^ 64 - 1 < g.count + n

-- "11 for stream a and 12 for stream b", of every call; 15, 14, 16, 4 and 13 by these causes of the call.
abbrev pub CauseOf : Generator → (none one asked odd full : Type 0) → Refusal → Type 0
CauseOf g none one asked odd full unfit_a = Minima g.a → ⊥
CauseOf g none one asked odd full unfit_b = Minima g.b → ⊥
CauseOf g none one asked odd full none_open = none
CauseOf g none one asked odd full one_open = one
CauseOf g none one asked odd full not_as_asked = asked
CauseOf g none one asked odd full odd_length = odd
CauseOf g none one asked odd full count_full = full

-- "15: none is open when taking or giving up". 14: "a pair, block, skip or second ask is refused while one is open"; "A look .. never gets 14". "16: n above
-- 1,000,000, asked or found noted on taking, or a block not of 2n samples". 4 for a block and a look, "on taking 16". 13: "whole block or none"; "an ask
-- tests its whole n".
abbrev pub Applies : Refusal → Call → Generator → Type 0
Applies r numbers g = CauseOf g ⊥ (Open g) ⊥ ⊥ (Passes g 1) r
Applies r a_pair g = CauseOf g ⊥ (Open g) ⊥ ⊥ (Passes g 1) r
Applies r (a_skip n) g = CauseOf g ⊥ (Open g) ⊥ ⊥ (Passes g n) r
Applies r (a_Block n) g = CauseOf g ⊥ (Open g) ⊥ (Odd n) (Passes g (n / 2)) r
Applies r (a_look n) g = CauseOf g ⊥ ⊥ ⊥ (Odd n) (Passes g (n / 2)) r
Applies r (an_ask n) g = CauseOf g ⊥ (Open g) (TooMany n) ⊥ (Passes g n) r
Applies r (a_take n) g = CauseOf g (NoneOpen g) ⊥ (TooMany g.asked ⊎ OtherSize g n) ⊥ (Passes g g.asked) r
Applies r give_up g = CauseOf g (NoneOpen g) ⊥ ⊥ ⊥ ⊥ r

-- No cause that is tested before it.
abbrev pub NoneBefore : Refusal → Call → Generator → Type 0
NoneBefore r c g = NoneEarlier refusal_code order (λ (q : Refusal). Applies q c g) r

-- ---- Two causes at one record

-- A call on a record where both causes hold.
pub record Meeting : Type 0 where
  pub call : Call
  pub given : Generator
  pub first : Refusal
  pub second : Refusal

-- Both hold, and the first of them decides.
abbrev pub Meets : Meeting → Type 0
Meets m =
    Applies m.first m.call m.given
    × Applies m.second m.call m.given
    × ((returned m.call m.given).code ≡ refusal_code m.first)

abbrev pub AllMeet : List Meeting → Type 0
AllMeet [] = Unit {0}
AllMeet (m ∷ l) = Meets m × AllMeet l

-- On a record with this register s0 in stream b (2 is fit, 1 is not), this count and this note.
abbrev meeting : Call → (b0 count waiting asked : ℕ) → Refusal → Refusal → Meeting
meeting c b0 count waiting asked first second =
    record {
      call = c;
      given = record {
        a = record { s0 = 2; s1 = 8; s2 = 16 };
        b = record { s0 = b0; s1 = 8; s2 = 16 };
        count = count;
        waiting = waiting;
        asked = asked;
      };
      first = first;
      second = second;
    }

-- Those that crates/streams/proofs/Order.antt has not: between the two stands another test of the same call.
unfoldable pub meetings : List Meeting
meetings =
    meeting numbers 1 (2 ^ 64 - 1) 0 0 unfit_b count_full
    ∷ meeting a_pair 1 (2 ^ 64 - 1) 0 0 unfit_b count_full
    ∷ meeting (a_skip 1) 1 (2 ^ 64 - 1) 0 0 unfit_b count_full
    ∷ meeting (a_Block 3) 1 0 0 0 unfit_b odd_length
    ∷ meeting (a_Block 2) 1 (2 ^ 64 - 1) 0 0 unfit_b count_full
    ∷ meeting (a_Block 2) 2 (2 ^ 64 - 1) 1 0 one_open count_full
    ∷ meeting (a_look 2) 1 (2 ^ 64 - 1) 0 0 unfit_b count_full
    ∷ meeting (an_ask 1000001) 1 0 0 0 unfit_b not_as_asked
    ∷ meeting (an_ask 1) 1 (2 ^ 64 - 1) 0 0 unfit_b count_full
    ∷ meeting (an_ask 1) 2 (2 ^ 64 - 1) 1 0 one_open count_full
    ∷ meeting (a_take 1) 1 0 1 0 unfit_b not_as_asked
    ∷ meeting (a_take 2) 1 (2 ^ 64 - 1) 1 1 unfit_b count_full
    ∷ meeting (a_take 2) 2 (2 ^ 64 - 1) 0 1 none_open count_full
    ∷ []

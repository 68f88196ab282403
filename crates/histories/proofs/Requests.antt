-- What an open request leaves, and how many pairs are asked for at most.
use mathlib.Core.Path.{◌≡◌, refl, ◌∙◌}
use mathlib.Core.List.{List, [], ◌∷◌}
use Prim.Native.Nat.{ℕ, ◌*◌}
use native.Mathlib.Omega.{arith}
use lib.Dec.{eqb}
use lib.IntN.{ℤ}
use lib.ListN.{length}
use Rattle.streams.specs.declared.Stream.{Stream}
use Rattle.streams.specs.declared.Generator.{Generator}
use Rattle.streams.specs.Streams.{Call, first_cause, fresh, cleared, open_code, asked_code, count_code, note_code, own_code, room_code, code_of}
use Rattle.streams.specs.Streams.{ask_of, give_up_of}
use Rattle.streams.specs.Streams.Call.{numbers, a_pair, a_skip, a_Block, a_look, an_ask, a_take, give_up}
use Rattle.streams.specs.Recurrence.{InRange, Sound, seed_from}
use Rattle.streams.proofs.Theorems.{sound_accepted, seeded}
use Rattle.noise.specs.Noise.{block_of, block_holds, take_of, take_holds}
use Rattle.noise.specs.Runs.{returned, run}
use Rattle.noise.proofs.Requests.{ask_notes, ask_take, ask_give_up}
use Rattle.noise.proofs.Runs.{returned_code, left_by, next_is}
use Rattle.histories.specs.Refusals.{one_open, Open, Applies}
use Rattle.histories.specs.Histories.{history_of, Keeps, AllKeep}
use Rattle.histories.proofs.Refusals.{decides}
use Rattle.histories.proofs.Calls.{refused_stays, same_either_way}

-- A call that keeps the request leaves the record as it is,
open_stays : (c : Call) (g : Generator) → Open g → Keeps c (returned c g).code → (returned c g).next ≡ g
unfolding left_by
open_stays c g h k = by_call c k
  where
    waits : (c : Call) → Applies one_open c g → (returned c g).next ≡ g
    waits c holds = refused_stays c g (λ e. (decides c g).accepted.0 (returned_code c g ∙ e) one_open holds)

    by_call : (c : Call) → Keeps c (returned c g).code → (returned c g).next ≡ g
    by_call numbers k = waits numbers h
    by_call a_pair k = waits a_pair h
    by_call (a_skip n) k = waits (a_skip n) h
    by_call (a_Block n) k = waits (a_Block n) h
    by_call (a_look n) k = next_is (a_look n) g ∙ same_either_way (eqb (code_of (a_look n) g) 0) g
    by_call (an_ask n) k = waits (an_ask n) h
    by_call (a_take n) k = refused_stays (a_take n) g (λ e. omega (arith, k, returned_code (a_take n) g, e))
    by_call give_up k = refused_stays give_up g (λ e. omega (arith, k, returned_code give_up g, e))

-- and so does a run of them.
pub open_run : (l : List Call) (g : Generator) → Open g → AllKeep (history_of l g) → run l g ≡ g
unfolding run history_of
open_run [] g h k = refl
open_run (c ∷ l) g h (k, rest) =
    let same : (returned c g).next ≡ g = open_stays c g h k in
    rw same (open_run l g h (rw same at rest))

-- The record that an accepted ask leaves, after such a run.
asked_run : (g : Generator) (n : ℕ) (l : List Call) → (ask_of g n).code ≡ 0 → AllKeep (history_of l (ask_of g n).next)
    → run l (ask_of g n).next ≡ (ask_of g n).next
asked_run g n l e k = open_run l (ask_of g n).next (rw (ask_notes g n e) (λ z. omega (arith, z))) k

pub ask_run_take : (f : ℕ) (g : Generator) (n : ℕ) (l : List Call) (old : List ℤ) → Sound g → length old ≡ 2 * n → (ask_of g n).code ≡ 0
    → AllKeep (history_of l (ask_of g n).next)
    → ((block_of g (length old)).code ≡ 0)
    × (take_of (run l (ask_of g n).next) (length old) ≡ record { code = 0; next = cleared (block_of g (length old)).next })
    × (take_holds f (run l (ask_of g n).next) old ≡ block_holds f g old)
ask_run_take f g n l old h size e k = rw (asked_run g n l e k) (ask_take f g n old h size e)

pub ask_run_give_up : (g : Generator) (n : ℕ) (l : List Call) → (ask_of g n).code ≡ 0 → AllKeep (history_of l (ask_of g n).next)
    → give_up_of (run l (ask_of g n).next) ≡ record { code = 0; next = cleared g }
ask_run_give_up g n l e k = rw (asked_run g n l e k) (ask_give_up g n e)

-- On a record as seeding makes it, an ask is refused for its n alone, or for the count.
pub asked_seeded : (a b : Stream) → InRange a → InRange b → (seed_from a b).code ≡ 0
    → (n : ℕ) → (ask_of (seed_from a b).next n).code ≡ first_cause (asked_code n ∷ count_code (fresh a b) n ∷ [])
unfolding ask_of code_of note_code own_code room_code open_code
asked_seeded a b ra rb h n =
    let (is-fresh, is-sound) = seeded a b ra rb h in
    rw (is-fresh, sound_accepted (fresh a b) is-sound)

-- What is proved of refusals and of runs of calls: the records below have proofs in proofs/Theorems.antt.
use Rattle.std.specs.Prelude.{◌≡◌, List, [], ◌∷◌, ◌↔◌, ◌⊎◌, ℕ, suc, ◌+◌, ◌*◌, ◌/◌, ◌<◌, ℤ, length}
use Rattle.streams.specs.declared.Stream.{Stream}
use Rattle.streams.specs.declared.Generator.{Generator}
use Rattle.streams.specs.Streams.{Call, noted, cleared, record_code, uniforms_of, skip_of, ask_of, give_up_of}
use Rattle.streams.specs.Recurrence.{top, combined, draw_at, seed_from, InRange, Sound}
use Rattle.noise.specs.Noise.{pair_of, block_of, block_holds, look_of, look_holds, take_of, take_holds}
use Rattle.noise.specs.Runs.{returned, run}
use Rattle.histories.specs.Refusals.{Refusal, refusal_code, Open, Applies, NoneBefore, AllMeet, meetings}
use Rattle.histories.specs.Histories.{history_of, count_of, AllKeep, k_at, v_at, drawn_samples}

-- Of every call on every record, fit or not.
pub record OfRefusals : Type 0 where
  -- "under its cause and under no other": each code just where its cause holds and none before it does
  pub under_cause : (r : Refusal) (c : Call) (g : Generator)
      → ((returned c g).code ≡ refusal_code r) ↔ (Applies r c g × NoneBefore r c g)
  -- a call is accepted just where no cause holds
  pub accepted : (c : Call) (g : Generator) → ((returned c g).code ≡ 0) ↔ ((r : Refusal) → Applies r c g → ⊥)
  -- it returns no code but these
  pub no_other : (c : Call) (g : Generator) → ((returned c g).code ≡ 0) ⊎ ((r : Refusal) × ((returned c g).code ≡ refusal_code r))
  -- the causes do meet, 12 and 4 of a block among them, and the first decides
  pub meet : AllMeet meetings
  -- a look "shows and refuses as if none were open": with the code of a block on that record, 11 and 12 too
  pub look : (g : Generator) (asked n : ℕ) → (look_of g n).code ≡ (block_of (noted g 0 asked) n).code
  -- "n = 0 returns the record unchanged", accepted or refused
  pub skip_none : (g : Generator) → (skip_of g 0).next ≡ g

-- Of requests; `Sound` records have fit streams of 32 bits, and any count and note.
pub record OfRequests : Type 0 where
  -- while a request is open, a run in which no take and no giving up is accepted leaves the record equal
  pub open_run : (l : List Call) (g : Generator) → Open g → AllKeep (history_of l g) → run l g ≡ g
  -- asking, such a run and "taking gives the samples, registers and count of one block call"
  pub ask_run_take : (f : ℕ) (g : Generator) (n : ℕ) (l : List Call) (old : List ℤ) → Sound g → length old ≡ 2 * n → (ask_of g n).code ≡ 0
      → AllKeep (history_of l (ask_of g n).next)
      → ((block_of g (length old)).code ≡ 0)
      × (take_of (run l (ask_of g n).next) (length old) ≡ record { code = 0; next = cleared (block_of g (length old)).next })
      × (take_holds f (run l (ask_of g n).next) old ≡ block_holds f g old)
  -- asking, such a run and giving up gives the record before the ask, its note cleared
  pub ask_run_give_up : (g : Generator) (n : ℕ) (l : List Call) → (ask_of g n).code ≡ 0 → AllKeep (history_of l (ask_of g n).next)
      → give_up_of (run l (ask_of g n).next) ≡ record { code = 0; next = cleared g }
  -- "asking for n pairs, 0 to 1,000,000": so many are accepted on a record just seeded, and one more is not
  pub most_asked_lem : (a b : Stream) → InRange a → InRange b → (seed_from a b).code ≡ 0
      → ((ask_of (seed_from a b).next 1000000).code ≡ 0) × ((ask_of (seed_from a b).next 1000001).code ≡ 16)

-- The calls that are accepted after a run on a record have the next draws of these streams, from the one after those that the run's history counts.
pub record NextDraws (g : Generator) (a b : Stream) (l : List Call) : Type 0 where
  pub numbers : (uniforms_of (run l g)).code ≡ 0
      → ((uniforms_of (run l g)).k ≡ k_at a b (suc (count_of (history_of l g)))) × ((uniforms_of (run l g)).v ≡ v_at b (suc (count_of (history_of l g))))
  pub pair : (f : ℕ) → (pair_of f (run l g)).code ≡ 0
      → (pair_of f (run l g)).first ∷ (pair_of f (run l g)).second ∷ [] ≡ drawn_samples f 1 (count_of (history_of l g)) a b
  pub block : (f : ℕ) (old : List ℤ) → (block_of (run l g) (length old)).code ≡ 0
      → block_holds f (run l g) old ≡ drawn_samples f (length old / 2) (count_of (history_of l g)) a b
  pub look : (f : ℕ) (old : List ℤ) → (look_of (run l g) (length old)).code ≡ 0
      → look_holds f (run l g) old ≡ drawn_samples f (length old / 2) (count_of (history_of l g)) a b
  pub take : (f : ℕ) (old : List ℤ) → (take_of (run l g) (length old)).code ≡ 0
      → take_holds f (run l g) old ≡ drawn_samples f (length old / 2) (count_of (history_of l g)) a b

-- Of runs of calls, each passed what the one before returned.
pub record OfRuns : Type 0 where
  -- "a generator once accepted": no later record is refused with 11 or 12
  pub fit_for_ever : (a b : Stream) → InRange a → InRange b → (seed_from a b).code ≡ 0
      → (l : List Call) → record_code (run l (seed_from a b).next) ≡ 0
  -- "for any run of calls from seeding", accepted or refused, "the count equals the pairs handed out plus those skipped, taken from the history"
  pub count_from_seeding : (a b : Stream) → InRange a → InRange b → (l : List Call)
      → (run l (seed_from a b).next).count ≡ count_of (history_of l (seed_from a b).next)
  -- so from any record on
  pub count : (l : List Call) (g : Generator) → InRange g.a → InRange g.b → (run l g).count ≡ g.count + count_of (history_of l g)
  -- a take of n samples that is accepted was asked for as n / 2 pairs
  pub taken : (g : Generator) (n : ℕ) → (take_of g n).code ≡ 0 → g.asked ≡ n / 2
  -- after any run from seeding, numbers, pairs, blocks, looks and takes have the next draws of the two streams seeded
  pub draws_from_seeding : (a b : Stream) → InRange a → InRange b → (seed_from a b).code ≡ 0
      → (l : List Call) → NextDraws (seed_from a b).next a b l
  -- so from any sound record on
  pub draws : (g : Generator) → Sound g → (l : List Call) → NextDraws g g.a g.b l
  -- whose bits are those of L'Ecuyer's recurrence
  pub recurrence : (u : Stream) → InRange u → (t i : ℕ) → i < 32 → top (draw_at u (suc t)) i ≡ combined u (suc t) i

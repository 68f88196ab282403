-- What is proved of runs of calls: the count, what a call may be refused for, and that every pair is L'Ecuyer's. `Sound g` says that
-- the streams of g are fit and its registers have 32 bits; `cleared g` is g without its note.
use mathlib.Core.Path.{◌≡◌, refl, ap, ◌∙◌}
use mathlib.Core.Bool.{Bool, true, false, cond}
use mathlib.Core.List.{List, [], ◌∷◌}
use mathlib.Core.Logic.{◌↔◌}
use Prim.Native.Nat.{ℕ, suc, ◌+◌, ◌*◌, ◌/◌, ◌%◌, ◌<◌}
use native.Mathlib.Nat.{add-zero, zero-add}
use native.Mathlib.Omega.{arith}
use lib.Dec.{eqb}
use borrow.Author.Tests.{eqb-true, eqb-false, ne_eqb}
use Rattle.bit_matrix.specs.Matrices.{repeat}
use Rattle.streams.specs.declared.Stream.{Stream}
use Rattle.streams.specs.declared.Generator.{Generator}
use Rattle.streams.specs.Streams.{advance, fresh, noted, cleared, record_code, open_code, most_count, count_code, first_cause, if_accepted}
use Rattle.streams.specs.Streams.{Call, note_code, own_code, room_code, code_of, pairs_code, uniforms_of, after, skip_of, ask_of, give_up_of}
use Rattle.streams.specs.Streams.Call.{numbers, a_pair, a_skip, a_Block, a_look, an_ask, a_take, give_up}
use Rattle.streams.specs.Recurrence.{InRange, Sound, moved, draw_at, seed_from}
use Rattle.streams.proofs.Causes.{lone_cause, accepted_causes, none_open, count_room, count_full}
use Rattle.streams.proofs.Theorems.{sound, sound_cleared, seeded, seeded_range, fit_call, moved_sound, moved_add, after_moved, numbers_are}
use Rattle.streams.proofs.Theorems.{uniforms_accepted, next_draw}
use Rattle.noise.specs.Noise.{pair_of, block_of, look_of, take_of}
use Rattle.noise.specs.Runs.{returned, run, sum_over, pairs_out, handed}

-- ---- One call

-- Every call returns the refusal code of the one chain of tests.
pub returned_code : (c : Call) (g : Generator) → (returned c g).code ≡ code_of c g
unfolding returned uniforms_of pair_of skip_of block_of look_of ask_of take_of give_up_of code_of note_code own_code room_code record_code open_code count_code
returned_code numbers g = refl
returned_code a_pair g = refl
returned_code (a_skip n) g = refl
returned_code (a_Block n) g = refl
returned_code (a_look n) g = refl
returned_code (an_ask n) g = refl
returned_code (a_take n) g = refl
returned_code give_up g = refl

-- What a pair, a block, a look and a take return at any number of fraction bits is what the call returns: a run of calls of 16 and of 18 bits, mixed, is a
-- run of calls, and whatever is proved of runs is proved of it.
pub either_width : (f n : ℕ) (g : Generator)
    → (returned a_pair g ≡ record { code = (pair_of f g).code; next = (pair_of f g).next })
    × (returned (a_Block n) g ≡ block_of g n)
    × (returned (a_look n) g ≡ look_of g n)
    × (returned (a_take n) g ≡ take_of g n)
unfolding returned pair_of
either_width f n g = (refl, refl, refl, refl)

-- The record that an accepted call leaves.
unfoldable pub left_by : Call → Generator → Generator
left_by numbers g = after 1 g
left_by a_pair g = after 1 g
left_by (a_skip n) g = after n g
left_by (a_Block n) g = after (n / 2) g
left_by (a_look n) g = g
left_by (an_ask n) g = noted g 1 n
left_by (a_take n) g = after g.asked (cleared g)
left_by give_up g = cleared g

once_or_not : (t : Bool) (x y : Generator) → cond t x y ≡ cond t (cond t x y) y
once_or_not true x y = refl
once_or_not false x y = refl

same_or_same : (t : Bool) (x : Generator) → x ≡ cond t x x
same_or_same true x = refl
same_or_same false x = refl

-- Refused, it returns the record passed in.
pub next_is : (c : Call) (g : Generator) → (returned c g).next ≡ if_accepted (code_of c g) (left_by c g) g
unfolding returned left_by code_of note_code own_code room_code uniforms_of pair_of skip_of block_of look_of ask_of take_of give_up_of after
next_is numbers g = once_or_not (eqb (pairs_code g 1) 0) _ _
next_is a_pair g = once_or_not (eqb (pairs_code g 1) 0) _ _
next_is (a_skip n) g = refl
next_is (a_Block n) g = refl
next_is (a_look n) g = same_or_same (eqb (code_of (a_look n) g) 0) g
next_is (an_ask n) g = refl
next_is (a_take n) g = refl
next_is give_up g = refl

-- Accepted, it leaves both streams and the count moved by the pairs that it hands out or skips.
left_moved : (c : Call) (g : Generator) → Sound g → code_of c g ≡ 0 → cleared (left_by c g) ≡ moved (pairs_out c g) (cleared g)
unfolding left_by pairs_out note_code room_code repeat
left_moved c g h e = by_call c ((accepted_causes c g).0 e)
  where
    drawn : (n : ℕ) → open_code g ≡ 0 → count_code g n ≡ 0 → cleared (after n g) ≡ moved n (cleared g)
    drawn n note room = ap cleared (after_moved n g h ((none_open g).0 note) ((count_room g n).0 room))

    still : cleared g ≡ moved 0 (cleared g)
    still = rw (add-zero g.count)

    by_call : (c : Call) → (record_code g ≡ 0) × (note_code c g ≡ 0) × (own_code c g ≡ 0) × (room_code c g ≡ 0)
        → cleared (left_by c g) ≡ moved (pairs_out c g) (cleared g)
    by_call numbers a = drawn 1 a.1 a.3
    by_call a_pair a = drawn 1 a.1 a.3
    by_call (a_skip n) a = drawn n a.1 a.3
    by_call (a_Block n) a = drawn (n / 2) a.1 a.3
    by_call (a_look n) a = still
    by_call (an_ask n) a = still
    by_call (a_take n) a =
        ap cleared (after_moved g.asked (cleared g) ((sound_cleared g).0 h) refl ((count_room g g.asked).0 a.3))
    by_call give_up a = still

-- So every call on fit streams does, refused ones by none.
pub call_moves : (c : Call) (g : Generator) → Sound g → cleared (returned c g).next ≡ moved (handed c g) (cleared g)
unfolding handed repeat
call_moves c g h = ap cleared (next_is c g) ∙ by_test (eqb (code_of c g) 0) refl
  where
    by_test : (t : Bool) → eqb (code_of c g) 0 ≡ t
        → cleared (cond t (left_by c g) g) ≡ moved (cond t (pairs_out c g) 0) (cleared g)
    by_test true e = left_moved c g h (eqb-true _ _ e)
    by_test false e = rw (add-zero g.count)

pub call_sound : (c : Call) (g : Generator) → Sound g → Sound (returned c g).next
call_sound c g h =
    (sound_cleared _).1 (rw (call_moves c g h) (moved_sound (handed c g) (cleared g) ((sound_cleared g).0 h)))

-- A call on unfit streams is refused with the record's refusal code,
pub unfit_call : (c : Call) (g : Generator) → (record_code g ≡ 0 → ⊥) → code_of c g ≡ record_code g
unfolding code_of
unfit_call c g h = rw (ne_eqb (record_code g) 0 h)

-- hands out nothing and leaves the record.
unfit_stays : (c : Call) (g : Generator) → (record_code g ≡ 0 → ⊥) → ((returned c g).next ≡ g) × (handed c g ≡ 0)
unfolding handed
unfit_stays c g h = (next_is c g ∙ rw (unfit_call c g h, ne_eqb _ _ h), rw (unfit_call c g h, ne_eqb _ _ h))

-- ---- Runs of calls, each passed what the one before returned

-- After any run both streams and the count have moved by the pairs that the accepted calls of the run handed out or skipped.
pub run_moved : (l : List Call) (g : Generator) → Sound g → cleared (run l g) ≡ moved (sum_over handed l g) (cleared g)
unfolding run sum_over repeat
run_moved [] g h = rw (add-zero g.count)
run_moved (c ∷ l) g h =
    let rest = sum_over handed l (returned c g).next in
    run_moved l (returned c g).next (call_sound c g h)
    ∙ ap (moved rest) (call_moves c g h)
    ∙ moved_add (handed c g) rest (cleared g)

pub run_sound : (l : List Call) (g : Generator) → Sound g → Sound (run l g)
run_sound l g h =
    (sound_cleared _).1 (rw (run_moved l g h) (moved_sound (sum_over handed l g) (cleared g) ((sound_cleared g).0 h)))

-- A run on unfit streams leaves the record, and hands out nothing.
run_unfit : (l : List Call) (g : Generator) → (record_code g ≡ 0 → ⊥) → (run l g ≡ g) × (sum_over handed l g ≡ 0)
unfolding run sum_over
run_unfit [] g h = (refl, refl)
run_unfit (c ∷ l) g h =
    let (same, none) = unfit_stays c g h in
    let (rest-same, rest-none) = run_unfit l g h in
    (rw same rest-same, rw (none, same, rest-none))

-- The count, after any run on any record: what it was, and the pairs handed out or skipped since.
pub run_count : (l : List Call) (g : Generator) → InRange g.a → InRange g.b → (run l g).count ≡ g.count + sum_over handed l g
run_count l g ra rb = by_test (eqb (record_code g) 0) refl
  where
    by_test : (t : Bool) → eqb (record_code g) 0 ≡ t → (run l g).count ≡ g.count + sum_over handed l g
    by_test true e = ap (λ (r : Generator). r.count) (run_moved l g (sound g ra rb (eqb-true _ _ e)))
    by_test false e =
        let (same, none) = run_unfit l g (eqb-false _ _ e) in
        rw (same, none, add-zero g.count)

-- From seeding on, accepted or refused: the count is the pairs handed out plus those skipped, by the accepted calls of the run.
pub count_from_seeding : (a b : Stream) → InRange a → InRange b → (l : List Call)
    → (run l (seed_from a b).next).count ≡ sum_over handed l (seed_from a b).next
count_from_seeding a b ra rb l =
    let (na, nb, zero-count, _, _) = seeded_range a b ra rb in
    run_count l (seed_from a b).next na nb ∙ rw (zero-count, zero-add (sum_over handed l (seed_from a b).next))

-- A generator once accepted is later refused only for its note, for the call's own arguments, or for its count,
pub never_refused : (l : List Call) (c : Call) (g : Generator) → Sound g
    → code_of c (run l g) ≡ first_cause (note_code c (run l g) ∷ own_code c (run l g) ∷ room_code c (run l g) ∷ [])
never_refused l c g h = fit_call c (run l g) (run_sound l g h)

-- for its count just where the sum would pass the most;
pub full_just_where : (l : List Call) (c : Call) (g : Generator) (n : ℕ) → Sound g
    → note_code c (run l g) ≡ 0 → own_code c (run l g) ≡ 0 → room_code c (run l g) ≡ count_code (run l g) n
    → (code_of c (run l g) ≡ 13) ↔ (most_count < g.count + sum_over handed l g + n)
full_just_where l c g n h note own room =
    let code_is : code_of c (run l g) ≡ count_code (run l g) n
    = never_refused l c g h ∙ rw (note, own, room) (lone_cause _) in
    rw (code_is, ← run_count l g h.range_a h.range_b) (count_full (run l g) n)

-- and so from seeding on: once six numbers are accepted, every call of every run.
pub from_seeding : (a b : Stream) → InRange a → InRange b → (seed_from a b).code ≡ 0
    → (l : List Call) (c : Call)
    → code_of c (run l (seed_from a b).next)
    ≡ first_cause
    (note_code c (run l (seed_from a b).next)
    ∷ own_code c (run l (seed_from a b).next)
    ∷ room_code c (run l (seed_from a b).next)
    ∷ [])
from_seeding a b ra rb h l c =
    let (is-fresh, is-sound) = seeded a b ra rb h in
    rw is-fresh (never_refused l c (fresh a b) is-sound)

-- ---- Demand 2, over the whole history

-- The numbers of each accepted pair after any run are those of the next draw of both streams, whose bits are L'Ecuyer's by
-- `stream_history`.
pub pair_history : (l : List Call) (g : Generator) → Sound g → code_of numbers (run l g) ≡ 0
    → ((uniforms_of (run l g)).k
    ≡ draw_at g.a (suc (sum_over handed l g)) * 65536 + draw_at g.b (suc (sum_over handed l g)) / 65536)
    × ((uniforms_of (run l g)).v ≡ draw_at g.b (suc (sum_over handed l g)) % 65536)
unfolding code_of note_code own_code room_code
pair_history l g h e =
    let n = sum_over handed l g in
    let a-is : (run l g).a ≡ repeat advance n g.a = ap (λ (r : Generator). r.a) (run_moved l g h) in
    let b-is : (run l g).b ≡ repeat advance n g.b = ap (λ (r : Generator). r.b) (run_moved l g h) in
    rw (uniforms_accepted (run l g) e, a-is, b-is, next_draw n g.a, next_draw n g.b) (refl, refl)

-- Pair n + 1 of a block has draw n + 1 of both streams.
pub block_history : (n : ℕ) (g : Generator) → Sound g → g.waiting ≡ 0 → g.count + n < most_count
    → ((uniforms_of (after n g)).k ≡ draw_at g.a (suc n) * 65536 + draw_at g.b (suc n) / 65536)
    × ((uniforms_of (after n g)).v ≡ draw_at g.b (suc n) % 65536)
block_history n g h none room = rw (after_moved n g h none (omega arith)) (numbers_are n g h none room)

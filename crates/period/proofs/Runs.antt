-- Skips, stretches and runs of calls: the pairs handed out or skipped are the place of both streams, and stay below 2^64.
use mathlib.Core.Path.{◌≡◌, refl, sym, ap, ◌∙◌}
use mathlib.Core.Bool.{Bool, true, false, cond}
use mathlib.Core.List.{List, [], ◌∷◌}
use mathlib.Core.Logic.{◌⊎◌, inl, inr}
use Prim.Native.Nat.{ℕ, ◌+◌, ◌/◌, ◌≤◌, ◌<◌}
use native.Mathlib.Omega.{arith}
use lib.Dec.{eqb}
use borrow.Author.Tests.{eqb-true}
use Rattle.bit_matrix.specs.Matrices.{repeat}
use Rattle.streams.specs.declared.Generator.{Generator}
use Rattle.streams.specs.declared.Stream.{Stream}
use Rattle.streams.specs.Streams.{advance, most_count, Call, room_code, code_of, after, skip_of}
use Rattle.streams.specs.Streams.Call.{numbers, a_pair, a_skip, a_Block, a_look, an_ask, a_take, give_up}
use Rattle.streams.specs.Recurrence.{moved, seed_from, InRange, Sound}
use Rattle.streams.proofs.Causes.{accepted_causes, count_room}
use Rattle.streams.proofs.Theorems.{sound, seeded, after_moved}
use Rattle.streams.proofs.Skip.{skip_accepted, skip_moves}
use Rattle.noise.specs.Runs.{returned, run, sum_over, pairs_out, handed}
use Rattle.noise.proofs.Runs.{call_moves, call_sound, run_moved, run_sound}
use Rattle.period.specs.Cycle.{SameDraws, Apart, OnePlace}
use Rattle.period.proofs.Draws.{same_place}

-- ---- Records by their place

-- two moves of one record, below 2^64, are one where a stream then draws the same numbers
moved_place : (g : Generator) → Sound g → (m n : ℕ) → m ≤ most_count → n ≤ most_count
    → (SameDraws (moved m g).a (moved n g).a → m ≡ n) × (SameDraws (moved m g).b (moved n g).b → m ≡ n)
moved_place g h m n hm hn = (
  same_place g.a h.range_a h.minima_a m n (omega arith) (omega arith),
  same_place g.b h.range_b h.minima_b m n (omega arith) (omega arith),
)

moved_apart : (g : Generator) → Sound g → (m n : ℕ) → m ≤ most_count → n ≤ most_count → (m ≡ n → ⊥) → Apart (moved m g) (moved n g)
moved_apart g h m n hm hn differ =
    let (by-a, by-b) = moved_place g h m n hm hn in
    (λ e. differ (by-a e), λ e. differ (by-b e))

pub skips_apart : (g : Generator) → InRange g.a → InRange g.b → (m n : ℕ) → (skip_of g m).code ≡ 0 → (skip_of g n).code ≡ 0
    → (m ≡ n → ⊥) → Apart (skip_of g m).next (skip_of g n).next
skips_apart g ra rb m n hm hn differ =
    let (fits, room, _) = (skip_accepted m g).0 hm in
    let (_, room', _) = (skip_accepted n g).0 hn in
    rw (skip_moves m g ra rb hm, skip_moves n g ra rb hn)
    (moved_apart g (sound g ra rb fits) m n (omega arith) (omega arith) differ)

pub stretches_apart : (g : Generator) → InRange g.a → InRange g.b → (m j n k : ℕ) → m + j ≤ n → (skip_of g (n + k)).code ≡ 0
    → (i h : ℕ) → i < j → h < k → Apart (after (m + i) g) (after (n + h) g)
stretches_apart g ra rb m j n k behind accepted i h hi hh =
    let (fits, room, none) = (skip_accepted (n + k) g).0 accepted in
    let is-sound : Sound g = sound g ra rb fits in
    rw (after_moved (m + i) g is-sound none (omega arith), after_moved (n + h) g is-sound none (omega arith))
    (moved_apart g is-sound (m + i) (n + h) (omega arith) (omega arith) (λ e. omega arith))

-- ---- Runs of calls

-- A call that hands out or skips pairs leaves a count of 64 bits.
handed_room : (c : Call) (g : Generator) → (handed c g ≡ 0) ⊎ (g.count + handed c g ≤ most_count)
unfolding handed pairs_out room_code
handed_room c g = by_test (eqb (code_of c g) 0) refl
  where
    by_call : (c : Call) → room_code c g ≡ 0 → (pairs_out c g ≡ 0) ⊎ (g.count + pairs_out c g ≤ most_count)
    by_call numbers room = inr ((count_room g 1).0 room)
    by_call a_pair room = inr ((count_room g 1).0 room)
    by_call (a_skip n) room = inr ((count_room g n).0 room)
    by_call (a_Block n) room = inr ((count_room g (n / 2)).0 room)
    by_call (a_look n) room = inl refl
    by_call (an_ask n) room = inl refl
    by_call (a_take n) room = inr ((count_room g g.asked).0 room)
    by_call give_up room = inl refl

    by_test : (t : Bool) → eqb (code_of c g) 0 ≡ t → (cond t (pairs_out c g) 0 ≡ 0) ⊎ (g.count + cond t (pairs_out c g) 0 ≤ most_count)
    by_test true e = by_call c ((accepted_causes c g).0 (eqb-true _ _ e)).3
    by_test false e = inl refl

run_room : (l : List Call) (g : Generator) → Sound g → (sum_over handed l g ≡ 0) ⊎ (g.count + sum_over handed l g ≤ most_count)
unfolding sum_over
run_room [] g h = inl refl
run_room (c ∷ l) g h = by_rest (run_room l (returned c g).next (call_sound c g h)) (handed_room c g)
  where
    rest : ℕ
    rest = sum_over handed l (returned c g).next

    counted : (returned c g).next.count ≡ g.count + handed c g
    counted = ap (λ (r : Generator). r.count) (call_moves c g h)

    by_rest : (rest ≡ 0) ⊎ ((returned c g).next.count + rest ≤ most_count) → (handed c g ≡ 0) ⊎ (g.count + handed c g ≤ most_count)
        → (handed c g + rest ≡ 0) ⊎ (g.count + (handed c g + rest) ≤ most_count)
    by_rest (inl none) (inl none') = inl (omega arith)
    by_rest (inl none) (inr room) = inr (omega arith)
    by_rest (inr room) first = inr (omega (arith, counted))

-- So a run hands out or skips fewer than 2^64 pairs.
run_most : (l : List Call) (g : Generator) → Sound g → sum_over handed l g ≤ most_count
run_most l g h = by_room (run_room l g h)
  where
    by_room : (sum_over handed l g ≡ 0) ⊎ (g.count + sum_over handed l g ≤ most_count) → sum_over handed l g ≤ most_count
    by_room (inl none) = omega arith
    by_room (inr room) = omega arith

pub runs_same : (g : Generator) → Sound g → (l m : List Call) → OnePlace g l m
runs_same g h l m =
    let (by-a, by-b) = moved_place g h (sum_over handed l g) (sum_over handed m g) (run_most l g h) (run_most m g h) in
    let a-of : (l : List Call) → (run l g).a ≡ (moved (sum_over handed l g) g).a = λ l. ap (λ (r : Generator). r.a) (run_moved l g h) in
    let b-of : (l : List Call) → (run l g).b ≡ (moved (sum_over handed l g) g).b = λ l. ap (λ (r : Generator). r.b) (run_moved l g h) in
    record {
      equal = λ e. (a-of l ∙ rw e (sym (a-of m)), b-of l ∙ rw e (sym (b-of m)));
      only_a = λ same. by-a (rw (a-of l, a-of m) at same);
      only_b = λ same. by-b (rw (b-of l, b-of m) at same);
    }

-- What accepted seeds make is sound.
seeded_sound : (a b : Stream) → InRange a → InRange b → (seed_from a b).code ≡ 0 → Sound (seed_from a b).next
seeded_sound a b ra rb accepted =
    let (is-fresh, is-sound) = seeded a b ra rb accepted in
    rw is-fresh is-sound

pub seeded_same : (a b : Stream) → InRange a → InRange b → (seed_from a b).code ≡ 0
    → (before l m : List Call) → OnePlace (run before (seed_from a b).next) l m
seeded_same a b ra rb accepted before l m =
    runs_same (run before (seed_from a b).next) (run_sound before (seed_from a b).next (seeded_sound a b ra rb accepted)) l m

-- A run that begins with an accepted skip of m has skipped these.
skipped_first : (g : Generator) (m : ℕ) (l : List Call) → (skip_of g m).code ≡ 0
    → sum_over handed (a_skip m ∷ l) g ≡ m + sum_over handed l (skip_of g m).next
unfolding sum_over handed pairs_out returned skip_of
skipped_first g m l accepted = rw accepted

pub rigs_apart : (g : Generator) → InRange g.a → InRange g.b → (m n : ℕ) → (skip_of g m).code ≡ 0 → (skip_of g n).code ≡ 0
    → (l l' : List Call) → m + sum_over handed l (skip_of g m).next < n → Apart (run l (skip_of g m).next) (run l' (skip_of g n).next)
unfolding run returned
rigs_apart g ra rb m n hm hn l l' behind =
    let (fits, _, _) = (skip_accepted m g).0 hm in
    let place = runs_same g (sound g ra rb fits) (a_skip m ∷ l) (a_skip n ∷ l') in
    let differ : sum_over handed (a_skip m ∷ l) g ≡ sum_over handed (a_skip n ∷ l') g → ⊥
    = λ e. omega (arith, skipped_first g m l hm, skipped_first g n l' hn) in
    (λ same. differ (place.only_a same), λ same. differ (place.only_b same))

pub equal_streams : (a : Stream) → InRange a → (seed_from a a).code ≡ 0
    → (l : List Call) → (run l (seed_from a a).next).a ≡ (run l (seed_from a a).next).b
equal_streams a ra accepted l =
    let g : Generator = (seed_from a a).next in
    let n : ℕ = sum_over handed l g in
    let moves = run_moved l g (seeded_sound a a ra ra accepted) in
    let same : g.a ≡ g.b = rw (seeded a a ra ra accepted).0 in
    ap (λ (r : Generator). r.a) moves ∙ ap (repeat advance n) same ∙ sym (ap (λ (r : Generator). r.b) moves)

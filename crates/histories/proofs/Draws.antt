-- The samples of a block, a look or a take after a run are those of the next draws.
use mathlib.Core.Path.{◌≡◌, refl, sym, ◌∙◌}
use mathlib.Core.List.{List, [], ◌∷◌}
use Prim.Native.Nat.{ℕ, zero, suc, ◌+◌, ◌/◌, ◌≤◌}
use native.Mathlib.Omega.{arith}
use lib.IntN.{ℤ}
use lib.ListN.{length}
use Rattle.streams.specs.declared.Generator.{Generator}
use Rattle.streams.specs.Streams.{Call, cleared, most_count, note_code, own_code, room_code, code_of}
use Rattle.streams.specs.Streams.{pairs_code, uniforms_of}
use Rattle.streams.specs.Recurrence.{Sound, moved}
use Rattle.streams.proofs.Theorems.{sound_accepted, sound_cleared, pairs_accepted, moved_sound, moved_add, uniforms_accepted, next_draw}
use Rattle.noise.specs.Noise.{pair_of, samples, block_of, block_holds, look_of, look_holds, take_of, take_holds}
use Rattle.noise.specs.Runs.{run, sum_over, handed}
use Rattle.noise.proofs.Laws.{block_accepted, take_accepted, pair_code, samples_noted}
use Rattle.noise.proofs.Runs.{run_moved, run_sound, run_count, pair_history}
use Rattle.noise.proofs.Theorems.{block_holds_lem}
use Rattle.histories.specs.Histories.{history_of, count_of, k_at, v_at, drawn_samples}
use Rattle.histories.proofs.Histories.{handed_is_told, taken_half}

-- The samples of n pairs, m pairs on, are those of draws m + 1 to m + n.
samples_drawn : (f n m : ℕ) (g : Generator) → Sound g → g.waiting ≡ 0 → g.count + (m + n) ≤ most_count
    → samples f n (moved m g) ≡ drawn_samples f n m g.a g.b
unfolding samples pair_of drawn_samples
samples_drawn f zero m g h none room = refl
samples_drawn f (suc n) m g h none room =
    let one_more : m + 1 ≡ suc m = omega arith in
    let accepted : pairs_code (moved m g) 1 ≡ 0
    = (pairs_accepted (moved m g) 1).1 (sound_accepted _ (moved_sound m g h), omega arith, none) in
    rw (uniforms_accepted (moved m g) accepted, next_draw m g.a, next_draw m g.b, moved_add m 1 g, one_more)
    (rw (samples_drawn f n (suc m) g h none (omega arith)))

-- After any run: from the record with its note cleared.
run_samples : (f n : ℕ) (l : List Call) (g : Generator) → Sound g → (run l g).count + n ≤ most_count
    → samples f n (cleared (run l g)) ≡ drawn_samples f n (count_of (history_of l g)) g.a g.b
run_samples f n l g h room =
    rw (← (handed_is_told l g), run_moved l g h)
    (samples_drawn f n (sum_over handed l g) (cleared g) ((sound_cleared g).0 h) refl (omega (arith, run_count l g h.range_a h.range_b)))

-- So from the record itself, where no request is open.
run_samples_of : (f n : ℕ) (l : List Call) (g : Generator) → Sound g → pairs_code (run l g) n ≡ 0
    → samples f n (run l g) ≡ drawn_samples f n (count_of (history_of l g)) g.a g.b
run_samples_of f n l g h e =
    let (_, room, none) = (pairs_accepted (run l g) n).0 e in
    sym (samples_noted f n 0 (run l g) (run_sound l g h) none room) ∙ run_samples f n l g h room

pub block_drawn : (f : ℕ) (l : List Call) (g : Generator) (old : List ℤ) → Sound g → (block_of (run l g) (length old)).code ≡ 0
    → block_holds f (run l g) old ≡ drawn_samples f (length old / 2) (count_of (history_of l g)) g.a g.b
unfolding block_of
block_drawn f l g old h e =
    block_holds_lem f (run l g) old e ∙ run_samples_of f (length old / 2) l g h ((block_accepted (run l g) (length old)).0 e).0

pub look_drawn : (f : ℕ) (l : List Call) (g : Generator) (old : List ℤ) → Sound g → (look_of (run l g) (length old)).code ≡ 0
    → look_holds f (run l g) old ≡ drawn_samples f (length old / 2) (count_of (history_of l g)) g.a g.b
unfolding block_of look_of look_holds
look_drawn f l g old h e =
    let (_, room, _) = (pairs_accepted (cleared (run l g)) (length old / 2)).0 ((block_accepted (cleared (run l g)) (length old)).0 e).0 in
    block_holds_lem f (cleared (run l g)) old e ∙ run_samples f (length old / 2) l g h room

pub take_drawn : (f : ℕ) (l : List Call) (g : Generator) (old : List ℤ) → Sound g → (take_of (run l g) (length old)).code ≡ 0
    → take_holds f (run l g) old ≡ drawn_samples f (length old / 2) (count_of (history_of l g)) g.a g.b
unfolding take_of take_holds
take_drawn f l g old h e =
    let (_, _, _, _, room) = (take_accepted (run l g) (length old)).0 e in
    let half : (run l g).asked ≡ length old / 2 = taken_half (run l g) (length old) e in
    rw (take_holds, e, half) (run_samples f (length old / 2) l g h (rw half at room))

pub pair_drawn : (f : ℕ) (l : List Call) (g : Generator) → Sound g → (pair_of f (run l g)).code ≡ 0
    → (pair_of f (run l g)).first ∷ (pair_of f (run l g)).second ∷ [] ≡ drawn_samples f 1 (count_of (history_of l g)) g.a g.b
unfolding samples
pair_drawn f l g h e = run_samples_of f 1 l g h (rw (pair_code f (run l g)) at e)

pub numbers_drawn : (l : List Call) (g : Generator) → Sound g → (uniforms_of (run l g)).code ≡ 0
    → ((uniforms_of (run l g)).k ≡ k_at g.a g.b (suc (count_of (history_of l g))))
    × ((uniforms_of (run l g)).v ≡ v_at g.b (suc (count_of (history_of l g))))
unfolding uniforms_of code_of note_code own_code room_code
numbers_drawn l g h e = rw (← (handed_is_told l g)) (pair_history l g h e)

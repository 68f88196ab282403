-- From the loop that was read to the answer of the call.
use Prim.Native.Nat.{ℕ, zero, suc, ◌+◌, ◌-◌, ◌*◌, ◌≤◌}
use native.Mathlib.Nat.{zero-add, le_of_suc-le-suc}
use native.Mathlib.Omega.{arith}
use mathlib.Core.Path.{◌≡◌, refl, sym, ap, ◌∙◌}
use mathlib.Core.Bool.{Bool, true, false, cond}
use mathlib.Core.List.{List, [], ◌∷◌, map}
use lib.Dec.{eqb, leb}
use lib.IntN.{ℤ}
use lib.ListN.{length, take, length-map}
use Rattle.streams.specs.Streams.{most_count, count_code, pairs_code}
use Rattle.streams.proofs.Causes.{count_room}
use Rattle.streams.proofs.Theorems.{sound_accepted, pairs_accepted}
use Rattle.job_reader.specs.Limits as limits
use Rattle.job_reader.specs.Setting.{Steady}
use Rattle.job_reader.specs.declared.walk.Setting.{Setting}
use Rattle.noisy_shot.specs.Shots.{Shot}
use Rattle.job_reader.specs.Loop as loop
use Rattle.job_reader.specs.declared.loops.LoopShot.{LoopShot}
use Rattle.job_reader.specs.Loop.{LoopAnswer}
use Rattle.play.proofs.LoopTheorems.{theorems, answer_accepted, answer_refused, Within, Ready, ready}
use Rattle.play.specs.Play.{room_for, play_of, answer_of, misses_from, misses_after}
use Rattle.play.specs.Near.{Near}
use Rattle.play.specs.Private.{shots_of}
use Rattle.play.specs.Room.{has_room, room_of}

-- shots as they were kept, read back
pub read_back : (l : List Shot) → shots_of (map loop.kept_shot l) ≡ l
read_back [] = refl
read_back (x ∷ l) = ap (λ (m : List Shot). x ∷ m) (read_back l)

near_are : (l : List Shot) → Within l → Near (map loop.kept_shot l)
unfolding Within Near
near_are [] h i other more = absurd (omega arith)
near_are (x ∷ l) h zero other more = h.0
near_are (x ∷ l) h (suc i) other more = near_are l h.2 i other (le_of_suc-le-suc more)

-- ---- A loop that is refused

module _ (text : List ℕ) (first : ℕ) (old : List (List ℤ)) (r : LoopAnswer) (e : r ≡ loop.answer_of (loop.loop_of text)) where
  pub play_refused : (r.code ≡ 0 → ⊥)
      → (record { code = r.code; line = r.line } ≡ answer_of (play_of text first (length old))) × (old ≡ misses_after (play_of text first (length old)) first old)
  unfolding play_of
  play_refused z = rw (answer_refused r text e z) (refl, refl)

  -- ---- A loop that is accepted, in memory for 500 shots
  module _ (z : r.code ≡ 0) where
    abbrev g : Setting
    g = r.setting

    abbrev n : ℕ
    n = r.count

    abbrev plays : ℕ
    plays = first + length old

    l : List Shot
    l = (answer_accepted r text e z).0

    is_loop : loop.loop_of text ≡ loop.accepted g l
    unfolding l
    is_loop = (answer_accepted r text e z).1

    count : length l ≡ n
    unfolding l
    count = (answer_accepted r text e z).2

    prepared : Ready g l
    prepared = ready text g l is_loop

    pub few : n ≤ limits.most_shots
    few = omega (arith, count, prepared.few)

    room_is : count_code g.generator (plays * length l) ≡ room_of plays n
    unfolding count_code
    room_is =
        ap (λ (k : ℕ). cond (leb (k + plays * length l) most_count) 0 13) prepared.nothing
        ∙ ap (λ (k : ℕ). cond (leb k most_count) 0 13) (zero-add (plays * length l) ∙ ap (λ (k : ℕ). plays * k) count)

    by_room : play_of text first (length old) ≡ cond (eqb (room_of plays n) 0) (loop.accepted g l) (loop.refused 13 0)
    unfolding play_of
    by_room = ap (room_for plays) is_loop ∙ ap (λ (k : ℕ). cond (eqb k 0) (loop.accepted g l) (loop.refused 13 0)) room_is

    module _ (room : Bool) (f : room ≡ has_room plays n) where
      pub play_full : room ≡ false
          → (record { code = 13; line = 0 } ≡ answer_of (play_of text first (length old))) × (old ≡ misses_after (play_of text first (length old)) first old)
      play_full y = rw (by_room, ← f, y) (refl, refl)

      module _ (memory new : List LoopShot) (size : length memory ≡ limits.most_shots) (kept : new ≡ loop.memory_after text memory) (y : room ≡ true) where
        abbrev shots : List LoopShot
        shots = take (n - 0) new

        shots_are : shots ≡ map loop.kept_shot l
        shots_are =
            let i : n - 0 ≡ length l = omega (arith, count) in
            rw (i, kept) (theorems.kept text memory g l is_loop (omega (arith, prepared.few, size)))

        pub near : Near shots
        near = rw shots_are (near_are l prepared.within)

        pub steady : Steady g.distance g.bearing
        steady = prepared.steady

        shots_count : length shots ≡ n
        shots_count = ap length shots_are ∙ length-map l loop.kept_shot ∙ count

        pub shots_few : length shots ≤ limits.most_shots
        shots_few = omega (arith, shots_count, few)

        pub pairs : pairs_code g.generator ((first + length old) * length shots) ≡ 0
        pairs =
            let counted = (count_room g.generator (plays * n)).0 (rw count at room_is ∙ ap (λ (t : Bool). cond t 0 13) (sym f ∙ y)) in
            rw shots_count ((pairs_accepted g.generator (plays * n)).1 (sound_accepted _ prepared.sound, counted, prepared.none))

        accepted : play_of text first (length old) ≡ loop.accepted g l
        accepted = by_room ∙ rw (← f, y)

        pub play_accepted : (misses : List (List ℤ)) → misses ≡ misses_from first (length old) g (shots_of shots)
            → (record { code = 0; line = 0 } ≡ answer_of (play_of text first (length old))) × (misses ≡ misses_after (play_of text first (length old)) first old)
        play_accepted misses m =
            rw accepted (refl, m ∙ ap (misses_from first (length old) g) (ap shots_of shots_are ∙ read_back l))

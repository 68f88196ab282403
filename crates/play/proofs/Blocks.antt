-- A play block by block: the samples of a block are those of its pairs, and the blocks' sums add up.
use Prim.Native.Nat.{ℕ, zero, suc, ◌+◌, ◌-◌, ◌*◌, ◌/◌, ◌≤◌}
use native.Mathlib.Nat.{le_of_suc-le-suc}
use native.Mathlib.Omega.{arith}
use mathlib.Core.Path.{◌≡◌, refl, sym, ap, ◌∙◌}
use mathlib.Core.List.{List, [], ◌∷◌, ◌++◌}
use lib.IntN.{ℤ, pos, nat_abs, ◌+ℤ◌, +ℤ_idl, +ℤ_idr, +ℤ_assoc}
use lib.ListN.{length, get_or-append, length-append}
use Rattle.std.proofs.lemmas.List.{get_or-append-add}
use Rattle.streams.specs.declared.Generator.{Generator}
use Rattle.streams.specs.declared.RecordAnswer.{RecordAnswer}
use Rattle.streams.specs.Streams.{pairs_code, uniforms_of, after}
use Rattle.streams.specs.Recurrence.{InRange, Sound}
use Rattle.streams.proofs.Theorems.{sound, sound_accepted, pairs_accepted, moved_sound, after_add, after_moved}
use Rattle.box_muller.specs.Steps.{fraction_bits}
use Rattle.noise.specs.Noise.{pair_of, samples, block_code, block_of, block_holds}
use Rattle.noise.proofs.Laws.{block_accepted, length_samples}
use Rattle.noise.proofs.Theorems.{pair_sizes}
use Rattle.job_reader.specs.Limits as limits
use Rattle.job_reader.specs.declared.loops.LoopShot.{LoopShot}
use Rattle.noisy_shot.specs.Shots.{Shot}
use Rattle.sums.specs.Sums.{sine, cosine, total}
use Rattle.sums.proofs.SumLaws.{total_joined}
use Rattle.play.specs.Play.{noisy_shot, played_shots}
use Rattle.play.specs.Near.{Near}
use Rattle.play.specs.Private.{setting_of, shot_of, shots_of, noisy_shots, SmallSamples, most, Spare, Grown}
use Rattle.play.specs.declared.sum.Sums.{Sums}

-- ---- One block

-- its shots are those with the samples of its pairs
pub played_are : (zs : List LoopShot) (d b : ℕ) (g : Generator)
    → noisy_shots d b zs (samples fraction_bits (length zs) g) ≡ played_shots (setting_of g d b) (shots_of zs)
unfolding noisy_shots samples played_shots after pair_of
played_are [] d b g = refl
played_are (z ∷ zs) d b g = ap (λ (l : List Shot). noisy_shot (setting_of g d b) (shot_of z) ∷ l) (played_are zs d b (uniforms_of g).next)

-- and no sample is larger than the largest
small_samples : (n : ℕ) (g : Generator) → SmallSamples (samples fraction_bits n g)
unfolding SmallSamples samples
small_samples zero g i h = absurd (omega arith)
small_samples (suc n) g zero h = (pair_sizes fraction_bits g).0
small_samples (suc n) g (suc zero) h = (pair_sizes fraction_bits g).1
small_samples (suc n) g (suc (suc i)) h = small_samples n (pair_of fraction_bits g).next i (le_of_suc-le-suc (le_of_suc-le-suc h))

module _ (g : Generator) (n : ℕ) (old : List ℤ) (e : length old ≡ 2 * n) (a : pairs_code g n ≡ 0) where
  halves : length old / 2 ≡ n
  halves = omega (arith, e)

  accepted : block_code g (length old) ≡ 0
  accepted = (block_accepted g (length old)).1 (rw halves a, omega (arith, e))

  block_next : (r : RecordAnswer) → r ≡ block_of g (length old) → r.next ≡ after n g
  unfolding block_of
  block_next r h = ap (λ (x : RecordAnswer). x.next) h ∙ rw (accepted, halves)

  block_samples : (new : List ℤ) → new ≡ block_holds fraction_bits g old → new ≡ samples fraction_bits n g
  unfolding block_holds
  block_samples new h = h ∙ rw (accepted, halves)

-- what the sums of a block ask for, and are
asked_samples : (n : ℕ) (g : Generator) (new : List ℤ) → new ≡ samples fraction_bits n g → SmallSamples new × (length new ≡ 2 * n)
asked_samples n g new e = (rw e (small_samples n g), ap length e ∙ length_samples fraction_bits n g)

sum_is : (G : ℕ → ℤ) (zs : List LoopShot) (d b : ℕ) (g : Generator) (new : List ℤ) (start z : ℤ) → new ≡ samples fraction_bits (length zs) g
    → z ≡ start +ℤ total G (noisy_shots d b zs new) → z ≡ start +ℤ total G (played_shots (setting_of g d b) (shots_of zs))
sum_is G zs d b g new start z e h = h ∙ ap (λ (l : List Shot). start +ℤ total G l) (ap (noisy_shots d b zs) e ∙ played_are zs d b g)

-- ---- Blocks one after another

played_joined : (xs ys : List LoopShot) (d b : ℕ) (g : Generator)
    → played_shots (setting_of g d b) (shots_of (xs ++ ys)) ≡ played_shots (setting_of g d b) (shots_of xs) ++ played_shots (setting_of (after (length xs) g) d b) (shots_of ys)
unfolding played_shots after
played_joined [] ys d b g = refl
played_joined (x ∷ xs) ys d b g = ap (λ (l : List Shot). noisy_shot (setting_of g d b) (shot_of x) ∷ l) (played_joined xs ys d b (uniforms_of g).next)

-- before the shots that are left: the record is as many pairs on as there are shots before them, and the sum so far and that of the shots ahead is that
-- of all
pub record Reached (G : ℕ → ℤ) (g : Generator) (d b : ℕ) (zs : List LoopShot) (state : Generator) (sum : ℤ) (rest : List LoopShot) : Type 0 where
  pub small : nat_abs sum ≤ (length zs - length rest) * most
  pub sum_ahead : sum +ℤ total G (played_shots (setting_of state d b) (shots_of rest)) ≡ total G (played_shots (setting_of g d b) (shots_of zs))

pub at_first : (G : ℕ → ℤ) (g : Generator) (d b : ℕ) (zs : List LoopShot) → Reached G g d b zs g (pos 0) zs
at_first G g d b zs = record { small = omega arith; sum_ahead = +ℤ_idl _ }

-- a part of the shots
near_first : (part rest : List LoopShot) → Near (part ++ rest) → Near part
unfolding Near
near_first part rest near i other more =
    rw (get_or-append part rest other i more) at (near i other (omega (arith, more, length-append part rest)))

near_rest : (part rest : List LoopShot) → Near (part ++ rest) → Near rest
unfolding Near
near_rest part rest near i other more =
    rw (get_or-append-add part rest i other) at (near (length part + i) other (omega (arith, more, length-append part rest)))

module _ (G : ℕ → ℤ) (g : Generator) (d b : ℕ) (zs : List LoopShot) (state next : Generator) (sum sum' : ℤ) (part rest : List LoopShot) where
  one_block : Reached G g d b zs state sum (part ++ rest) → length (part ++ rest) ≤ length zs → next ≡ after (length part) state
      → sum' ≡ sum +ℤ total G (played_shots (setting_of state d b) (shots_of part))
      → nat_abs sum' ≤ nat_abs sum + length part * most → Reached G g d b zs next sum' rest
  one_block r within n e grown =
      let tail = total G (played_shots (setting_of next d b) (shots_of rest)) in
      let whole : total G (played_shots (setting_of state d b) (shots_of (part ++ rest))) ≡ total G (played_shots (setting_of state d b) (shots_of part)) +ℤ tail = ap (total G) (played_joined part rest d b state)
      ∙ total_joined G _ _
      ∙ ap (λ (x : Generator). total G (played_shots (setting_of state d b) (shots_of part)) +ℤ total G (played_shots (setting_of x d b) (shots_of rest))) (sym n) in
      record {
        small = omega (arith, grown, r.small, within, length-append part rest);
        sum_ahead = rw e (+ℤ_assoc sum _ tail ∙ ap (λ (z : ℤ). sum +ℤ z) (sym whole) ∙ r.sum_ahead);
      }

at_last : (G : ℕ → ℤ) (g : Generator) (d b : ℕ) (zs : List LoopShot) (state : Generator) (sum : ℤ) → Reached G g d b zs state sum []
    → sum ≡ total G (played_shots (setting_of g d b) (shots_of zs))
unfolding played_shots total
at_last G g d b zs state sum r = sym (+ℤ_idr sum) ∙ r.sum_ahead

-- a record that has room for pairs is sound
pub sound_for : (g : Generator) (n : ℕ) → InRange g.a → InRange g.b → pairs_code g n ≡ 0 → Sound g
sound_for g n a b h = sound g a b ((pairs_accepted g n).0 h).0

-- the record after some of n pairs has room for the rest
pub pairs_left : (g : Generator) (at m n : ℕ) → Sound g → pairs_code g n ≡ 0 → at + m ≤ n → pairs_code (after at g) m ≡ 0
pairs_left g at m n h a few =
    let (_, room, none) = (pairs_accepted g n).0 a in
    rw (after_moved at g h none (omega (arith, room, few)))
    ((pairs_accepted _ m).1 (sound_accepted _ (moved_sound at g h), omega (arith, room, few), none))

-- ---- The loop over the blocks

pub record Playing (g : Generator) (d b : ℕ) (zs : List LoopShot) (state : Generator) (sums : Sums) (rest : List LoopShot) : Type 0 where
  pub within : length rest ≤ length zs
  pub near : Near rest
  pub now_at : state ≡ after (length zs - length rest) g
  pub east : Reached sine g d b zs state sums.east rest
  pub north : Reached cosine g d b zs state sums.north rest

pub playing_first : (g : Generator) (d b : ℕ) (zs : List LoopShot) (sums : Sums) → Near zs → sums.east ≡ pos 0 → sums.north ≡ pos 0 → Playing g d b zs g sums zs
unfolding after
playing_first g d b zs sums near e n =
    let none : length zs - length zs ≡ 0 = omega arith in
    record {
      within = omega arith;
      near = near;
      now_at = rw none;
      east = rw e (at_first sine g d b zs);
      north = rw n (at_first cosine g d b zs);
    }

module _ {g : Generator} {d b : ℕ} {zs : List LoopShot} {state : Generator} {sums : Sums} (part rest : List LoopShot)
    (r : Playing g d b zs state sums (part ++ rest)) where
  size : length (part ++ rest) ≡ length part + length rest
  size = length-append part rest

  -- what the sums of a block ask for
  pub spare_part : length zs ≤ limits.most_shots → Spare sums (length part)
  spare_part few = record { east = omega (arith, r.east.small, few, r.within, size); north = omega (arith, r.north.small, few, r.within, size) }

  pub near_part : Near part
  near_part = near_first part rest r.near

  -- its samples, in place of what the memory held
  module _ (old : List ℤ) (room : length old ≡ 2 * length part) (sound : Sound g) (pairs : pairs_code g (length zs) ≡ 0) (new : List ℤ)
      (h : new ≡ block_holds fraction_bits state old) where
    pairs_part : pairs_code state (length part) ≡ 0
    pairs_part = rw r.now_at (pairs_left g (length zs - length (part ++ rest)) (length part) (length zs) sound pairs (omega (arith, r.within, size)))

    new_is : new ≡ samples fraction_bits (length part) state
    new_is = block_samples state (length part) old room pairs_part new h

    pub asked_part : SmallSamples new × (length new ≡ 2 * length part)
    asked_part = asked_samples (length part) state new new_is

    -- one block more
    pub block_on : (drawn : RecordAnswer) (sums' : Sums) → drawn ≡ block_of state (length old)
        → sums'.east ≡ sums.east +ℤ total sine (noisy_shots d b part new) → sums'.north ≡ sums.north +ℤ total cosine (noisy_shots d b part new)
        → Grown sums sums' (length part) → Playing g d b zs drawn.next sums' rest
    block_on drawn sums' j east north grown =
        let n : drawn.next ≡ after (length part) state = block_next state (length part) old room pairs_part drawn j in
        let before : ℕ = length zs - length (part ++ rest) in
        let on : before + length part ≡ length zs - length rest = omega (arith, r.within, size) in
        record {
          within = omega (arith, r.within, size);
          near = near_rest part rest r.near;
          now_at = n ∙ ap (after (length part)) r.now_at ∙ sym (after_add before (length part) g) ∙ ap (λ (k : ℕ). after k g) on;
          east = one_block sine g d b zs state drawn.next _ _ part rest r.east r.within n (sum_is sine part d b state new sums.east sums'.east new_is east) grown.east;
          north = one_block cosine g d b zs state drawn.next _ _ part rest r.north r.within n (sum_is cosine part d b state new sums.north sums'.north new_is north) grown.north;
        }

-- after the last block
pub played_through : {g : Generator} {d b : ℕ} {zs : List LoopShot} {state : Generator} {sums : Sums} (rest : List LoopShot) → Playing g d b zs state sums rest → length rest ≡ 0 → length zs ≤ limits.most_shots
    → (state ≡ after (length zs) g)
    × (sums.east ≡ total sine (played_shots (setting_of g d b) (shots_of zs)))
    × (sums.north ≡ total cosine (played_shots (setting_of g d b) (shots_of zs)))
    × Spare sums 0
played_through {g} {d} {b} {zs} {state} {sums} [] r e few =
    let all : length zs - 0 ≡ length zs = omega arith in
    (r.now_at ∙ ap (λ (n : ℕ). after n g) all, at_last sine g d b zs state sums.east r.east, at_last cosine g d b zs state sums.north r.north, record { east = omega (arith, r.east.small, few); north = omega (arith, r.north.small, few) })
played_through (x ∷ rest) r e few = absurd (omega (arith, e))

-- Plays, one after another: what the memory holds between two of them, and plays from another record on.
use Prim.Native.Nat.{ℕ, zero, suc, ◌+◌, ◌*◌, ◌^◌, ◌≤◌, ◌<◌}
use native.Mathlib.Nat.{zero-add, zero-mul, suc-add, mul-le-mul, mul-le-mul_right, le_refl}
use native.Mathlib.Omega.{arith}
use mathlib.Core.Path.{◌≡◌, refl, sym, ap, ap₂, ◌∙◌}
use mathlib.Core.List.{List, [], ◌∷◌, ◌++◌}
use lib.IntN.{ℤ}
use lib.ListN.{length, set, take, length-map}
use lib.Seq.{take-suc-set, take_all}
use Rattle.streams.specs.declared.Generator.{Generator}
use Rattle.streams.specs.declared.RecordAnswer.{RecordAnswer}
use Rattle.streams.specs.Streams.{pairs_code, after, skip_of}
use Rattle.streams.specs.Recurrence.{Sound}
use Rattle.streams.proofs.Theorems.{pairs_accepted, after_add}
use Rattle.job_reader.specs.declared.walk.Setting.{Setting}
use Rattle.job_reader.specs.declared.loops.LoopShot.{LoopShot}
use Rattle.noisy_shot.specs.Shots.{Shot}
use Rattle.sums.specs.Sums.{sine, cosine, total, rounded}
use Rattle.play.specs.Play.{ahead, played_shots, sum_at, miss_at, misses_from}
use Rattle.play.specs.Private.{setting_of, shot_of, shots_of}
use Rattle.play.proofs.Blocks.{pairs_left}

-- ---- Sequences of plays

-- from a record that is j plays on
sum_on : (G : ℕ → ℤ) (j i : ℕ) (s : Setting) (l : List Shot) → sum_at G (ahead (j * length l) s) l i ≡ sum_at G s l (j + i)
unfolding sum_at
sum_on G j i s l =
    let n : (j + i) * length l ≡ j * length l + i * length l = omega arith in
    rw (n, after_add (j * length l) (i * length l) s.generator)

miss_on : (j i : ℕ) (s : Setting) (l : List Shot) → miss_at (ahead (j * length l) s) l i ≡ miss_at s l (j + i)
miss_on j i s l = rw (sum_on sine j i s l, sum_on cosine j i s l)

pub misses_on : (runs j i : ℕ) (s : Setting) (l : List Shot) → misses_from i runs (ahead (j * length l) s) l ≡ misses_from (j + i) runs s l
unfolding misses_from
misses_on zero j i s l = refl
misses_on (suc runs) j i s l =
    let e : j + suc i ≡ suc (j + i) = omega arith in
    ap₂ (λ (m : List ℤ) (rest : List (List ℤ)). m ∷ rest) (miss_on j i s l)
    (misses_on runs j (suc i) s l ∙ ap (λ (k : ℕ). misses_from k runs s l) e)

-- one run after another
pub misses_joined : (n m j : ℕ) (s : Setting) (l : List Shot) → misses_from j (n + m) s l ≡ misses_from j n s l ++ misses_from (j + n) m s l
unfolding misses_from
misses_joined zero m j s l = let e : j + 0 ≡ j = omega arith in rw (e, zero-add m)
misses_joined (suc n) m j s l =
    let e : suc j + n ≡ j + suc n = omega arith in
    rw (suc-add n m) (ap (λ (r : List (List ℤ)). miss_at s l j ∷ r) (misses_joined n m (suc j) s l ∙ rw e))

-- ---- The loop over the plays

-- before play i: the record is i plays on, and the misses of those before are written
pub record Written (g : Generator) (d b : ℕ) (zs : List LoopShot) (misses : List (List ℤ)) (state : Generator) (i : ℕ) : Type 0 where
  pub now_at : state ≡ after (i * length zs) g
  pub done : take i misses ≡ misses_from 0 i (setting_of g d b) (shots_of zs)

pub at_first : (g : Generator) (d b : ℕ) (zs : List LoopShot) (misses : List (List ℤ)) → Written g d b zs misses g 0
unfolding after misses_from
at_first g d b zs misses = record { now_at = rw (zero-mul (length zs)); done = refl }

-- the record of play i has room for its pairs
pub pairs_of_play : (g : Generator) (i runs n : ℕ) → Sound g → pairs_code g (runs * n) ≡ 0 → i < runs → pairs_code (after (i * n) g) n ≡ 0
pairs_of_play g i runs n h a more =
    let up : i + 1 ≤ runs = omega (arith, more) in
    pairs_left g (i * n) n (runs * n) h a (omega (arith, mul-le-mul up (le_refl n)))

miss_is : (g state : Generator) (d b : ℕ) (zs : List LoopShot) (i : ℕ) (x y : ℤ) → state ≡ after (i * length zs) g
    → x ≡ rounded (total sine (played_shots (setting_of state d b) (shots_of zs)))
    → y ≡ rounded (total cosine (played_shots (setting_of state d b) (shots_of zs)))
    → x ∷ y ∷ [] ≡ miss_at (setting_of g d b) (shots_of zs) i
unfolding sum_at
miss_is g state d b zs i x y e east north =
    ap₂ (λ (x y : ℤ). x ∷ y ∷ [])
    (east ∙ rw (e, length-map zs shot_of))
    (north ∙ rw (e, length-map zs shot_of))

last_miss : (g : Generator) (d b : ℕ) (zs : List LoopShot) (i : ℕ)
    → misses_from 0 (i + 1) (setting_of g d b) (shots_of zs) ≡ misses_from 0 i (setting_of g d b) (shots_of zs) ++ (miss_at (setting_of g d b) (shots_of zs) i ∷ [])
unfolding misses_from
last_miss g d b zs i = misses_joined i 1 0 (setting_of g d b) (shots_of zs) ∙ rw (zero-add i)

-- one play more
pub one_more : {g : Generator} {d b : ℕ} {zs : List LoopShot} {misses : List (List ℤ)} {state next : Generator} {i : ℕ}
    → Written g d b zs misses state i → i < length misses → next ≡ after (length zs) state → (x y : ℤ)
    → x ≡ rounded (total sine (played_shots (setting_of state d b) (shots_of zs)))
    → y ≡ rounded (total cosine (played_shots (setting_of state d b) (shots_of zs)))
    → Written g d b zs (set misses i (x ∷ y ∷ [])) next (i + 1)
one_more {g} {d} {b} {zs} {misses} {state} {next} {i} r more e x y east north =
    let n : (i + 1) * length zs ≡ i * length zs + length zs = omega arith in
    let i1 : i + 1 ≡ suc i = omega arith in
    let last : misses_from 0 (i + 1) (setting_of g d b) (shots_of zs) ≡ misses_from 0 i (setting_of g d b) (shots_of zs) ++ (miss_at (setting_of g d b) (shots_of zs) i ∷ []) = last_miss g d b zs i in
    record {
      now_at = e ∙ rw (r.now_at, n) (sym (after_add (i * length zs) (length zs) g));
      done = rw (last, i1, take-suc-set misses i (x ∷ y ∷ []) more, r.done, miss_is g state d b zs i x y r.now_at east north);
    }

pub at_end : {g : Generator} {d b : ℕ} {zs : List LoopShot} {misses : List (List ℤ)} {state : Generator} {i : ℕ}
    → Written g d b zs misses state i → (runs : ℕ) → length misses ≡ runs → i ≤ runs → runs ≤ i → misses ≡ misses_from 0 runs (setting_of g d b) (shots_of zs)
at_end {misses = misses} {i = i} r runs kept within left =
    let all : i ≡ runs = omega (arith, within, left) in
    sym (take_all i misses (omega (arith, left, kept))) ∙ r.done ∙ rw all

-- ---- From the first play that is asked for

module _ (g : Generator) (first runs n : ℕ) where
  -- the pairs before it
  pub skip_room : pairs_code g ((first + runs) * n) ≡ 0 → first * n < 2 ^ 64
  skip_room a = let (_, room, _) = (pairs_accepted g ((first + runs) * n)).0 a in omega (arith, room, before_first)
    where
      before_first : first * n ≤ (first + runs) * n
      before_first = mul-le-mul_right n (omega arith)

  module _ (h : Sound g) (a : pairs_code g ((first + runs) * n) ≡ 0) (r : RecordAnswer) (e : r ≡ skip_of g (first * n)) where
    skip_accepted : pairs_code g (first * n) ≡ 0
    skip_accepted =
        let (fits, room, none) = (pairs_accepted g ((first + runs) * n)).0 a in
        let sum : (first + runs) * n ≡ first * n + runs * n = omega arith in
        (pairs_accepted g (first * n)).1 (fits, omega (arith, room, sum), none)

    pub skipped_next : r.next ≡ after (first * n) g
    unfolding skip_of
    skipped_next = ap (λ (x : RecordAnswer). x.next) e ∙ rw skip_accepted

    pub skipped_pairs : pairs_code r.next (runs * n) ≡ 0
    skipped_pairs =
        let sum : first * n + runs * n ≡ (first + runs) * n = omega arith in
        rw skipped_next (pairs_left g (first * n) (runs * n) ((first + runs) * n) h a (omega (arith, sum)))

-- the plays from its record on are those from it on
pub skipped_misses : (s : Setting) (first runs : ℕ) (zs : List LoopShot) → Sound s.generator → pairs_code s.generator ((first + runs) * length zs) ≡ 0
    → (r : RecordAnswer) → r ≡ skip_of s.generator (first * length zs) → (misses : List (List ℤ))
    → misses ≡ misses_from 0 runs (setting_of r.next s.distance s.bearing) (shots_of zs) → misses ≡ misses_from first runs s (shots_of zs)
skipped_misses s first runs zs h a r e misses m =
    let n : length (shots_of zs) ≡ length zs = length-map zs shot_of in
    let z : first + 0 ≡ first = omega arith in
    m
    ∙ ap (λ (g : Generator). misses_from 0 runs (setting_of g s.distance s.bearing) (shots_of zs)) (skipped_next s.generator first runs (length zs) h a r e ∙ rw n)
    ∙ misses_on runs first 0 s (shots_of zs)
    ∙ ap (λ (j : ℕ). misses_from j runs s (shots_of zs)) z

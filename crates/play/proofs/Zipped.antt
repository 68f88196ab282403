-- Samples taken two by two, in step with the shots.
use Prim.Native.Nat.{ℕ, zero, suc, ◌+◌, ◌*◌, ◌/◌, ◌<◌}
use native.Mathlib.Omega.{arith}
use mathlib.Core.Path.{◌≡◌, refl, ap, ◌∙◌}
use mathlib.Core.List.{List, [], ◌∷◌}
use lib.IntN.{ℤ, pos}
use lib.ListN.{length, get_or, take, drop}
use lib.Seq.{drop-cons, drop-drop}
use denote.Ref.{Bor}
use Rattle.std.specs.Prelude.{Option, Some, None}
use Rattle.std.specs.Simd.{first_chunks}
use Rattle.std.specs.Iterator.{Yields}
use Rattle.std.specs.Iterator.Adapters.{zip_first, zip_second}
use Rattle.std.specs.Slice.Iter.{iter_rest}
use Rattle.std.specs.declared.iter.Zip.{Zip}
use Rattle.std.proofs.Common.{Iter}
use Rattle.std.proofs.iter.Yields.{fronts}
use Rattle.std.proofs.lemmas.Iterator.{zips}
use Rattle.std.proofs.lemmas.Slice.Zip.{zip_turn, zip_end}

-- pair i is the samples 2 i and 2 i + 1
chunk_at : (n i : ℕ) (ss : List ℤ) → i < n → get_or (first_chunks 2 n ss) i [] ≡ take 2 (drop (2 * i) ss)
chunk_at zero i ss h = absurd (omega arith)
chunk_at (suc n) zero ss h = refl
chunk_at (suc n) (suc i) ss h =
    let on : 2 + 2 * i ≡ 2 * suc i = omega arith in
    chunk_at n i (drop 2 ss) (omega arith) ∙ ap (take 2) (drop-drop (2 * i) 2 ss ∙ ap (λ (k : ℕ). drop k ss) on)

pair_is : (n i : ℕ) (ss p : List ℤ) → i < n → 2 * n ≡ length ss → p ≡ get_or (first_chunks 2 n ss) i []
    → (get_or p 0 (pos 0) ≡ get_or ss (2 * i) (pos 0)) × (get_or p 1 (pos 0) ≡ get_or ss (2 * i + 1) (pos 0))
pair_is n i ss p h long e =
    let one : 2 * i + 1 ≡ suc (2 * i) = omega arith in
    let two : drop (2 * i) ss ≡ get_or ss (2 * i) (pos 0) ∷ get_or ss (suc (2 * i)) (pos 0) ∷ drop (suc (suc (2 * i))) ss =
    drop-cons ss (2 * i) (pos 0) (omega (arith, h, long))
    ∙ ap (λ (l : List ℤ). get_or ss (2 * i) (pos 0) ∷ l) (drop-cons ss (suc (2 * i)) (pos 0) (omega (arith, h, long))) in
    rw (e, chunk_at n i ss h, two, one) (refl, refl)

-- the loop over the shots zs and the pairs vs of their samples ss, which has yielded xs
module _ {A : Type 0} {zs : List A} {vs : List (List ℤ)} {it : Iter A} {z s : Zip (Iter A) (Iter (List ℤ))}
    (ss : List ℤ) (xs : List (Bor A × Bor (List ℤ))) (t u : Zip (Iter A) (Iter (List ℤ))) (r : Option (Bor A × Bor (List ℤ)))
    (even : length ss ≡ 2 * length zs) (pairs : vs ≡ first_chunks 2 (length ss / 2) ss) (front_len : length vs ≡ length ss / 2) (same : s ≡ z)
    (first : zip_first z ≡ it) (all : iter_rest it ≡ zs) (second : iter_rest (zip_second z) ≡ vs)
    (y : Yields (zips fronts fronts) s xs t) (step : zips fronts fronts t r u) where
  firsts : iter_rest (zip_first s) ≡ zs
  firsts = rw (same, first) all

  seconds : iter_rest (zip_second s) ≡ vs
  seconds = rw same second

  -- a turn has the next shot and its two samples
  pub turn : (p : Bor A × Bor (List ℤ)) → r ≡ Some p
      → (length xs < length zs)
      × ((d : A) → p.0.now ≡ get_or zs (length xs) d)
      × (get_or p.1.now 0 (pos 0) ≡ get_or ss (2 * length xs) (pos 0))
      × (get_or p.1.now 1 (pos 0) ≡ get_or ss (2 * length xs + 1) (pos 0))
  turn p e =
      let (more, within, shot, pair) = zip_turn zs vs xs s t u r firsts seconds y p e step in
      let chunk = pair [] ∙ ap (λ (l : List (List ℤ)). get_or l (length xs) []) pairs in
      let (one, two) = pair_is (length ss / 2) (length xs) ss p.1.now (omega (arith, more, even)) (omega (arith, even)) chunk in
      (more, shot, one, two)

  -- after the last, as many turns as shots
  pub turns : r ≡ None → length xs ≡ length zs
  turns e = omega (arith, zip_end zs vs xs s t u r firsts seconds y e step, even, front_len)

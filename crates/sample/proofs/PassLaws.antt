-- The passes, between two turns of their loops.
use mathlib.Core.Path.{◌≡◌, refl, ap, ◌∙◌}
use mathlib.Core.List.{List}
use Prim.Native.Nat.{ℕ, ◌+◌, ◌/◌, ◌%◌, ◌^◌, ◌≤◌, ◌<◌}
use native.Mathlib.Decide.{dec_lt}
use native.Mathlib.Omega.{arith}
use lib.ListN.{length, get_or, set, length-set}
use lib.Seq.{get_or-set_same, get_or-set_other}
use Rattle.radius.specs.Steps.{under_root, radius_of}
use Rattle.radius.specs.Root.{whole_root, NearRoot}
use Rattle.radius.proofs.Ranges.{under_root_below}
use Rattle.angle.specs.Rotations.{Rotated}
use Rattle.sample.specs.Private.{Room, LookedAt, Looked, UnderRoots, NearRoots, Ready}

-- ---- A list that is rewritten in place: its first i numbers are what they should be, the others as they were.
pub record Done (P : ℕ → ℕ → Type 0) (old new : List ℕ) (i : ℕ) : Type 0 where
  pub kept : length new ≡ length old
  pub done : (j : ℕ) → j < i → P j (get_or new j 0)
  pub rest : (j : ℕ) → i ≤ j → get_or new j 0 ≡ get_or old j 0

module _ {P : ℕ → ℕ → Type 0} {old : List ℕ} where
  pub none_done : Done P old old 0
  none_done = record { kept = refl; done = λ j h. absurd (omega arith); rest = λ j h. refl }

  pub one_done : {new : List ℕ} {i y : ℕ} → Done P old new i → i < length new → P i y → Done P old (set new i y) (i + 1)
  one_done {new} {i} {y} d h p = record {
    kept = simp length-set d.kept;
    done = λ j few. go j few (dec_lt j i);
    rest = λ j beyond. get_or-set_other new i j y 0 (omega arith) ∙ d.rest j (omega arith);
  }
    where
      go : (j : ℕ) → j < i + 1 → Dec (j < i) → P j (get_or (set new i y) j 0)
      go j few (yes lt) =
          let other : (j ≡ i → ⊥) = omega arith in
          rw (get_or-set_other new i j y 0 other) (d.done j lt)
      go j few (no ge) =
          let same : j ≡ i = omega arith in
          rw (same, get_or-set_same new i y 0 h) p

  pub all_done : {new : List ℕ} {n i : ℕ} → Done P old new i → n ≤ i → (j : ℕ) → j < n → P j (get_or new j 0)
  all_done d over j h = d.done j (omega arith)

-- ---- The first pass
-- Each of five lists is as long as it was.
pub record Kept (places r x coarse fine places' r' x' coarse' fine' : List ℕ) : Type 0 where
  pub places_kept : length places' ≡ length places
  pub r_kept : length r' ≡ length r
  pub x_kept : length x' ≡ length x
  pub coarse_kept : length coarse' ≡ length coarse
  pub fine_kept : length fine' ≡ length fine

-- its first i numbers are looked up
pub record Looking (z p₀ r₀ x₀ c₀ f₀ p r x c f : List ℕ) (i : ℕ) : Type 0 where
  pub kept : Kept p₀ r₀ x₀ c₀ f₀ p r x c f
  pub looked : Looked z p r x c f i

pub none_looked : {z p r x c f : List ℕ} → Room (length z) p r x c f → Looking z p r x c f p r x c f 0
none_looked room = record {
  kept = record { places_kept = refl; r_kept = refl; x_kept = refl; coarse_kept = refl; fine_kept = refl };
  looked = record { room = room; at = λ j h. absurd (omega arith) };
}

pub one_looked : {z p₀ r₀ x₀ c₀ f₀ p r x c f : List ℕ} {i a b l s t : ℕ} → Looking z p₀ r₀ x₀ c₀ f₀ p r x c f i → i < length z
    → LookedAt (get_or z i 0) a b l s t → Looking z p₀ r₀ x₀ c₀ f₀ (set p i a) (set r i b) (set x i l) (set c i s) (set f i t) (i + 1)
one_looked {z} {p₀} {r₀} {x₀} {c₀} {f₀} {p} {r} {x} {c} {f} {i} {a} {b} {l} {s} {t} g h here = record {
  kept = record {
    places_kept = simp length-set g.kept.places_kept;
    r_kept = simp length-set g.kept.r_kept;
    x_kept = simp length-set g.kept.x_kept;
    coarse_kept = simp length-set g.kept.coarse_kept;
    fine_kept = simp length-set g.kept.fine_kept;
  };
  looked = record {
    room = record {
      places_room = simp length-set room.places_room;
      r_room = simp length-set room.r_room;
      x_room = simp length-set room.x_room;
      coarse_room = simp length-set room.coarse_room;
      fine_room = simp length-set room.fine_room;
    };
    at = λ j few. go j few (dec_lt j i);
  };
}
  where
    room : Room (length z) p r x c f
    room = g.looked.room

    go : (j : ℕ) → j < i + 1 → Dec (j < i)
        → LookedAt (get_or z j 0) (get_or (set p i a) j 0) (get_or (set r i b) j 0) (get_or (set x i l) j 0) (get_or (set c i s) j 0) (get_or (set f i t) j 0)
    go j few (yes lt) =
        let other : (j ≡ i → ⊥) = omega arith in
        rw (
          get_or-set_other p i j a 0 other,
          get_or-set_other r i j b 0 other,
          get_or-set_other x i j l 0 other,
          get_or-set_other c i j s 0 other,
          get_or-set_other f i j t 0 other,
        ) (g.looked.at j lt)
    go j few (no ge) =
        let same : j ≡ i = omega arith in
        rw (
          same,
          get_or-set_same p i a 0 (omega (arith, room.places_room)),
          get_or-set_same r i b 0 (omega (arith, room.r_room)),
          get_or-set_same x i l 0 (omega (arith, room.x_room)),
          get_or-set_same c i s 0 (omega (arith, room.coarse_room)),
          get_or-set_same f i t 0 (omega (arith, room.fine_room)),
        ) here

pub all_looked : {z p r x c f : List ℕ} {i : ℕ} → Looked z p r x c f i → length z ≤ i → Looked z p r x c f (length z)
all_looked k over = record { room = k.room; at = λ j h. k.at j (omega arith) }

-- ---- What the first three leave for the last
pub ready : {z places r logs coarse fine x near : List ℕ} → Looked z places r logs coarse fine (length z) → ((j : ℕ) → get_or z j 0 < 2 ^ 64)
    → UnderRoots (length z) places r logs x → NearRoots (length z) x near → length x ≡ length logs → length near ≡ length r → Ready z x near coarse fine
ready {z} {places} {r} {logs} {coarse} {fine} {x} {near} looked fits roots nears x_kept near-kept = record {
  x_room = omega (arith, looked.room.x_room);
  r_room = omega (arith, looked.room.r_room);
  coarse_room = looked.room.coarse_room;
  fine_room = looked.room.fine_room;
  at = λ j h.
      let at = looked.at j h in
      let z-fits = fits j in
      let under : get_or x j 0 ≡ under_root (get_or z j 0 / 65536) = roots j h (get_or z j 0 / 65536) (omega arith) at.cell in
      let below : get_or x j 0 < 2 ^ 48 = rw under (omega (arith, under_root_below (get_or z j 0 / 65536))) in
      record { under = under; near = nears j h below; rotated = at.rotated };
}

-- ---- What the last asks of each z
module _ {z x r coarse fine : List ℕ} (ready : Ready z x r coarse fine) {i : ℕ} (h : i < length z) where
  pub radius_taken : {F : ℕ} → (get_or x i 0 < 2 ^ 48 → NearRoot (get_or x i 0) (get_or r i 0) → F ≡ whole_root (get_or x i 0)) → F ≡ radius_of (get_or z i 0 / 65536)
  unfolding radius_of
  radius_taken root =
      let at = ready.at i h in
      let below : get_or x i 0 < 2 ^ 48 = rw at.under (omega (arith, under_root_below (get_or z i 0 / 65536))) in
      root below at.near ∙ ap whole_root at.under

  pub rotations_taken : Rotated (get_or z i 0 % 65536 % 16384) (get_or coarse i 0) (get_or fine i 0)
  rotations_taken =
      let same : get_or z i 0 % 65536 % 16384 ≡ get_or z i 0 % 16384 = omega arith in
      rw same (ready.at i h).rotated

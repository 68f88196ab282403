-- The place of an accepted call is inside the set.
use mathlib.Core.Path.{◌≡◌, refl}
use mathlib.Core.Bool.{Bool, true, false}
use mathlib.Core.List.{List, [], ◌∷◌}
use Prim.Native.Nat.{ℕ, zero, suc, ◌<◌}
use lib.Dec.{ltb}
use lib.ListN.{get_or}
use native.Mathlib.Omega.{arith}
use borrow.Author.Tests.{ltb-true}
use Rattle.streams.specs.declared.Generator.{Generator}
use Rattle.streams.specs.Streams.{first_cause}
use Rattle.streams.proofs.Causes.{none_applies}
use Rattle.marks.specs.declared.label.Label.{Label}
use Rattle.marks.specs.declared.call.Placed.{Placed}
use Rattle.marks.specs.Marks.{places, place_of, save_place, idle_code, name_code, place_code, placed_of, place_to_save, place_to_return, place_to_drop}

pub inside : (place code : ℕ) → 0 < code → place_code place code ≡ 0 → place < places
unfolding place_code
inside place code some h = by_test (ltb place places) refl
  where
    by_test : (t : Bool) → ltb place places ≡ t → place < places
    by_test true e = ltb-true _ _ e
    by_test false e =
        let none : code ≡ 0 = rw (place_code, e) at h in
        absurd (omega (arith, none))

-- no cause of an accepted call applies
pub each_none : (causes : List ℕ) → first_cause causes ≡ 0 → (i : ℕ) → get_or causes i 0 ≡ 0
each_none [] h i = refl
each_none (cause ∷ causes) h zero = (none_applies cause causes h).0
each_none (cause ∷ causes) h (suc i) = each_none causes (none_applies cause causes h).1 i

abbrev pub Inside : Placed → Type 0
Inside placed = placed.code ≡ 0 → placed.place < places

pub placed_inside : (place busy malformed code : ℕ) → 0 < code → Inside (placed_of place busy malformed code)
placed_inside place busy malformed code some h = inside place code some (each_none (busy ∷ malformed ∷ place_code place code ∷ []) h 2)

pub save_inside : (labels : List Label) (g : Generator) (bytes : List ℕ) → Inside (place_to_save labels g bytes)
unfolding place_to_save
save_inside labels g bytes = placed_inside (save_place labels bytes) (idle_code g) (name_code bytes) 20 (omega arith)

pub return_inside : (labels : List Label) (g : Generator) (bytes : List ℕ) → Inside (place_to_return labels g bytes)
unfolding place_to_return
return_inside labels g bytes = placed_inside (place_of labels bytes) (idle_code g) (name_code bytes) 19 (omega arith)

pub drop_inside : (labels : List Label) (bytes : List ℕ) → Inside (place_to_drop labels bytes)
unfolding place_to_drop
drop_inside labels bytes = placed_inside (place_of labels bytes) 0 (name_code bytes) 19 (omega arith)

-- a code and a place
pub placed_is : {code code' place place' : ℕ} → code ≡ code' → place ≡ place'
    → let placed : ℕ → ℕ → Placed = λ c p. record { code = c; place = p } in placed code place ≡ placed code' place'
placed_is e f = rw (e, f)

-- so is that of what equals it
pub both : {r placed : Placed} → Inside placed → r ≡ placed → (r ≡ placed) × Inside r
both h e = (e, rw e h)

-- The values of samples in memory, of any width: those of a list are those of each.
use mathlib.Core.Path.{◌≡◌, sym, ap, ◌∙◌}
use mathlib.Core.List.{List, [], ◌∷◌, ◌++◌}
use Prim.Native.Nat.{ℕ}
use native.Mathlib.Omega.{arith}
use lib.IntN.{ℤ}
use lib.ListN.{length, set, take}
use Rattle.std.specs.Prelude.{map, drop}
use Rattle.std.proofs.lemmas.List.{map-set, map-append, length-map, take-map, drop-map}
use borrow.Rule.Slice.PartMut.{put_mid}

module _ {A : Type 0} {value : A → ℤ} {values : List A → List ℤ} (each : (l : List A) → values l ≡ map value l) where
  pub values_length : (l : List A) → length (values l) ≡ length l
  values_length l = ap length (each l) ∙ length-map l value

  pub values_set : (l : List A) (i : ℕ) (x : A) → values (set l i x) ≡ set (values l) i (value x)
  values_set l i x = each (set l i x) ∙ map-set value l i x ∙ ap (λ (m : List ℤ). set m i (value x)) (sym (each l))

  pub values_two : (x y : A) → values (x ∷ y ∷ []) ≡ value x ∷ value y ∷ []
  values_two x y = each (x ∷ y ∷ [])

  -- two samples written to memory of two
  pub values_pair : (l : List A) {x y : A} {a b : ℤ} → length l ≡ 2 → value x ≡ a → value y ≡ b → values (set (set l 0 x) 1 y) ≡ a ∷ b ∷ []
  values_pair [] size ex ey = absurd (omega (arith, size))
  values_pair (u ∷ []) size ex ey = absurd (omega (arith, size))
  values_pair (u ∷ v ∷ []) {x} {y} size ex ey = values_two x y ∙ rw (ex, ey)
  values_pair (u ∷ v ∷ w ∷ l) size ex ey = absurd (omega (arith, size))

  pub values_put_mid : (a k : ℕ) (l m : List A) → values (put_mid a k l m) ≡ put_mid a k (values l) (values m)
  values_put_mid a k l m =
      each (put_mid a k l m)
      ∙ rw (map-append value (take a l) (m ++ drop k (drop a l)), map-append value m (drop k (drop a l)), ← (take-map value a l), ← (drop-map value k (drop a l)), ← (drop-map value a l), each l, each m)

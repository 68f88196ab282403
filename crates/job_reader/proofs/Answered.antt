-- What `map_err` was called on, from what it answered.
use mathlib.Core.Path.{◌≡◌, refl}
use Rattle.std.specs.Prelude.{Result, Ok, Err, MatchResult}

module _ {A E : Type 0} (D : Type 0) where
  pub was_ok : (s : Result A E) (x : A) → MatchResult s (λ y. ◌≡◌ {A = Result A D} (Ok x) (Ok y)) (λ _. ⊥) → s ≡ Ok x
  was_ok (Ok y) x h = cc
  was_ok (Err e) x h = absurd h

  pub was_err : (s : Result A E) (d : D) (Q : E → Type 0) → MatchResult s (λ y. ◌≡◌ {A = Result A D} (Err d) (Ok y)) Q → (e : E) × (s ≡ Err e) × Q e
  was_err (Ok y) d Q h = cc
  was_err (Err e) d Q h = (e, refl, h)

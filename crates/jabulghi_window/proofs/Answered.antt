-- What is stored of an answer is its code and its window.
use mathlib.Core.Path.{◌≡◌, refl, ap, ◌∙◌}
use mathlib.Core.Bool.{Bool, true, false, cond}
use mathlib.Core.List.{List}
use Prim.Native.Nat.{ℕ}
use lib.IntN.{ℤ}
use Rattle.std.specs.Prelude.{Result}
use Rattle.drift.specs.declared.window.Members.{Members}
use Rattle.drift.specs.declared.window.Refusal.{Refusal}
use Rattle.drift.specs.Drift.{WindowAnswer, size_fit, empty_window, empty_places, accepted, refusal, made_of, with_places, answered, answer_code, answer_members}
use Rattle.drift.specs.Theorems.{Kept}

pub made_places : (n : ℕ) → empty_places ≡ (made_of n).window.places
unfolding made_of
made_places n = places (size_fit n)
  where
    places : (t : Bool) → empty_places ≡ (cond t (accepted (empty_window n)) refusal).window.places
    places true = refl
    places false = refl

module _ (r : WindowAnswer) (h : Kept r) {answer : Result Members Refusal} (e : answer ≡ answered r) where
  pub code_stored : {code : ℕ} → code ≡ answer_code answer → code ≡ r.code
  code_stored c = c ∙ ap answer_code e ∙ h.code

  pub window_stored : {m : Members} {places : List ℤ} → m ≡ answer_members answer → places ≡ r.window.places → with_places m places ≡ r.window
  window_stored c p = rw (c, p, e, h.members)

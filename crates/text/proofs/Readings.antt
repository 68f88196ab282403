-- What an answer says that is there just where a test holds, and what three such answers say.
use Prim.Native.Nat.{ℕ}
use mathlib.Core.Path.{◌≡◌, refl, sym, ◌∙◌}
use mathlib.Core.Bool.{Bool, true, false, cond, ◌&&◌}
use mathlib.Core.List.{List}
use Rattle.std.proofs.Common.{Option, Some, None}
use Rattle.std.proofs.lemmas.Option.{cond_some}
use Rattle.text.specs.Fields.{digit_string, value, SpellThree}

pub there : {A : Type 0} (t : Bool) (v : A) (r : Option A) (x : A) → r ≡ cond t (Some v) None → r ≡ Some x → (t ≡ true) × (x ≡ v)
there t v r x s h = let p = cond_some t v x (sym s ∙ h) in (p.0, sym p.1)

pub not_there : {A : Type 0} (t : Bool) (v : A) (r : Option A) → r ≡ cond t (Some v) None → r ≡ None → t ≡ false
not_there t v r s h = go t (sym s ∙ h)
  where
    go : (b : Bool) → cond b (Some v) None ≡ None → b ≡ false
    go true e = cc
    go false e = refl

-- what stands in three fields: one of them is no digit string, or all are
module _ (x y z : List ℕ) (r : Option ℕ × Option ℕ × Option ℕ) (s : SpellThree x y z r) where
  abbrev three : Bool
  three = digit_string x && digit_string y && digit_string z

  pub first_not : r.0 ≡ None → three ≡ false
  first_not e = rw (not_there _ _ _ s.0 e)

  pub second_not : r.1 ≡ None → three ≡ false
  second_not e = rw (not_there _ _ _ s.1 e) (go (digit_string x))
    where
      go : (b : Bool) → b && false && digit_string z ≡ false
      go true = refl
      go false = refl

  pub third_not : r.2 ≡ None → three ≡ false
  third_not e = rw (not_there _ _ _ s.2 e) (go (digit_string x) (digit_string y))
    where
      go : (b d : Bool) → b && d && false ≡ false
      go true true = refl
      go true false = refl
      go false d = refl

  pub all_there : (a b c : ℕ) → r.0 ≡ Some a → r.1 ≡ Some b → r.2 ≡ Some c → (three ≡ true) × (a ≡ value 0 x) × (b ≡ value 0 y) × (c ≡ value 0 z)
  all_there a b c e f g =
      let (t, i) = there _ _ _ a s.0 e in
      let (u, j) = there _ _ _ b s.1 f in
      let (v, k) = there _ _ _ c s.2 g in
      (rw (t, u, v), i, j, k)

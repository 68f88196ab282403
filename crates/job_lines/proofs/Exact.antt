-- From what a line says, and where a shot's names stand, to the line as the code holds it.
use Prim.Native.Nat.{ℕ}
use mathlib.Core.Path.{◌≡◌, refl, sym, ap, ◌∙◌}
use mathlib.Core.Bool.{Bool, true, false, cond, ◌&&◌, true≢false}
use mathlib.Core.List.{List}
use Rattle.std.proofs.Common.{Option, Some, None}
use Rattle.text.specs.Forms.{places_from, digit_string_at, three_at}
use Rattle.text.specs.declared.field.Place.{Place}
use Rattle.job_lines.specs.Forms.{Form, seeds, sigma, shot, no_form, shot_form, seeds_of, sigma_of, said, line_in}
use Rattle.job_lines.specs.Private.{NamesAt}
use Rattle.job_lines.specs.declared.Line.{Line}
use Rattle.job_lines.specs.declared.Line.TheVariants.{Seeds, Sigma, Shot}

-- whether it is a shot
abbrev pub is_shot : Form → Bool
is_shot (seeds a0 a1 a2 b0 b1 b2) = false
is_shot (sigma d b) = false
is_shot (shot from to d b) = true
is_shot no_form = false

-- the fields of the other forms give no shot
not_either : (t : Bool) (x : Form) → is_shot x ≡ false → is_shot (cond t x no_form) ≡ false
not_either true x e = e
not_either false x e = refl

pub seeds_other : (v : List (List ℕ)) → is_shot (seeds_of v) ≡ false
unfolding seeds_of
seeds_other v = not_either (three_at v 0 && three_at v 3) _ refl

pub sigma_other : (v : List (List ℕ)) → is_shot (sigma_of v) ≡ false
unfolding sigma_of
sigma_other v = not_either (digit_string_at v 0 && digit_string_at v 1) _ refl

module _ (line : List ℕ) where
  line_is : (r : Option Line) (x : Form) → said line r ≡ x → NamesAt (places_from 0 shot_form line) r → r ≡ line_in line x
  unfolding line_in
  line_is (Some (Seeds s)) x e h = ap (line_in line) e
  line_is (Some (Sigma s)) x e h = ap (line_in line) e
  line_is (Some (Shot s)) x e h = sym (rw (← e, ← h.0, ← h.1))
  line_is None x e h = ap (line_in line) e

  -- a line without a name
  pub told_other : (r : Option Line) (x : Form) → said line r ≡ x → is_shot x ≡ false → (said line r ≡ x) × (r ≡ line_in line x)
  told_other r x e f = (e, line_is r x e (go r (ap is_shot e ∙ f)))
    where
      go : (r : Option Line) → is_shot (said line r) ≡ false → NamesAt (places_from 0 shot_form line) r
      go (Some (Seeds s)) g = tt
      go (Some (Sigma s)) g = tt
      go (Some (Shot s)) g = absurd (true≢false g)
      go None g = tt

  -- a shot, or a line of its form that is none
  pub told_shot : (r : Option Line) (x : Form) (places : List Place) → said line r ≡ x → NamesAt places r → places ≡ places_from 0 shot_form line
      → (said line r ≡ x) × (r ≡ line_in line x)
  told_shot r x places e h f = (e, line_is r x e (rw f at h))

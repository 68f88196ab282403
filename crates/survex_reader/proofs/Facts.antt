-- What a leg once read holds: names, a distance and a bearing within their ranges; and the codes of a refusal.
use Prim.Native.Nat.{ℕ, ◌≤◌, ◌<◌}
use native.Mathlib.Omega.{arith}
use mathlib.Core.Path.{◌≡◌, refl, subst}
use mathlib.Core.Bool.{Bool, true, false, cond, ◌&&◌}
use mathlib.Core.List.{List}
use lib.Dec.{leb, eqb}
use lib.ListN.{length}
use borrow.Author.Tests.{leb-true}
use Rattle.text.specs.Fields.{name}
use Rattle.text.proofs.Tests.{test, ◌and◌, each}
use Rattle.text.specs.Forms.{field_at}
use Rattle.noisy_shot.specs.Rounding.{turn_steps}
use Rattle.survex_reader.specs.Limits.{tape_decimals, compass_decimals, most_tape, compass_turn}
use Rattle.survex_reader.specs.Legs.{Said, leg, wrong, is_decimal, tape_in, compass_in, level, step_of, leg_form, leg_range, read_leg}

pub record LegFacts (f t : List ℕ) (d b : ℕ) : Type 0 where
  pub from : name f ≡ true
  pub to : name t ≡ true
  pub distance : d ≤ most_tape
  pub bearing : b < turn_steps

-- Bearings are below a turn's steps.
pub step_below : (c : ℕ) → step_of c < turn_steps
unfolding step_of
step_below c = omega arith

-- what each answer of the definition holds
unfoldable pub Holds : Said → Type 0
Holds (leg f t d b) = LegFacts f t d b
Holds (wrong n) = 21 ≤ n

module _ (v : List (List ℕ)) where
  formed : leg_form v ≡ true → (name (field_at v 0) ≡ true) × (name (field_at v 1) ≡ true)
  unfolding leg_form
  formed h =
      let (five, (from, (to, rest))) = each (test (eqb (length v) 5) and (test (name (field_at v 0)) and (test (name (field_at v 1)) and
      test (is_decimal tape_decimals (field_at v 2) && is_decimal compass_decimals (field_at v 3))))) h in
      (from, to)

  ranged : leg_range v ≡ true → tape_in v ≤ most_tape
  unfolding leg_range
  ranged h = leb-true (tape_in v) most_tape (each (test (leb (tape_in v) most_tape) and test (leb (compass_in v) compass_turn && level (field_at v 4))) h).0

  pub said_holds : Holds (read_leg v)
  unfolding read_leg Holds
  said_holds = go (leg_form v) (leg_range v) refl refl
    where
      go : (x y : Bool) → leg_form v ≡ x → leg_range v ≡ y
          → Holds (cond x (cond y (leg (field_at v 0) (field_at v 1) (tape_in v) (step_of (compass_in v))) (wrong 22)) (wrong 21))
      go true true e f =
          let a = formed e in
          record { from = a.0; to = a.1; distance = ranged f; bearing = step_below (compass_in v) }
      go true false e f = omega arith
      go false y e f = omega arith

-- a leg that is read has names and is in its ranges; a line that is refused has 21 or 22
pub leg_facts : (v : List (List ℕ)) (f t : List ℕ) (d b : ℕ) → read_leg v ≡ leg f t d b → LegFacts f t d b
unfolding Holds
leg_facts v f t d b e = subst Holds e (said_holds v)

pub wrong_facts : (v : List (List ℕ)) (n : ℕ) → read_leg v ≡ wrong n → 21 ≤ n
unfolding Holds
wrong_facts v n e = subst Holds e (said_holds v)

-- What a leg's fields say, from what its readers found.
use Prim.Native.Nat.{ℕ, ◌≤◌}
use Rattle.std.specs.Option.{ok_or}
use mathlib.Core.Path.{◌≡◌, refl, sym, ap}
use mathlib.Core.Bool.{Bool, true, false, ◌&&◌, and-false, and-true}
use Rattle.std.proofs.Math.Bool.{and_assoc}
use mathlib.Core.List.{List, [], ◌∷◌}
use native.Mathlib.Omega.{arith}
use Rattle.std.specs.Str.{bytes_eq}
use lib.Dec.{leb, eqb}
use lib.ListN.{length}
use borrow.Author.Tests.{leb-true, ne_eqb}
use Rattle.text.specs.Fields.{name, part_of}
use Rattle.job_lines.specs.declared.Shot.{Shot}
use Rattle.std.proofs.Common.{Option, Some, None, Ok, Err}
use Rattle.text.proofs.Readings.{there, not_there}
use Rattle.text.proofs.Tests.{test, ◌and◌, each}
use Rattle.text.specs.Forms.{field_at}
use Rattle.survex_reader.specs.Limits.{tape_decimals, compass_decimals, most_tape, compass_turn}
use Rattle.survex_reader.specs.Legs.{Said, Reads, tape_in, compass_in, leg, wrong, word_at, level, step_of, leg_form, leg_range, read_leg, code_of, leg_at}
use Rattle.survex_reader.specs.declared.leg.LegRefusal.{LegRefusal}
use Rattle.survex_reader.specs.declared.leg.LegRefusal.TheVariants.{Form, Range}
use Rattle.survex_reader.specs.Private.{numbered, NumbersOf}
use Rattle.survex_reader.specs.declared.leg.LegNumbers.{LegNumbers}

-- a clino
pub level_same : (l zero : List ℕ) → zero ≡ 48 ∷ [] → bytes_eq l zero ≡ level l
unfolding level
level_same [] zero e = rw e refl
level_same (x ∷ []) zero e = rw e (and-true (eqb x 48))
level_same (x ∷ y ∷ xs) zero e = rw (e, ne_eqb (length (x ∷ y ∷ xs)) 1 (λ h. omega (arith, h))) (and-false (eqb x 48))

-- the ranges
module _ (tape compass : ℕ) where
  abbrev fits : Bool
  fits = leb tape most_tape && leb compass compass_turn

  pub range_compass : fits ≡ true → compass ≤ compass_turn
  range_compass e = leb-true compass compass_turn (each (test (leb tape most_tape) and test (leb compass compass_turn)) e).1

module _ (v : List (List ℕ)) where
  -- what the answers of the field readers make of five fields
  pub unnamed : false ≡ name (field_at v 0) → NumbersOf v None
  unnamed e = rw (← e)

  module _ (m : true ≡ name (field_at v 0)) where
    pub nowhere : false ≡ name (field_at v 1) → NumbersOf v None
    nowhere e = rw (← m, ← e)

    module _ (n : true ≡ name (field_at v 1)) (a : Option ℕ) (s : Reads tape_decimals (field_at v 2) a) where
      pub unmeasured : a ≡ None → NumbersOf v None
      unmeasured e = rw (← m, ← n, not_there _ _ a s e)

      module _ (x : ℕ) (e : a ≡ Some x) (b : Option ℕ) (t : Reads compass_decimals (field_at v 3) b) where
        pub undirected : b ≡ None → NumbersOf v None
        undirected f = rw (← m, ← n, (there _ _ a x s e).0, not_there _ _ b t f)

        pub numbers_are : (y : ℕ) → b ≡ Some y → NumbersOf v (Some (record { tape = x; compass = y }))
        numbers_are y f =
            let (o, u) = there _ _ a x s e in
            let (q, w) = there _ _ b y t f in
            (rw (← m, ← n, o, q), u, w)

  pub not_five : eqb (length v) 5 ≡ false → wrong 21 ≡ read_leg v
  unfolding read_leg leg_form
  not_five e = rw e

  pub not_formed : numbered v ≡ false → wrong 21 ≡ read_leg v
  unfolding read_leg leg_form
  not_formed e = rw (e, and-false (eqb (length v) 5))

  module _ (n : LegNumbers) (s : NumbersOf v (Some n)) (five : eqb (length v) 5 ≡ true) where
    formed : leg_form v ≡ true
    unfolding leg_form
    formed = rw (five, s.0)

    ranged : fits n.tape n.compass && level (field_at v 4) ≡ leg_range v
    unfolding leg_range
    ranged = rw (s.1, s.2) (and_assoc (leb (tape_in v) most_tape) (leb (compass_in v) compass_turn) (level (field_at v 4)))

    pub not_ranged : fits n.tape n.compass ≡ false → wrong 22 ≡ read_leg v
    unfolding read_leg
    not_ranged g = rw (formed, ← ranged, g)

    pub not_level : level (field_at v 4) ≡ false → wrong 22 ≡ read_leg v
    unfolding read_leg
    not_level g = rw (formed, ← ranged, g, and-false (fits n.tape n.compass))

    pub is_leg_lem : fits n.tape n.compass ≡ true → level (field_at v 4) ≡ true → (b : ℕ) → b ≡ step_of n.compass
        → leg (field_at v 0) (field_at v 1) n.tape b ≡ read_leg v
    unfolding read_leg
    is_leg_lem g h b k = sym (rw (formed, ← ranged, g, h, k, s.1, s.2))

-- the line as the code holds it
module _ (line : List ℕ) (x : Said) where
  pub told_wrong : (e : LegRefusal) → wrong (code_of e) ≡ x → (wrong (code_of e) ≡ x) × (Err e ≡ leg_at line x)
  unfolding leg_at
  told_wrong Form e = (e, ap (leg_at line) e)
  told_wrong Range e = (e, ap (leg_at line) e)

  pub told_leg : (s : Shot) → leg (part_of line s.from) (part_of line s.to) s.distance s.bearing ≡ x → s.from ≡ word_at line 0 → s.to ≡ word_at line (word_at line 0).to
      → (leg (part_of line s.from) (part_of line s.to) s.distance s.bearing ≡ x) × (Ok s ≡ leg_at line x)
  unfolding leg_at
  told_leg s e f g = (e, sym (rw (← e, ← g, ← f)))

-- what `ok_or` makes of an option
pub missing : {A E : Type 0} (o : Option A) (e d : E) → ok_or o e ≡ Err d → (o ≡ None) × (d ≡ e)
missing None e d h = (refl, cc)
missing (Some x) e d h = cc

pub present : {A E : Type 0} (o : Option A) (e : E) (x : A) → ok_or o e ≡ Ok x → o ≡ Some x
present None e x h = cc
present (Some y) e x h = cc

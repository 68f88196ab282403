-- From the fields of a line to the line once read.
use Prim.Native.Nat.{ℕ}
use mathlib.Core.Path.{◌≡◌}
use mathlib.Core.Bool.{Bool, true, false, cond, ◌&&◌}
use mathlib.Core.List.{List}
use Rattle.std.proofs.Common.{Option, Some, None}
use Rattle.text.specs.Fields.{name, digit_string, value, Spells, SpellThree}
use Rattle.text.specs.Forms.{fields_at}
use Rattle.text.specs.declared.field.Place.{Place}
use Rattle.text.proofs.Readings.{there, not_there, all_there}
use Rattle.text.proofs.FoundFields.{part_at, field_place}
use Rattle.job_lines.specs.Forms.{seeds, sigma, shot, no_form, seeds_of, sigma_of, shot_of}

module _ (line : List ℕ) (places : List Place) where
  abbrev p : ℕ → List ℕ
  p i = part_at line places i

  abbrev three : ℕ → ℕ → ℕ → Bool
  three i j k = digit_string (p i) && digit_string (p j) && digit_string (p k)

  seeds_at : seeds_of (fields_at line places)
      ≡ cond (three 0 1 2 && three 3 4 5)
      (seeds (value 0 (p 0)) (value 0 (p 1)) (value 0 (p 2)) (value 0 (p 3)) (value 0 (p 4)) (value 0 (p 5)))
      no_form
  unfolding seeds_of
  seeds_at = rw (
    field_place line places 0,
    field_place line places 1,
    field_place line places 2,
    field_place line places 3,
    field_place line places 4,
    field_place line places 5,
  )

  sigma_at : sigma_of (fields_at line places) ≡ cond (digit_string (p 0) && digit_string (p 1)) (sigma (value 0 (p 0)) (value 0 (p 1))) no_form
  unfolding sigma_of
  sigma_at = rw (field_place line places 0, field_place line places 1)

  shot_at : shot_of (fields_at line places)
      ≡ cond (name (p 0) && name (p 1) && digit_string (p 2) && digit_string (p 3)) (shot (p 0) (p 1) (value 0 (p 2)) (value 0 (p 3))) no_form
  unfolding shot_of
  shot_at = rw (field_place line places 0, field_place line places 1, field_place line places 2, field_place line places 3)

  -- what the answers of the field readers make of a line
  pub seeds_first : three 0 1 2 ≡ false → no_form ≡ seeds_of (fields_at line places)
  seeds_first e = rw (seeds_at, e)

  pub seeds_second : three 0 1 2 ≡ true → three 3 4 5 ≡ false → no_form ≡ seeds_of (fields_at line places)
  seeds_second e f = rw (seeds_at, e, f)

  module _ (a : Option ℕ × Option ℕ × Option ℕ) (s : SpellThree (p 0) (p 1) (p 2) a) (b : Option ℕ × Option ℕ × Option ℕ) (t : SpellThree (p 3) (p 4) (p 5) b) where
    pub seeds_both : (x y : ℕ × ℕ × ℕ) → a.0 ≡ Some x.0 → a.1 ≡ Some x.1 → a.2 ≡ Some x.2 → b.0 ≡ Some y.0 → b.1 ≡ Some y.1 → b.2 ≡ Some y.2
        → seeds x.0 x.1 x.2 y.0 y.1 y.2 ≡ seeds_of (fields_at line places)
    seeds_both x y e f g h i j =
        let (m, x0, x1, x2) = all_there _ _ _ a s _ _ _ e f g in
        let (n, y0, y1, y2) = all_there _ _ _ b t _ _ _ h i j in
        rw (seeds_at, m, n, x0, x1, x2, y0, y1, y2)

  module _ (d : Option ℕ) (s : Spells (digit_string (p 0)) (p 0) d) where
    pub sigma_first : d ≡ None → no_form ≡ sigma_of (fields_at line places)
    sigma_first e = rw (sigma_at, not_there _ _ d s e)

    module _ (b : Option ℕ) (t : Spells (digit_string (p 1)) (p 1) b) where
      pub sigma_second : (x : ℕ) → d ≡ Some x → b ≡ None → no_form ≡ sigma_of (fields_at line places)
      sigma_second x e f = rw (sigma_at, (there _ _ d x s e).0, not_there _ _ b t f)

      pub sigma_both : (x y : ℕ) → d ≡ Some x → b ≡ Some y → sigma x y ≡ sigma_of (fields_at line places)
      sigma_both x y e f =
          let (m, u) = there _ _ d x s e in
          let (n, v) = there _ _ b y t f in
          rw (sigma_at, m, n, u, v)

  pub shot_unnamed : false ≡ name (p 0) → no_form ≡ shot_of (fields_at line places)
  shot_unnamed e = rw (shot_at, ← e)

  module _ (m : true ≡ name (p 0)) where
    pub shot_nowhere : false ≡ name (p 1) → no_form ≡ shot_of (fields_at line places)
    shot_nowhere e = rw (shot_at, ← m, ← e)

    module _ (n : true ≡ name (p 1)) (d : Option ℕ) (s : Spells (digit_string (p 2)) (p 2) d) where
      pub shot_unmeasured : d ≡ None → no_form ≡ shot_of (fields_at line places)
      shot_unmeasured e = rw (shot_at, ← m, ← n, not_there _ _ d s e)

      module _ (b : Option ℕ) (t : Spells (digit_string (p 3)) (p 3) b) where
        pub shot_undirected : (x : ℕ) → d ≡ Some x → b ≡ None → no_form ≡ shot_of (fields_at line places)
        shot_undirected x e f = rw (shot_at, ← m, ← n, (there _ _ d x s e).0, not_there _ _ b t f)

        pub shot_whole : (x y : ℕ) → d ≡ Some x → b ≡ Some y → shot (p 0) (p 1) x y ≡ shot_of (fields_at line places)
        shot_whole x y e f =
            let (o, u) = there _ _ d x s e in
            let (q, v) = there _ _ b y t f in
            rw (shot_at, ← m, ← n, o, q, u, v)

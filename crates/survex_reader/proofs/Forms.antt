-- What a leg is: its tests, and the bytes that pass them.
use Prim.Native.Nat.{ℕ, ◌<◌}
use native.Mathlib.Omega.{arith}
use mathlib.Core.Path.{◌≡◌, refl, sym, ap}
use mathlib.Core.Bool.{Bool, true, false, not, ◌||◌}
use mathlib.Core.List.{List, [], ◌∷◌, ◌++◌}
use mathlib.Core.Logic.{◌↔◌, ◌⊎◌, inl, inr}
use lib.Dec.{leb, eqb}
use lib.ListN.{length, get_or, length-append}
use borrow.Author.Tests.{leb-true, le-leb, lt-ltb, le-ltb, eqb-true, eq-eqb, ne_eqb}
use Rattle.text.specs.Scan.{one_of, up_to}
use Rattle.text.specs.Fields.{all, digit, name}
use Rattle.text.proofs.Tests.{test, ◌and◌, each}
use Rattle.text.specs.Forms.{field_at}
use Rattle.survex_reader.specs.Limits.{whole_digits, tape_decimals, compass_decimals, most_tape, compass_turn}
use Rattle.survex_reader.specs.Legs.{leg, wrong, whole, pointed, decimals, digits_up_to, is_decimal, step_of, level, tape_in, compass_in, leg_form, leg_range, read_leg}
use Rattle.survex_reader.specs.LegTheorems.{Digits, Number, Formed, Ranged}

digits_pass : (most : ℕ) (l : List ℕ) → (digits_up_to most l ≡ true) ↔ Digits most l
digits_pass most l = (
  λ h.
      let ((some, few), digits) = each (test (leb 1 (length l)) and test (leb (length l) most) and test (all digit l)) h in
      record { some = leb-true _ _ some; few = leb-true _ _ few; digits = digits },
  λ d. rw (le-leb 1 (length l) d.some, le-leb (length l) most d.few) d.digits,
)

-- the digits before a point are at most 4
four : (l : List ℕ) → Digits whole_digits l ↔ Digits 4 l
four l = (
  λ d. record { some = d.some; few = omega (arith, d.few); digits = d.digits },
  λ d. record { some = d.some; few = omega (arith, d.few); digits = d.digits },
)

-- ---- The point

-- a text without a point, or with one
Split : List ℕ → Type 0
Split l = (whole l ≡ l) ⊎ ((length (whole l) < length l) × (l ≡ whole l ++ (46 ∷ decimals l)))

split : (l : List ℕ) → Split l
unfolding up_to one_of Split
split [] = inl refl
split (x ∷ l) = by_byte (eqb 46 x) refl (split l)
  where
    by_byte : (t : Bool) → eqb 46 x ≡ t → Split l → Split (x ∷ l)
    by_byte true e s = rw e (inr (omega arith, ap (λ (b : ℕ). b ∷ l) (sym (eqb-true 46 x e))))
    by_byte false e (inl same) = rw e (inl (ap (λ (m : List ℕ). x ∷ m) same))
    by_byte false e (inr (one, same)) = rw e (inr (omega (arith, one), ap (λ (m : List ℕ). x ∷ m) same))

not_point : (x : ℕ) → digit x ≡ true → eqb 46 x ≡ false
unfolding digit
not_point x h = ne_eqb 46 x (λ e. omega (arith, e, leb-true 48 x (each (test (leb 48 x) and test (leb x 57)) h).0))

-- digits before the end or before a point
whole_digits_lem : (l : List ℕ) → all digit l ≡ true → whole l ≡ l
unfolding all up_to one_of
whole_digits_lem [] h = refl
whole_digits_lem (x ∷ l) h =
    let (one, rest) = each (test (digit x) and test (all digit l)) h in
    rw (not_point x one) (ap (λ (m : List ℕ). x ∷ m) (whole_digits_lem l rest))

before_point : (l m : List ℕ) → all digit l ≡ true → (whole (l ++ (46 ∷ m)) ≡ l) × (decimals (l ++ (46 ∷ m)) ≡ m)
unfolding all up_to one_of
before_point [] m h = (refl, refl)
before_point (x ∷ l) m h =
    let (one, rest) = each (test (digit x) and test (all digit l)) h in
    let (same, after) = before_point l m rest in
    rw (not_point x one) (ap (λ (n : List ℕ). x ∷ n) same, after)

number_passes : (most : ℕ) (l : List ℕ) → (is_decimal most l ≡ true) ↔ Number most l
unfolding is_decimal Split
number_passes most l = (λ h. by_split (split l) (each (test (digits_up_to whole_digits (whole l)) and test (not (pointed l) || digits_up_to most (decimals l))) h), passes)
  where
    by_split : Split l → (digits_up_to whole_digits (whole l) ≡ true) × (not (pointed l) || digits_up_to most (decimals l) ≡ true) → Number most l
    by_split (inl same) (w, d) = inl (rw same at ((four (whole l)).0 ((digits_pass whole_digits (whole l)).0 w)))
    by_split (inr (one, same)) (w, d) =
        let d' : digits_up_to most (decimals l) ≡ true = rw (lt-ltb _ _ one) at d in
        inr (whole l, decimals l, (four (whole l)).0 ((digits_pass whole_digits (whole l)).0 w), (digits_pass most (decimals l)).0 d', same)

    passes : Number most l → is_decimal most l ≡ true
    passes (inl w) =
        let same = whole_digits_lem l w.digits in
        rw (same, (digits_pass whole_digits l).1 ((four l).1 w), le-ltb (length l) (length l) (omega arith))
    passes (inr (b, a, w, d, e)) =
        let (same, after) = before_point b a w.digits in
        rw (e, after, same, (digits_pass whole_digits b).1 ((four b).1 w), (digits_pass most a).1 d, lt-ltb (length b) (length (b ++ (46 ∷ a))) (omega (arith, length-append b (46 ∷ a))))

level_passes : (l : List ℕ) → (level l ≡ true) ↔ (l ≡ 48 ∷ [])
unfolding level
level_passes l = (λ h. by_bytes l (each (test (eqb (length l) 1) and test (eqb (get_or l 0 0) 48)) h), λ e. rw e)
  where
    by_bytes : (l : List ℕ) → (eqb (length l) 1 ≡ true) × (eqb (get_or l 0 0) 48 ≡ true) → l ≡ 48 ∷ []
    by_bytes [] (one, zero) = absurd (omega (arith, eqb-true (length {A = ℕ} []) 1 one))
    by_bytes (x ∷ []) (one, zero) = ap (λ (b : ℕ). b ∷ []) (eqb-true x 48 zero)
    by_bytes (x ∷ y ∷ l) (one, zero) = absurd (omega (arith, eqb-true (length (x ∷ y ∷ l)) 1 one))

-- ---- The fields

module _ (v : List (List ℕ)) where
  pub form_passes : (leg_form v ≡ true) ↔ Formed v
  unfolding leg_form
  form_passes = (
    λ h.
        let (five, (from, (to, (tape, compass)))) = each (test (eqb (length v) 5) and (test (name (field_at v 0)) and (test (name (field_at v 1))
        and (test (is_decimal tape_decimals (field_at v 2)) and test (is_decimal compass_decimals (field_at v 3)))))) h in
        record {
          five = eqb-true _ _ five;
          from = from;
          to = to;
          tape = (number_passes _ _).0 tape;
          compass = (number_passes _ _).0 compass;
        },
    λ f.
        rw (
          eq-eqb (length v) 5 f.five,
          f.from,
          f.to,
          (number_passes 3 (field_at v 2)).1 f.tape,
          (number_passes 2 (field_at v 3)).1 f.compass,
        ),
  )

  pub range_passes : (leg_range v ≡ true) ↔ Ranged v
  unfolding leg_range
  range_passes = (
    λ h.
        let (tape, (compass, clino)) = each (test (leb (tape_in v) most_tape) and (test (leb (compass_in v) compass_turn) and test (level (field_at v 4)))) h in
        record { tape = leb-true _ _ tape; compass = leb-true _ _ compass; clino = (level_passes _).0 clino },
    λ r.
        rw (
          le-leb (tape_in v) most_tape r.tape,
          le-leb (compass_in v) compass_turn r.compass,
          (level_passes (field_at v 4)).1 r.clino,
        ),
  )

  -- what is said where the two tests have these results
  pub not_formed : (Formed v → ⊥) → read_leg v ≡ wrong 21
  unfolding read_leg
  not_formed no_form_lem = by_test (leg_form v) refl
    where
      by_test : (t : Bool) → leg_form v ≡ t → read_leg v ≡ wrong 21
      by_test true e = absurd (no_form_lem (form_passes.0 e))
      by_test false e = rw e

  pub not_ranged : Formed v → (Ranged v → ⊥) → read_leg v ≡ wrong 22
  unfolding read_leg
  not_ranged f no-range = by_test (leg_range v) refl
    where
      by_test : (t : Bool) → leg_range v ≡ t → read_leg v ≡ wrong 22
      by_test true e = absurd (no-range (range_passes.0 e))
      by_test false e = rw (form_passes.1 f, e)

  pub both_pass : Formed v → Ranged v → read_leg v ≡ leg (field_at v 0) (field_at v 1) (tape_in v) (step_of (compass_in v))
  unfolding read_leg
  both_pass f r = rw (form_passes.1 f, range_passes.1 r)

-- The code of a line, by its causes.
use Prim.Native.Nat.{ℕ, suc, ◌-◌, ◌≤◌, ◌<◌}
use native.Mathlib.Omega.{arith}
use mathlib.Core.Path.{◌≡◌, refl, sym, ◌∙◌}
use mathlib.Core.Bool.{Bool, true, false, cond, ◌||◌, true≢false}
use mathlib.Core.List.{List}
use mathlib.Core.Logic.{◌↔◌}
use lib.Dec.{ltb}
use borrow.Author.Tests.{leb-true, ltb-false}
use Rattle.sums.specs.Sums.{most_distance}
use Rattle.listing_rows.specs.Entries.{leg, last}
use Rattle.job_lines.specs.Links.{follows, station_code}
use Rattle.misclosure.specs.Misclosure.{last_line, most_step, beyond, refusal}
use Rattle.misclosure.specs.Theorems.{WithinLimits, ShotCodes}
use Rattle.misclosure.proofs.Lines.{last_0, last_6, last_count}

module _ (k : ℕ) (station from to : List ℕ) (low high step : ℕ) where
  -- what each cause's test says
  abbrev Says : Bool → Bool → Type 0
  Says b o = (b ≡ false → WithinLimits k station from to low high step) × (b ≡ true → WithinLimits k station from to low high step → ⊥)
      × (o ≡ false → low ≤ high) × (o ≡ true → high < low)

  limits_say : (a x y z : Bool) → ltb last_line k ≡ a → ltb most_distance low ≡ x → ltb most_distance high ≡ y → ltb most_step step ≡ z
      → ((a || (x || (y || z))) ≡ false → WithinLimits k station from to low high step)
      × ((a || (x || (y || z))) ≡ true → WithinLimits k station from to low high step → ⊥)
  limits_say true x y z p q r t = (λ e. absurd (true≢false e), λ e h. omega (arith, leb-true (suc last_line) k p, h.0))
  limits_say false true y z p q r t = (λ e. absurd (true≢false e), λ e h. omega (arith, leb-true (suc most_distance) low q, h.1))
  limits_say false false true z p q r t = (λ e. absurd (true≢false e), λ e h. omega (arith, leb-true (suc most_distance) high r, h.2))
  limits_say false false false true p q r t = (λ e. absurd (true≢false e), λ e h. omega (arith, leb-true (suc most_step) step t, h.3))
  limits_say false false false false p q r t = (
    λ e. (ltb-false last_line k p, ltb-false most_distance low q, ltb-false most_distance high r, ltb-false most_step step t),
    λ e. absurd (true≢false (sym e)),
  )

  codes_by : (b o f : Bool) → Says b o → follows station from ≡ f → ShotCodes k station from to low high step (cond b 24 (cond o 25 (cond f 0 23)))
  codes_by true o f (within, beyond-it, order, wrong) p = record {
    just_24 = (λ h. beyond-it refl, λ h. refl);
    just_25 = (λ h. absurd (omega (arith, h)), λ h. absurd (beyond-it refl h.0));
    just_23 = (λ h. absurd (omega (arith, h)), λ h. absurd (beyond-it refl h.0));
    just_0 = (λ h. absurd (omega (arith, h)), λ h. absurd (beyond-it refl h.0));
  }
  codes_by false true f (within, beyond-it, order, wrong) p = record {
    just_24 = (λ h. absurd (omega (arith, h)), λ h. absurd (h (within refl)));
    just_25 = (λ h. (within refl, wrong refl), λ h. refl);
    just_23 = (λ h. absurd (omega (arith, h)), λ h. absurd (omega (arith, wrong refl, h.1)));
    just_0 = (λ h. absurd (omega (arith, h)), λ h. absurd (omega (arith, wrong refl, h.1)));
  }
  codes_by false false true (within, beyond-it, order, wrong) p = record {
    just_24 = (λ h. absurd (omega (arith, h)), λ h. absurd (h (within refl)));
    just_25 = (λ h. absurd (omega (arith, h)), λ h. absurd (omega (arith, order refl, h.1)));
    just_23 = (λ h. absurd (omega (arith, h)), λ h. absurd (true≢false (sym p ∙ h.2)));
    just_0 = (λ h. (within refl, order refl, p), λ h. refl);
  }
  codes_by false false false (within, beyond-it, order, wrong) p = record {
    just_24 = (λ h. absurd (omega (arith, h)), λ h. absurd (h (within refl)));
    just_25 = (λ h. absurd (omega (arith, h)), λ h. absurd (omega (arith, order refl, h.1)));
    just_23 = (λ h. (within refl, order refl, p), λ h. refl);
    just_0 = (λ h. absurd (omega (arith, h)), λ h. absurd (true≢false (sym h.2 ∙ p)));
  }

  pub shot_codes : ShotCodes k station from to low high step (refusal k station (leg from to low high step))
  unfolding refusal beyond station_code
  shot_codes =
      let limits = limits_say (ltb last_line k) (ltb most_distance low) (ltb most_distance high) (ltb most_step step) refl refl refl refl in
      codes_by (beyond k low high step) (ltb high low) (follows station from)
      (limits.0, limits.1, λ t. ltb-false high low t, λ t. leb-true (suc high) low t) refl

pub end_code : (k : ℕ) (station : List ℕ) (count : ℕ)
    → ((refusal k station (last count) ≡ 6) ↔ (count ≡ k - 2 → ⊥)) × ((refusal k station (last count) ≡ 0) ↔ (count ≡ k - 2))
end_code k station count = (
  (λ h e. let z : ◌≡◌ {A = ℕ} 6 0 = sym h ∙ last_0 k station count e in omega (arith, z), λ n. last_6 k station count n),
  (λ h. last_count k station count h, λ e. last_0 k station count e),
)

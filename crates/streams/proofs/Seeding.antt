-- The theorems of specs/Theorems.antt.
use mathlib.Core.Path.{◌≡◌, refl, sym, ◌∙◌}
use mathlib.Core.Bool.{Bool, true, false, cond, true≢false}
use mathlib.Core.Logic.{◌↔◌}
use Prim.Native.Nat.{ℕ}
use native.Mathlib.Omega.{arith}
use lib.Dec.{eqb}
use Rattle.streams.specs.declared.Stream.{Stream}
use Rattle.streams.specs.declared.RecordAnswer.{RecordAnswer}
use Rattle.streams.specs.Streams.{step, advance, fit, record_code, seed_of}
use Rattle.streams.specs.Theorems.{Drawn, seeded_record, AtLeast, Seeds, Theorems}
use Rattle.streams.proofs.Theorems.{fit_minima}

-- whether a stream is fit, by its registers
fit_at_least : (s0 s1 s2 : ℕ) (t : Bool) → fit (record { s0 = s0; s1 = s1; s2 = s2 }) ≡ t → (t ≡ true) ↔ AtLeast s0 s1 s2
fit_at_least s0 s1 s2 t e =
    let u : Stream = record { s0 = s0; s1 = s1; s2 = s2 } in (
      λ h. let m = (fit_minima u).0 (e ∙ h) in (m.s0_least, m.s1_least, m.s2_least),
      λ m. sym e ∙ (fit_minima u).1 (record { s0_least = m.0; s1_least = m.1; s2_least = m.2 }),
    )

module _ (a0 a1 a2 b0 b1 b2 : ℕ) where
  -- what is answered where the tests of the two streams have these results
  answer : Bool → Bool → RecordAnswer
  answer a b =
      let code : ℕ = cond a (cond b 0 12) 11 in
      record { code = code; next = cond (eqb code 0) (seeded_record a0 a1 a2 b0 b1 b2) (seeded_record 0 0 0 0 0 0) }

  by_tests : (a b : Bool) → (a ≡ true) ↔ AtLeast a0 a1 a2 → (b ≡ true) ↔ AtLeast b0 b1 b2 → Seeds a0 a1 a2 b0 b1 b2 (answer a b)
  unfolding answer
  by_tests false b p q =
      record {
        just_11 = (λ e m. true≢false (sym (p.1 m)), λ h. refl);
        just_12 = (λ e. absurd (omega (arith, e)), λ h. absurd (true≢false (sym (p.1 h.0))));
        just_0 = (λ e. absurd (omega (arith, e)), λ h. absurd (true≢false (sym (p.1 h.0))));
        accepted = λ e. absurd (omega (arith, e));
        refused = λ h. refl;
      }
  by_tests true false p q =
      record {
        just_11 = (λ e. absurd (omega (arith, e)), λ h. absurd (h (p.0 refl)));
        just_12 = (λ e. (p.0 refl, λ m. true≢false (sym (q.1 m))), λ h. refl);
        just_0 = (λ e. absurd (omega (arith, e)), λ h. absurd (true≢false (sym (q.1 h.1))));
        accepted = λ e. absurd (omega (arith, e));
        refused = λ h. refl;
      }
  by_tests true true p q =
      record {
        just_11 = (λ e. absurd (omega (arith, e)), λ h. absurd (h (p.0 refl)));
        just_12 = (λ e. absurd (omega (arith, e)), λ h. absurd (h.1 (q.0 refl)));
        just_0 = (λ e. (p.0 refl, q.0 refl), λ h. refl);
        accepted = λ e. refl;
        refused = λ h. absurd (h refl);
      }

  seeding : Seeds a0 a1 a2 b0 b1 b2 (seed_of a0 a1 a2 b0 b1 b2)
  unfolding seed_of record_code answer
  seeding =
      by_tests (fit (record { s0 = a0; s1 = a1; s2 = a2 })) (fit (record { s0 = b0; s1 = b1; s2 = b2 })) (fit_at_least a0 a1 a2 _ refl)
      (fit_at_least b0 b1 b2 _ refl)

-- Each register's step is the document's line, by computation.
draw : (u : Stream) → Drawn u (advance u)
unfolding advance step
draw u = record { s0_becomes = refl; s1_becomes = refl; s2_becomes = refl }

pub theorems : Theorems
theorems = record { draw = draw; seeding = seeding }

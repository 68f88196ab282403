-- The theorems of specs/Theorems.antt.
use Prim.Native.Nat.{ℕ, ◌≤◌, ◌<◌}
use native.Mathlib.Omega.{arith}
use mathlib.Core.Path.{◌≡◌, refl, sym}
use mathlib.Core.Bool.{Bool, true, false, cond, not, ◌||◌, true≢false}
use mathlib.Core.List.{List}
use mathlib.Core.Logic.{◌↔◌}
use lib.Dec.{eqb, ltb}
use borrow.Author.Tests.{eqb-true, eq-eqb, lt-ltb, le-ltb, ltb-true, ltb-false, not-false}
use Rattle.streams.specs.Streams.{seed_of}
use Rattle.streams.specs.Theorems.{Seeds}
use Rattle.streams.proofs.Seeding.{theorems as seeding}
use Rattle.job_lines.specs.Forms.{Form, seeds, sigma, shot, no_form}
use Rattle.job_reader.specs.Limits.{most_seed}
use Rattle.job_reader.specs.Refusals.{formless, misplaced, too_many, beyond, seed_code, refusal}
use Rattle.job_reader.specs.Theorems.{SeedsWithin, SeedsCodes, SigmaCodes, ShotCodes, Theorems}
use Rattle.job_reader.proofs.Refused.{or_false, none_6, seed_apart, seeds_within}

-- ---- One test of a chain: its own code, a later one, and one that none gives

here : (t : Bool) (n r : ℕ) → (r ≡ n → ⊥) → (cond t n r ≡ n) ↔ (t ≡ true)
here true n r apart = (λ h. refl, λ h. refl)
here false n r apart = (λ h. absurd (apart h), λ h. absurd (true≢false (sym h)))

later : (P : Type 0) (t : Bool) (n m r : ℕ) → (n ≡ m → ⊥) → (r ≡ m) ↔ P → (cond t n r ≡ m) ↔ ((t ≡ false) × P)
later P true n m r apart next = (λ h. absurd (apart h), λ h. absurd (true≢false h.0))
later P false n m r apart next = (λ h. (refl, next.0 h), λ h. next.1 h.1)

never : (t : Bool) (n m r : ℕ) → (n ≡ m → ⊥) → (r ≡ m → ⊥) → cond t n r ≡ m → ⊥
never true n m r apart rest h = apart h
never false n m r apart rest h = rest h

module _ (k : ℕ) (x : Form) where
  -- what is left of the chain from a test on
  abbrev range : ℕ
  range = cond (beyond x) 7 (seed_code x)

  abbrev many : ℕ
  many = cond (too_many k x) 9 range

  range_not : (m : ℕ) → 0 < m → m < 11 → (7 ≡ m → ⊥) → range ≡ m → ⊥
  range_not m low high apart = never (beyond x) 7 m (seed_code x) apart (seed_apart x m low high)

  many_not : (m : ℕ) → 0 < m → m < 9 → (7 ≡ m → ⊥) → many ≡ m → ⊥
  many_not m low high apart = never (too_many k x) 9 m range (λ e. omega (arith, e)) (range_not m low (omega arith) apart)

  formless_6 : (refusal k x ≡ 6) ↔ (formless x ≡ true)
  unfolding refusal
  formless_6 =
      here _ _ _ (never (misplaced k x) 8 6 many (λ e. omega (arith, e)) (many_not 6 (omega arith) (omega arith) (λ e. omega (arith, e))))

  misplaced_8 : (refusal k x ≡ 8) ↔ ((formless x ≡ false) × (misplaced k x ≡ true))
  unfolding refusal
  misplaced_8 =
      later _ _ _ _ _ (λ e. omega (arith, e)) (here _ _ _ (many_not 8 (omega arith) (omega arith) (λ e. omega (arith, e))))

  many_9 : (refusal k x ≡ 9) ↔ ((formless x ≡ false) × ((misplaced k x ≡ false) × (too_many k x ≡ true)))
  unfolding refusal
  many_9 =
      later _ _ _ _ _ (λ e. omega (arith, e)) (later _ _ _ _ _ (λ e. omega (arith, e)) (here _ _ _
      (range_not 9 (omega arith) (omega arith) (λ e. omega (arith, e)))))

  beyond_7 : (refusal k x ≡ 7) ↔ ((formless x ≡ false) × ((misplaced k x ≡ false) × ((too_many k x ≡ false) × (beyond x ≡ true))))
  unfolding refusal
  beyond_7 =
      later _ _ _ _ _ (λ e. omega (arith, e)) (later _ _ _ _ _ (λ e. omega (arith, e)) (later _ _ _ _ _ (λ e. omega (arith, e))
      (here _ _ _ (seed_apart x 7 (omega arith) (omega arith)))))

  -- 0, 11 and 12
  seeding_code : (m : ℕ) → ((n : ℕ) → 5 < n → n < 10 → n ≡ m → ⊥)
      → (refusal k x ≡ m) ↔ ((formless x ≡ false) × ((misplaced k x ≡ false) × ((too_many k x ≡ false) × ((beyond x ≡ false) × (seed_code x ≡ m)))))
  unfolding refusal
  seeding_code m apart =
      later _ _ _ _ _ (apart 6 (omega arith) (omega arith)) (later _ _ _ _ _ (apart 8 (omega arith) (omega arith))
      (later _ _ _ _ _ (apart 9 (omega arith) (omega arith)) (later _ _ _ _ _ (apart 7 (omega arith) (omega arith)) (λ h. h, λ h. h))))

-- ---- By what the line says

-- a test that fails just where W holds
fails : (t : Bool) (W : Type 0) → (t ≡ false) ↔ W → (t ≡ true) ↔ (W → ⊥)
fails true W w = (λ e h. true≢false (w.1 h), λ n. refl)
fails false W w = (λ e. absurd (true≢false (sym e)), λ n. absurd (n (w.0 refl)))

-- a number is this one
in_place : (k n : ℕ) → (not (eqb k n) ≡ false) ↔ (k ≡ n)
in_place k n = (λ e. eqb-true k n (not-false (eqb k n) e), λ h. rw (eq-eqb k n h))

-- two numbers are within their limits
both_within : (m n x y : ℕ) → (ltb m x || ltb n y ≡ false) ↔ ((x ≤ m) × (y ≤ n))
both_within m n x y = (
  λ e. let (p, q) = or_false (ltb m x) (ltb n y) e in (ltb-false m x p, ltb-false n y q),
  λ h. rw (le-ltb m x h.0, le-ltb n y h.1),
)

just_6 : (k : ℕ) (x : Form) → (refusal k x ≡ 6) ↔ (x ≡ no_form)
unfolding formless
just_6 k x = (λ e. none x ((formless_6 k x).0 e), λ e. rw e (none_6 k))
  where
    none : (x : Form) → formless x ≡ true → x ≡ no_form
    none (seeds a0 a1 a2 b0 b1 b2) e = absurd (true≢false (sym e))
    none (sigma d b) e = absurd (true≢false (sym e))
    none (shot from to d b) e = absurd (true≢false (sym e))
    none no_form e = refl

module _ (k a0 a1 a2 b0 b1 b2 : ℕ) where
  abbrev x : Form
  x = seeds a0 a1 a2 b0 b1 b2

  within : (beyond x ≡ false) ↔ SeedsWithin k a0 a1 a2 b0 b1 b2
  unfolding beyond
  within = (
    λ e. let ((p0, p1, p2), (q0, q1, q2)) = seeds_within a0 a1 a2 b0 b1 b2 e in (p0, p1, p2, q0, q1, q2),
    λ h.
        let (p0, p1, p2, q0, q1, q2) = h in
        rw (
          le-ltb most_seed a0 p0,
          le-ltb most_seed a1 p1,
          le-ltb most_seed a2 p2,
          le-ltb most_seed b0 q0,
          le-ltb most_seed b1 q1,
          le-ltb most_seed b2 q2,
        ),
  )

  -- the codes that seeding answers
  seeded : (m : ℕ) → ((n : ℕ) → 5 < n → n < 10 → n ≡ m → ⊥) → {P : Type 0} → ((seed_of a0 a1 a2 b0 b1 b2).code ≡ m) ↔ P
      → (refusal k x ≡ m) ↔ ((k ≡ 1) × SeedsWithin k a0 a1 a2 b0 b1 b2 × P)
  unfolding formless misplaced too_many seed_code
  seeded m apart told = (
    λ e. let (f, (p, (q, (r, s)))) = (seeding_code k x m apart).0 e in ((in_place k 1).0 p, within.0 r, told.0 s),
    λ h. (seeding_code k x m apart).1 (refl, ((in_place k 1).1 h.0, (refl, (within.1 h.1, told.1 h.2)))),
  )

  seeds_codes : SeedsCodes k a0 a1 a2 b0 b1 b2 (refusal k x)
  unfolding formless misplaced too_many
  seeds_codes =
      let placed = fails (not (eqb k 1)) (k ≡ 1) (in_place k 1) in
      let ranged = fails (beyond x) (SeedsWithin k a0 a1 a2 b0 b1 b2) within in
      let told : Seeds a0 a1 a2 b0 b1 b2 (seed_of a0 a1 a2 b0 b1 b2) = seeding.seeding a0 a1 a2 b0 b1 b2 in
      record {
        just_8 = (λ e. placed.0 ((misplaced_8 k x).0 e).1, λ h. (misplaced_8 k x).1 (refl, placed.1 h));
        just_7 = (
          λ e. let (f, (p, (q, r))) = (beyond_7 k x).0 e in ((in_place k 1).0 p, ranged.0 r),
          λ h. (beyond_7 k x).1 (refl, ((in_place k 1).1 h.0, (refl, ranged.1 h.1))),
        );
        just_11 = seeded 11 (λ n low high e. omega arith) told.just_11;
        just_12 = seeded 12 (λ n low high e. omega arith) told.just_12;
        just_0 = seeded 0 (λ n low high e. omega arith) told.just_0;
      }

sigma_codes : (k d b : ℕ) → SigmaCodes k d b (refusal k (sigma d b))
unfolding formless misplaced too_many beyond seed_code
sigma_codes k d b =
    let x : Form = sigma d b in
    let placed = fails (not (eqb k 2)) (k ≡ 2) (in_place k 2) in
    let small = both_within 1000 1000 d b in
    let ranged = fails (ltb 1000 d || ltb 1000 b) ((d ≤ 1000) × (b ≤ 1000)) small in
    record {
      just_8 = (λ e. placed.0 ((misplaced_8 k x).0 e).1, λ h. (misplaced_8 k x).1 (refl, placed.1 h));
      just_7 = (
        λ e. let (f, (p, (q, r))) = (beyond_7 k x).0 e in ((in_place k 2).0 p, ranged.0 r),
        λ h. (beyond_7 k x).1 (refl, ((in_place k 2).1 h.0, (refl, ranged.1 h.1))),
      );
      just_0 = (
        λ e. let (f, (p, (q, (r, s)))) = (seeding_code k x 0 (λ n low high e. omega arith)).0 e in ((in_place k 2).0 p, (small.0 r).0, (small.0 r).1),
        λ h. (seeding_code k x 0 (λ n low high e. omega arith)).1 (refl, ((in_place k 2).1 h.0, (refl, (small.1 (h.1, h.2), refl)))),
      );
    }

shot_codes : (k : ℕ) (from to : List ℕ) (d b : ℕ) → ShotCodes k d b (refusal k (shot from to d b))
unfolding formless misplaced too_many beyond seed_code
shot_codes k from to d b =
    let x : Form = shot from to d b in
    let small = both_within 1000000 65535 d b in
    let ranged = fails (ltb 1000000 d || ltb 65535 b) ((d ≤ 1000000) × (b ≤ 65535)) small in
    record {
      just_8 = (λ e. ltb-true k 3 ((misplaced_8 k x).0 e).1, λ h. (misplaced_8 k x).1 (refl, lt-ltb k 3 h));
      just_9 = (
        λ e. ltb-true 502 k ((many_9 k x).0 e).1.1,
        λ h. (many_9 k x).1 (refl, (le-ltb k 3 (omega (arith, h)), lt-ltb 502 k h)),
      );
      just_7 = (
        λ e. let (f, (p, (q, r))) = (beyond_7 k x).0 e in (ltb-false k 3 p, ltb-false 502 k q, ranged.0 r),
        λ h. (beyond_7 k x).1 (refl, (le-ltb k 3 h.0, (le-ltb 502 k h.1, ranged.1 h.2))),
      );
      just_0 = (
        λ e.
            let (f, (p, (q, (r, s)))) = (seeding_code k x 0 (λ n low high e. omega arith)).0 e in
            (ltb-false k 3 p, ltb-false 502 k q, (small.0 r).0, (small.0 r).1),
        λ h. (seeding_code k x 0 (λ n low high e. omega arith)).1 (refl, (le-ltb k 3 h.0, (le-ltb 502 k h.1, (small.1 (h.2, h.3), refl)))),
      );
    }

pub theorems : Theorems
theorems = record { just_6 = just_6; seeds_codes = seeds_codes; sigma_codes = sigma_codes; shot_codes = shot_codes }

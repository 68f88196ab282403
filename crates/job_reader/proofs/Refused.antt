-- The refusal code of a line, by what is known of it.
use Prim.Native.Nat.{ℕ, ◌≤◌, ◌<◌}
use native.Mathlib.Omega.{arith}
use mathlib.Core.Path.{◌≡◌, refl, sym, ◌∙◌}
use mathlib.Core.Bool.{Bool, true, false, cond, ◌||◌, true≢false}
use mathlib.Core.List.{List}
use lib.Dec.{ltb}
use borrow.Author.Tests.{lt-ltb, le-ltb, eq-eqb, ne_eqb, ltb-false}
use Rattle.streams.specs.Streams.{record_code, fresh, seed_of}
use Rattle.streams.specs.Refusals.{number}
use Rattle.streams.specs.declared.Stream.{Stream}
use Rattle.streams.specs.declared.Refusal.{Refusal as StreamRefusal}
use Rattle.streams.specs.declared.Refusal.TheVariants.{FirstStream as FirstUnfit}
use Rattle.streams.proofs.Refused.{some_number, one_number}
use Rattle.streams.proofs.Theorems.{record_cases}
use Rattle.job_reader.specs.Limits.{last_line, most_seed, most_sigma, most_distance, most_bearing}
use Rattle.job_lines.specs.Forms.{Form, seeds, sigma, shot, no_form}
use Rattle.job_reader.specs.Refusals.{formless, misplaced, too_many, beyond, seed_code, refusal, number_of, code_of}
use Rattle.job_reader.specs.declared.refusals.Cause.{Cause}
use Rattle.job_reader.specs.declared.refusals.Cause.TheVariants.{NoForm as Formless, OutOfRange, WrongPlace, TooManyShots, FirstStream, SecondStream, NotFollowing}
use Rattle.job_reader.specs.declared.refusals.Refusal.{Refusal}
use Rattle.job_reader.specs.declared.refusals.Refusal.TheVariants.{JobTooLong, Line}
use Rattle.job_reader.specs.Private.{Three}

-- no cause has the number 0
pub number_positive : (cause : Cause) → number_of cause ≡ 0 → ⊥
number_positive Formless e = omega (arith, e)
number_positive OutOfRange e = omega (arith, e)
number_positive WrongPlace e = omega (arith, e)
number_positive TooManyShots e = omega (arith, e)
number_positive FirstStream e = omega (arith, e)
number_positive SecondStream e = omega (arith, e)
number_positive NotFollowing e = omega (arith, e)

pub code_positive : (refused : Refusal) → code_of refused ≡ 0 → ⊥
code_positive JobTooLong e = omega (arith, e)
code_positive (Line bad) e = number_positive bad.cause e

pub none_6 : (k : ℕ) → refusal k no_form ≡ 6
unfolding refusal formless
none_6 k = refl

pub none_is : (k : ℕ) (x : Form) → x ≡ no_form → refusal k x ≡ 6
none_is k x e = rw e (none_6 k)

pub or_false : (p q : Bool) → p || q ≡ false → (p ≡ false) × (q ≡ false)
or_false true q e = absurd (true≢false e)
or_false false q e = (refl, e)

-- three numbers that are not beyond their range
three_within : (a b c : ℕ) → ltb most_seed a || ltb most_seed b || ltb most_seed c ≡ false → Three a b c
three_within a b c h =
    let t = or_false (ltb most_seed a || ltb most_seed b) (ltb most_seed c) h in
    let u = or_false (ltb most_seed a) (ltb most_seed b) t.0 in
    (ltb-false _ _ u.0, ltb-false _ _ u.1, ltb-false _ _ t.1)

module _ (a0 a1 a2 b0 b1 b2 : ℕ) where
  abbrev x : Form
  x = seeds a0 a1 a2 b0 b1 b2

  abbrev most : ℕ → Bool
  most n = ltb most_seed n

  pub seeds_within : beyond x ≡ false → Three a0 a1 a2 × Three b0 b1 b2
  unfolding beyond
  seeds_within h =
      let t = or_false (most a0 || most a1 || most a2) (most b0 || most b1 || most b2) h in
      (three_within a0 a1 a2 t.0, three_within b0 b1 b2 t.1)

  pub seeds_8 : (k : ℕ) → (k ≡ 1 → ⊥) → refusal k x ≡ 8
  unfolding refusal formless misplaced
  seeds_8 k h = rw (ne_eqb k 1 h)

  -- on line 1: one is beyond its range, or seeding decides
  pub seeds_7 : (Three a0 a1 a2 × Three b0 b1 b2 → ⊥) → refusal 1 x ≡ 7
  unfolding refusal formless misplaced too_many
  seeds_7 h = go (beyond x) refl
    where
      go : (t : Bool) → beyond x ≡ t → ◌≡◌ {A = ℕ} (cond t 7 (seed_code x)) 7
      go true e = refl
      go false e = absurd (h (seeds_within e))

  pub seeds_seeded : Three a0 a1 a2 → Three b0 b1 b2 → refusal 1 x ≡ (seed_of a0 a1 a2 b0 b1 b2).code
  unfolding refusal formless misplaced too_many beyond seed_code
  seeds_seeded a b =
      rw (le-ltb most_seed a0 a.0, le-ltb most_seed a1 a.1, le-ltb most_seed a2 a.2, le-ltb most_seed b0 b.0, le-ltb most_seed b1 b.1, le-ltb most_seed b2 b.2)

  -- the record of both streams, once they are within their range
  module _ (a b : Stream) (p : (a ≡ record { s0 = a0; s1 = a1; s2 = a2 }) × Three a0 a1 a2) (q : (b ≡ record { s0 = b0; s1 = b1; s2 = b2 }) × Three b0 b1 b2) where
    coded : refusal 1 x ≡ record_code (fresh a b)
    unfolding seed_of
    coded = seeds_seeded p.1 q.1 ∙ rw (p.0, q.0)

    pub seeds_0 : 0 ≡ record_code (fresh a b) → (refusal 1 x ≡ 0) × (fresh a b ≡ (seed_of a0 a1 a2 b0 b1 b2).next)
    unfolding seed_of
    seeds_0 e = let f = rw (p.0, q.0) at e in (coded ∙ sym e, rw (p.0, q.0, ← f))

    pub seeds_11 : 11 ≡ record_code (fresh a b) → refusal 1 x ≡ 11
    seeds_11 e = coded ∙ sym e

    -- the streams are refused with 11 or 12
    pub seeds_12 : (why : StreamRefusal) → number why ≡ record_code (fresh a b) → (why ≡ FirstUnfit → ⊥) → refusal 1 x ≡ 12
    seeds_12 why e other =
        coded ∙ record_cases (λ (n : ℕ). (n ≡ number why) → n ≡ 12) _ (λ f. absurd (some_number why (sym f))) (λ f. absurd (other (one_number why FirstUnfit (sym f)))) (λ f. refl) (sym e)

module _ (k d b : ℕ) where
  pub sigma_8 : (k ≡ 2 → ⊥) → refusal k (sigma d b) ≡ 8
  unfolding refusal formless misplaced
  sigma_8 h = rw (ne_eqb k 2 h)

  pub sigma_7 : k ≡ 2 → ltb most_sigma d || ltb most_sigma b ≡ true → refusal k (sigma d b) ≡ 7
  unfolding refusal formless misplaced too_many beyond
  sigma_7 h e = rw (eq-eqb k 2 h, e)

  pub sigma_0 : k ≡ 2 → d ≤ most_sigma → b ≤ most_sigma → refusal k (sigma d b) ≡ 0
  unfolding refusal formless misplaced too_many beyond seed_code
  sigma_0 h e f = rw (eq-eqb k 2 h, le-ltb most_sigma d e, le-ltb most_sigma b f)

  module _ (from to : List ℕ) where
    pub shot_8 : k < 3 → refusal k (shot from to d b) ≡ 8
    unfolding refusal formless misplaced
    shot_8 h = rw (lt-ltb k 3 h)

    pub shot_9 : 3 ≤ k → last_line < k → refusal k (shot from to d b) ≡ 9
    unfolding refusal formless misplaced too_many
    shot_9 h e = rw (le-ltb k 3 h, lt-ltb last_line k e)

    pub shot_7 : 3 ≤ k → k ≤ last_line → ltb most_distance d || ltb most_bearing b ≡ true → refusal k (shot from to d b) ≡ 7
    unfolding refusal formless misplaced too_many beyond
    shot_7 h e f = rw (le-ltb k 3 h, le-ltb last_line k e, f)

    pub shot_0 : 3 ≤ k → k ≤ last_line → d ≤ most_distance → b ≤ most_bearing → refusal k (shot from to d b) ≡ 0
    unfolding refusal formless misplaced too_many beyond seed_code
    shot_0 h e f g = rw (le-ltb k 3 h, le-ltb last_line k e, le-ltb most_distance d f, le-ltb most_bearing b g)

-- seeding answers with 0, 11 or 12
pub seed_apart : (x : Form) (m : ℕ) → 0 < m → m < 11 → seed_code x ≡ m → ⊥
unfolding seed_code seed_of
seed_apart (seeds a0 a1 a2 b0 b1 b2) m low high e =
    record_cases (λ (n : ℕ). n ≡ m → ⊥) _ (λ e. omega (arith, e)) (λ e. omega (arith, e)) (λ e. omega (arith, e)) e
seed_apart (sigma d b) m low high e = omega (arith, e)
seed_apart (shot from to d b) m low high e = omega (arith, e)
seed_apart no_form m low high e = omega (arith, e)

-- What is known of a line that is accepted.
use Prim.Native.Nat.{ℕ, ◌≤◌}
use native.Mathlib.Omega.{arith}
use mathlib.Core.Path.{◌≡◌, refl}
use mathlib.Core.Bool.{Bool, true, false, cond, true≢false}
use mathlib.Core.List.{List}
use lib.Dec.{ltb, eqb}
use borrow.Author.Tests.{ltb-false, eqb-true, not-false}
use Rattle.job_lines.specs.Forms.{Form, seeds, sigma, shot, no_form}
use Rattle.job_reader.specs.Limits.{last_line, most_sigma, most_distance, most_bearing}
use Rattle.job_reader.specs.Refusals.{formless, misplaced, too_many, beyond, seed_code, refusal}
use Rattle.job_reader.proofs.Refused.{or_false}

-- an accepted line has none of the causes
pub record Accepted (k : ℕ) (x : Form) : Type 0 where
  pub formed : formless x ≡ false
  pub placed : misplaced k x ≡ false
  pub few : too_many k x ≡ false
  pub ranged : beyond x ≡ false
  pub fit : seed_code x ≡ 0

pub accepted_line : (k : ℕ) (x : Form) → refusal k x ≡ 0 → Accepted k x
unfolding refusal
accepted_line k x h = go (formless x) refl (misplaced k x) refl (too_many k x) refl (beyond x) refl h
  where
    go : (a : Bool) → formless x ≡ a → (b : Bool) → misplaced k x ≡ b → (c : Bool) → too_many k x ≡ c → (d : Bool) → beyond x
        ≡ d → ◌≡◌ {A = ℕ} (cond a 6 (cond b 8 (cond c 9 (cond d 7 (seed_code x))))) 0 → Accepted k x
    go true p b q c r d s h = absurd (omega (arith, h))
    go false p true q c r d s h = absurd (omega (arith, h))
    go false p false q true r d s h = absurd (omega (arith, h))
    go false p false q false r true s h = absurd (omega (arith, h))
    go false p false q false r false s h = record { formed = p; placed = q; few = r; ranged = s; fit = h }

pub line_few : (k : ℕ) (x : Form) → refusal k x ≡ 0 → k ≤ last_line
unfolding misplaced too_many formless
line_few k x h = go x (accepted_line k x h)
  where
    go : (x : Form) → Accepted k x → k ≤ last_line
    go (seeds a0 a1 a2 b0 b1 b2) a = omega (arith, eqb-true k 1 (not-false (eqb k 1) a.placed))
    go (sigma d b) a = omega (arith, eqb-true k 2 (not-false (eqb k 2) a.placed))
    go (shot from to d b) a = ltb-false last_line k a.few
    go no_form a = absurd (true≢false a.formed)

-- an accepted line's numbers are within their ranges
pub sigma_within : (k d b : ℕ) → refusal k (sigma d b) ≡ 0 → (d ≤ most_sigma) × (b ≤ most_sigma)
unfolding beyond
sigma_within k d b h =
    let r = or_false (ltb most_sigma d) (ltb most_sigma b) (accepted_line k (sigma d b) h).ranged in
    (ltb-false most_sigma d r.0, ltb-false most_sigma b r.1)

pub shot_within : (k : ℕ) (from to : List ℕ) (d b : ℕ) → refusal k (shot from to d b) ≡ 0 → (d ≤ most_distance) × (b ≤ most_bearing)
unfolding beyond
shot_within k from to d b h =
    let r = or_false (ltb most_distance d) (ltb most_bearing b) (accepted_line k (shot from to d b) h).ranged in
    (ltb-false most_distance d r.0, ltb-false most_bearing b r.1)

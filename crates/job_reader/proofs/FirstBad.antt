-- The walk of `first_bad`: the lines so far are accepted, and the first bad one is among those ahead.
use Prim.Native.Nat.{ℕ, ◌+◌}
use native.Mathlib.Omega.{arith}
use mathlib.Core.Path.{◌≡◌, refl, sym, ◌∙◌}
use mathlib.Core.List.{List, ◌∷◌}
use borrow.Author.Tests.{eq-eqb, ne_eqb}
use Rattle.job_lines.specs.Forms.{Form, read_line}
use Rattle.job_reader.specs.Refusals.{refusal, number_of, first_bad}
use Rattle.job_reader.specs.Setting.{begun, Refuses}
use Rattle.job_reader.specs.Private.{Reading}
use Rattle.job_reader.specs.declared.refusals.BadLine.{BadLine}
use Rattle.job_reader.specs.declared.walk.Progress.{Progress}
use Rattle.job_reader.proofs.Accepted.{line_few}
use Rattle.job_reader.proofs.Refused.{number_positive}

-- the definition at a line that is accepted, and at one that is not
module _ (k : ℕ) (l : List ℕ) (ls : List (List ℕ)) where
  bad_later : refusal k (read_line l) ≡ 0 → first_bad k (l ∷ ls) ≡ first_bad (k + 1) ls
  unfolding first_bad
  bad_later h = rw (eq-eqb (refusal k (read_line l)) 0 h, first_bad)

  bad_here : (refusal k (read_line l) ≡ 0 → ⊥) → first_bad k (l ∷ ls) ≡ record { code = refusal k (read_line l); line = k }
  unfolding first_bad
  bad_here h = rw (ne_eqb (refusal k (read_line l)) 0 h, first_bad)

-- a line that is refused is not accepted
pub refused_lem : (k : ℕ) (x : Form) (bad : BadLine) → Refuses k x bad → refusal k x ≡ 0 → ⊥
refused_lem k x bad r z = number_positive bad.cause (sym r.cause ∙ z)

pub reading_start : (all : List (List ℕ)) (p : Progress) → p ≡ begun → Reading all all p
unfolding begun
reading_start all p e = rw e (record { low = omega arith; few = omega arith; ahead = refl })

-- one line more, or the one that is bad
module _ (all left after : List (List ℕ)) (l : List ℕ) (p : Progress) (r : Reading all left p) (e : left ≡ l ∷ after) where
  pub reading_on : (q : Progress) → refusal p.line (read_line l) ≡ 0 → q.line ≡ p.line + 1 → Reading all after q
  reading_on q ok next =
      let few = line_few p.line (read_line l) ok in
      record { low = omega (arith, next); few = omega (arith, few, next); ahead = r.ahead ∙ rw (e, next) (bad_later p.line l after ok) }

  pub reading_off : (bad : BadLine) → Refuses p.line (read_line l) bad → first_bad 1 all ≡ record { code = number_of bad.cause; line = bad.line }
  reading_off bad off = r.ahead ∙ rw (e, bad_here p.line l after (refused_lem p.line (read_line l) bad off), off.cause, off.line)

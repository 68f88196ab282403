-- The text of a job: its length, and the same lines after other seeds.
use Prim.Native.Nat.{ℕ, suc, ◌+◌, ◌*◌, ◌≤◌}
use native.Mathlib.Omega.{arith}
use mathlib.Core.Path.{◌≡◌}
use mathlib.Core.Bool.{Bool, true, false, cond}
use mathlib.Core.List.{List, [], ◌∷◌, ◌++◌}
use lib.ListN.{length, get_or, drop, length-append}
use Rattle.text.specs.Scan.{lines}
use Rattle.text.specs.Fields.{decimal}
use Rattle.text.specs.Forms.{mark, print_form}
use Rattle.text.specs.Theorems.{join}
use Rattle.text.proofs.Split.{join_lines}
use Rattle.text.proofs.Plain.{name_length_lem}
use Rattle.text.proofs.Decimal.{decimal_length}
use Rattle.job_lines.specs.Forms.{Form, seeds, sigma, shot, no_form, seeds_form, sigma_form, shot_form, print_line, Printable}
use Rattle.job.specs.Theorems.{text_of, Accepts}
use Rattle.job.proofs.Jobs.{line_printed}

pub after_first : (x : Form) (xs : List Form) → Printable x → join (drop 1 (lines (text_of (x ∷ xs)))) ≡ text_of xs
unfolding text_of
after_first x xs p = rw (line_printed x (text_of xs) p) (join_lines (text_of xs))

fields_length : List (List ℕ) → ℕ
fields_length [] = 0
fields_length (f ∷ fs) = length f + fields_length fs

-- a form with its fields is no longer than both
print_most : (form : List ℕ) (fields : List (List ℕ)) → length (print_form form fields) ≤ length form + fields_length fields
unfolding print_form fields_length
print_most [] fields = omega arith
print_most (f ∷ form) fields = go (λ fs. print_most form fs) (mark f) fields
  where
    go : ((fs : List (List ℕ)) → length (print_form form fs) ≤ length form + fields_length fs) → (b : Bool) (fs : List (List ℕ))
        → length (cond b (get_or fs 0 [] ++ print_form form (drop 1 fs)) (f ∷ print_form form fs)) ≤ suc (length form) + fields_length fs
    go ih true [] = omega (arith, ih [])
    go ih true (g ∷ fs) = omega (arith, length-append g (print_form form fs), ih fs)
    go ih false fs = omega (arith, ih fs)

-- no line that can be printed has more than 100 bytes
line_short : (x : Form) → Printable x → length (print_line x) ≤ 100
unfolding print_line Printable fields_length seeds_form sigma_form shot_form
line_short (seeds a0 a1 a2 b0 b1 b2) h =
    omega (
      arith,
      print_most seeds_form (decimal a0 ∷ decimal a1 ∷ decimal a2 ∷ decimal b0 ∷ decimal b1 ∷ decimal b2 ∷ []),
      decimal_length 9 a0 h.0,
      decimal_length 9 a1 h.1,
      decimal_length 9 a2 h.2,
      decimal_length 9 b0 h.3,
      decimal_length 9 b1 h.4,
      decimal_length 9 b2 h.5,
    )
line_short (sigma d b) h =
    omega (arith, print_most sigma_form (decimal d ∷ decimal b ∷ []), decimal_length 9 d h.0, decimal_length 9 b h.1)
line_short (shot from to d b) h =
    omega (
      arith,
      print_most shot_form (from ∷ to ∷ decimal d ∷ decimal b ∷ []),
      name_length_lem from h.0,
      name_length_lem to h.1,
      decimal_length 9 d h.2,
      decimal_length 9 b h.3,
    )
line_short no_form h = absurd h

-- so that 502 lines have few enough bytes, whatever the seeds
pub text_short : (xs : List Form) (k : ℕ) → Accepts k xs → length (text_of xs) ≤ 100 * length xs
unfolding text_of Accepts
text_short [] k a = omega arith
text_short (x ∷ xs) k a =
    omega (arith, length-append (print_line x) (text_of xs), line_short x a.0, text_short xs (k + 1) a.2)

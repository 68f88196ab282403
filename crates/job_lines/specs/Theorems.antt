-- What a line says, as theorems: the record below has a proof in proofs/Theorems.antt.
use Rattle.std.specs.Prelude.{◌≡◌, List, ◌↔◌, ℕ}
use Rattle.job_lines.specs.Forms.{Form, no_form, read_line, print_line, Printable}

pub record Theorems : Type 0 where
  -- a form that is printed is read as itself
  pub read_printed : (x : Form) → Printable x → read_line (print_line x) ≡ x
  -- "line is none of the three forms, or lacks its line feed": just where no form is printed so
  pub no_form_lem : (l : List ℕ) → (read_line l ≡ no_form) ↔ ((x : Form) → Printable x → print_line x ≡ l → ⊥)

-- The theorems of specs/Theorems.antt.
use mathlib.Core.Path.{◌≡◌, refl, sym, ap, subst, ◌∙◌}
use mathlib.Core.Bool.{Bool, true, false, true≢false}
use mathlib.Core.List.{List}
use mathlib.Core.Logic.{◌↔◌}
use Prim.Native.Nat.{ℕ}
use Rattle.job_lines.specs.Forms.{Form, seeds, sigma, shot, no_form, read_line, print_line, Printable}
use Rattle.job_lines.specs.Theorems.{Theorems}
use Rattle.job_lines.proofs.RoundTrip.{read_printed, printed_read}

-- whether it is one of the three forms
abbrev is_form : Form → Bool
is_form (seeds a0 a1 a2 b0 b1 b2) = true
is_form (sigma d b) = true
is_form (shot from to d b) = true
is_form no_form = false

no_form_lem : (l : List ℕ) → (read_line l ≡ no_form) ↔ ((x : Form) → Printable x → print_line x ≡ l → ⊥)
unfolding Printable
no_form_lem l = (none_prints, λ none. by_form none (read_line l) refl)
  where
    none_prints : read_line l ≡ no_form → (x : Form) → Printable x → print_line x ≡ l → ⊥
    none_prints e x h p = subst Printable (sym (read_printed x h) ∙ ap read_line p ∙ e) h

    -- a line that says a form is what that form prints
    no_line : ((x : Form) → Printable x → print_line x ≡ l → ⊥) → (x : Form) → read_line l ≡ x → is_form x ≡ true → ⊥
    no_line none x e some =
        let (h, p) = printed_read l (λ z. true≢false (sym some ∙ ap is_form (sym e ∙ z))) in
        none (read_line l) h p

    by_form : ((x : Form) → Printable x → print_line x ≡ l → ⊥) → (x : Form) → read_line l ≡ x → read_line l ≡ no_form
    by_form none (seeds a0 a1 a2 b0 b1 b2) e = absurd (no_line none _ e refl)
    by_form none (sigma d b) e = absurd (no_line none _ e refl)
    by_form none (shot from to d b) e = absurd (no_line none _ e refl)
    by_form none no_form e = e

pub theorems : Theorems
theorems = record { read_printed = read_printed; no_form_lem = no_form_lem }

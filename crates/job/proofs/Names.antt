-- What is known of a line once it is read, and what a line that prints nothing leaves.
use Prim.Native.Nat.{ℕ, ◌≤◌}
use native.Mathlib.Nat.{add-zero}
use mathlib.Core.Path.{◌≡◌, refl, sym, ap, subst, ◌∙◌}
use mathlib.Core.List.{List, []}
use lib.ListN.{length}
use Rattle.text.specs.Limits.{name_length}
use Rattle.text.proofs.Plain.{name_length_lem}
use Rattle.text.proofs.Writing.{written_none}
use Rattle.job_lines.specs.Forms.{Form, shot, line_says, read_line, Printable}
use Rattle.job_lines.specs.declared.Line.{Line}
use Rattle.job_lines.specs.declared.Line.TheVariants.{Seeds, Sigma, Shot}
use Rattle.job_lines.specs.declared.Shot.{Shot as ShotFields}
use Rattle.job_reader.specs.Setting.{setting_on, progress_on}
use Rattle.job.specs.Job.{printed, setting_after}
use Rattle.job.specs.Private.{next_state, accepted_state, accepted_buffer}
use Rattle.job_reader.specs.declared.walk.Setting.{Setting}
use Rattle.job_reader.specs.declared.walk.Progress.{Progress}
use Rattle.job.specs.declared.state.State.{State}
use Rattle.job_lines.proofs.RoundTrip.{printed_read, shot_not_none}

-- a line that prints nothing leaves the buffer and the length of the listing as they were
pub state_same : (k used : ℕ) (s t : Setting) (x : Form) (out : List ℕ) (r : State) → printed x s ≡ [] → t ≡ setting_after x s → r ≡ next_state k used t
    → (r ≡ accepted_state k used s x) × (out ≡ accepted_buffer used s x out)
unfolding accepted_state accepted_buffer
state_same k used s t x out r e h f = rw (e, add-zero used, ← h) (f, (written_none out used).1)

-- and so does every line but a shot
pub unprinted : (text : List ℕ) (x : Line) (s : Setting) → ((f : ShotFields) → x ≡ Shot f → ⊥)
    → (printed (line_says text x) s ≡ []) × (setting_after (line_says text x) s ≡ setting_on (line_says text x) s)
unfolding printed setting_after
unprinted text (Seeds x) s h = (refl, refl)
unprinted text (Sigma x) s h = (refl, refl)
unprinted text (Shot x) s h = absurd (h x refl)

-- an accepted line before the shots
pub taken_early : (s : State) (x : Form) (out text : List ℕ) (y : Line) (next : Progress) → line_says text y ≡ x → ((g : ShotFields) → y ≡ Shot g → ⊥)
    → next ≡ progress_on x s.read
    → (record { read = next; used = s.used } ≡ accepted_state s.read.line s.used s.read.setting x) × (out ≡ accepted_buffer s.used s.read.setting x out)
taken_early s x out text y next f h e =
    let same = unprinted text y s.read.setting h in
    let none : printed x s.read.setting ≡ [] = rw f at same.0 in
    let set : setting_after x s.read.setting ≡ setting_on x s.read.setting = rw f at same.1 in
    state_same s.read.line s.used s.read.setting (setting_on x s.read.setting) x out _ none (sym set)
    (ap (λ (p : Progress). record { read = p; used = s.used }) e)

-- the names of a shot that was read
pub names_short : (l from to : List ℕ) (d b : ℕ) → read_line l ≡ shot from to d b → (length from ≤ name_length) × (length to ≤ name_length)
unfolding Printable
names_short l from to d b e =
    let p : Printable (shot from to d b) = subst Printable e (printed_read l (λ t. shot_not_none from to d b (sym e ∙ t))).0 in
    (name_length_lem from p.0, name_length_lem to p.1)

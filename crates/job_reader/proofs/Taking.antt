-- One line of a loop.
use Prim.Native.Nat.{ℕ, ◌≤◌}
use mathlib.Core.Path.{◌≡◌, refl, sym, ap, ◌∙◌}
use mathlib.Core.List.{List, []}
use Rattle.std.specs.Prelude.{Option, Some, None}
use Rattle.job_lines.specs.Forms.{Form, shot, line_says}
use Rattle.job_lines.specs.declared.Line.{Line}
use Rattle.job_lines.specs.declared.Line.TheVariants.{Seeds, Sigma, Shot}
use Rattle.job_lines.specs.declared.Shot.{Shot as ShotFields}
use Rattle.job_reader.specs.Refusals.{refusal}
use Rattle.job_reader.specs.Setting.{progress_on}
use Rattle.job_reader.specs.Loop.{station_after, link_code, kept_on}
use Rattle.job_reader.specs.Private.{first_unlinked, Keeps}
use Rattle.job_reader.specs.declared.loops.LoopShot.{LoopShot}
use Rattle.job_reader.specs.declared.shot.State.{State}
use Rattle.job_reader.proofs.Theorems.{theorems}

linked_same : (unlinked : Option ℕ) (k : ℕ) → unlinked ≡ first_unlinked unlinked k 0
unfolding first_unlinked
linked_same (Some u) k = refl
linked_same None k = refl

-- what a line before the shots leaves
abbrev Early : Form → Type 0
Early x = ((k : ℕ) (memory : List LoopShot) → kept_on k x memory ≡ memory) × ((station : List ℕ) → link_code station x ≡ 0) × (station_after x ≡ [])

-- every line but a shot is one
early : (text : List ℕ) (x : Line) → ((s : ShotFields) → x ≡ Shot s → ⊥) → Early (line_says text x)
unfolding station_after link_code kept_on
early text (Seeds x) h = (λ k m. refl, λ station. refl, refl)
early text (Sigma x) h = (λ k m. refl, λ station. refl, refl)
early text (Shot x) h = absurd (h x refl)

-- an accepted line before the shots
pub taken_early : (x : Form) (s t : State) (memory : List LoopShot) → refusal s.read.line x ≡ 0 → t.read ≡ progress_on x s.read
    → (text : List ℕ) (y : Line) → line_says text y ≡ x → ((s : ShotFields) → y ≡ Shot s → ⊥)
    → t.station.now ≡ [] → t.unlinked ≡ s.unlinked → Keeps x s t memory memory
taken_early x s t memory ok r text y f h e u =
    let early-x : Early x = rw f at (early text y h) in
    let (kept, link, none) = early-x in
    record {
      accepted = ok;
      read = r;
      next = e ∙ sym none;
      unlinked = u ∙ linked_same s.unlinked s.read.line ∙ ap (first_unlinked s.unlinked s.read.line) (sym (link s.station.now));
      memory = sym (kept s.read.line memory);
    }

-- an accepted shot is in its place and within its ranges
pub shot_placed : (k : ℕ) (from to : List ℕ) (d b : ℕ) → refusal k (shot from to d b) ≡ 0 → (3 ≤ k) × (k ≤ 502) × (d ≤ 1000000) × (b ≤ 65535)
shot_placed k from to d b h = (theorems.shot_codes k from to d b).just_0.0 h

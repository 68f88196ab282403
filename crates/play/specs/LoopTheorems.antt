-- What a loop is, as theorems: the record below has a proof in proofs/LoopTheorems.antt.
use Rattle.std.specs.Prelude.{ℕ, ◌+◌, ◌≤◌, ◌≡◌, List, [], ◌∷◌, ◌++◌, map, length, take}
use Rattle.job_lines.specs.Forms.{Form}
use Rattle.job_reader.specs.Setting.{start}
use Rattle.job.specs.Job as job
use Rattle.job_reader.specs.declared.walk.Setting.{Setting}
use Rattle.job_reader.specs.declared.loops.LoopShot.{LoopShot}
use Rattle.noisy_shot.specs.Shots.{Shot}
use Rattle.job_lines.specs.Links.{Following}
use Rattle.job_reader.specs.Loop.{forms_of, setting_in, shots_in, refused, accepted, loop_of, kept_shot, memory_after}

pub record Theorems : Type 0 where
  -- a loop is refused as its job is
  pub refused_job : (text : List ℕ) (code line : ℕ) → job.job_of text ≡ job.refused code line → loop_of text ≡ refused code line
  -- a job that is listed is accepted just where its shots follow each other, and refused with 23 where they do not
  pub followed : (text bytes : List ℕ) → job.job_of text ≡ job.listed bytes → Following [] (forms_of text)
      → loop_of text ≡ accepted (setting_in start (forms_of text)) (shots_in (forms_of text))
  pub not_followed : (text bytes : List ℕ) → job.job_of text ≡ job.listed bytes → (Following [] (forms_of text) → ⊥)
      → (line : ℕ) × (loop_of text ≡ refused 23 line)
  -- 23 has the line in the job of the first shot that does not start where the last one ended: z, where the shots before it follow each other
  pub first_unlinked_lem : (text bytes : List ℕ) → job.job_of text ≡ job.listed bytes → (x y z : Form) (xs ys : List Form)
      → forms_of text ≡ x ∷ y ∷ (xs ++ (z ∷ ys)) → Following [] xs → (Following [] (xs ++ (z ∷ [])) → ⊥)
      → loop_of text ≡ refused 23 (3 + length xs)
  -- an accepted loop has at most 500 shots, and memory with room for them begins with them
  pub few : (text : List ℕ) (s : Setting) (l : List Shot) → loop_of text ≡ accepted s l → length l ≤ 500
  pub kept : (text : List ℕ) (memory : List LoopShot) (s : Setting) (l : List Shot) → loop_of text ≡ accepted s l → length l ≤ length memory
      → take (length l) (memory_after text memory) ≡ map kept_shot l

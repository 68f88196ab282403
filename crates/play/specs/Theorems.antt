-- What a play leaves, as theorems: the record below has a proof in proofs/Theorems.antt.
use Rattle.std.specs.Prelude.{ℕ, ◌*◌, ◌≡◌, List, ℤ, pos, length, get_or}
use Rattle.job_reader.specs.declared.walk.Setting.{Setting}
use Rattle.noisy_shot.specs.Shots.{Shot}
use Rattle.sums.specs.Sums.{sine, cosine, total, rounded}
use Rattle.play.specs.Play.{ahead, played_shots, miss_at}

-- the sum of play j at 2^30 in whole millimetres, G being `sine` for east and `cosine` for north
abbrev pub millimetres_of : (ℕ → ℤ) → Setting → List Shot → ℕ → ℤ
millimetres_of G s l j = rounded (total G (played_shots (ahead (j * length l) s) l))

pub record Theorems : Type 0 where
  -- a miss is two numbers: east, the sum of distance × sine, and then north, that of distance × cosine
  pub two : (s : Setting) (l : List Shot) (j : ℕ) → length (miss_at s l j) ≡ 2
  pub east : (s : Setting) (l : List Shot) (j : ℕ) → get_or (miss_at s l j) 0 (pos 0) ≡ millimetres_of sine s l j
  pub north : (s : Setting) (l : List Shot) (j : ℕ) → get_or (miss_at s l j) 1 (pos 0) ≡ millimetres_of cosine s l j

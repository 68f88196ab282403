-- A listing of the listing call is read back (document 02, Job 13), where each shot of its job starts at the station where the one before ended;
-- where one does not, it is refused for that alone.
use Rattle.std.specs.Prelude.{ℕ, ◌≤◌, ◌≡◌, false, List, [], map}
use Rattle.text.specs.Scan.{lines}
use Rattle.job_lines.specs.Forms.{read_line}
use Rattle.noisy_shot.specs.Rounding.{noisy_distance}
use Rattle.streams.specs.declared.Generator.{Generator}
use Rattle.box_muller.specs.Steps.{fraction_bits}
use Rattle.box_muller.specs.Sample.{samples_of}
use Rattle.noise.specs.Noise.{pair_of}
use Rattle.job.specs.Job.{listed, job_of}
use Rattle.sums.specs.Sums.{most_distance}
use Rattle.sums.specs.Spans.{Span}
use Rattle.job_lines.specs.Links.{Following}
use Rattle.misclosure.specs.Misclosure.{refused, accepted, listing_of}

-- the distance of the longest shot with the largest sigma and the first sample of k and v
abbrev pub farthest : ℕ → ℕ → ℕ
farthest k v = noisy_distance 1000 1000000 (samples_of fraction_bits k v).first

-- What is proved of a listing that the listing call wrote: proofs/ReadBack.antt has the proof.
pub record ReadBack : Type 0 where
  -- it is accepted where the shots follow each other
  pub followed : (text bytes : List ℕ) → job_of text ≡ listed bytes → Following [] (map read_line (lines text))
      → (l : List Span) × (listing_of false bytes ≡ accepted l)
  -- and it is refused where they do not, with 23, "a shot that doesn't start at the last station", and never with another code
  pub not_followed : (text bytes : List ℕ) → job_of text ≡ listed bytes → (Following [] (map read_line (lines text)) → ⊥)
      → (line : ℕ) × (listing_of false bytes ≡ refused 23 line)
  pub but_for_23 : (text bytes : List ℕ) → job_of text ≡ listed bytes → (code line : ℕ) → listing_of false bytes ≡ refused code line → code ≡ 23
  -- "Distances are at most 1,008,242 mm, which the half step can reach": some sample gives it, and none gives more
  pub reached : (farthest 0 16384 ≡ 1008242) × (most_distance ≡ 1008242)
  pub none_farther : (sigma distance : ℕ) (g : Generator) → sigma ≤ 1000 → distance ≤ 1000000
      → noisy_distance sigma distance (pair_of fraction_bits g).first ≤ 1008242

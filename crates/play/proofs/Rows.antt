-- The listing of a job as the rows of its shots with their noise, and what `misclosure` reads in it.
use Prim.Native.Nat.{ℕ, suc}
use native.Mathlib.Omega.{arith}
use mathlib.Core.Path.{◌≡◌, refl, ap}
use mathlib.Core.Bool.{false}
use mathlib.Core.List.{List, [], ◌∷◌, ◌++◌}
use lib.ListN.{length}
use Rattle.job_lines.specs.Forms.{Form, seeds, sigma, shot, no_form}
use Rattle.noisy_shot.specs.Rounding.{noisy_distance, noisy_bearing}
use Rattle.box_muller.specs.Steps.{fraction_bits}
use Rattle.noise.specs.Noise.{pair_of}
use Rattle.streams.specs.Streams.{after}
use Rattle.job.specs.Job as job
use Rattle.job.specs.Job.{noisy_row}
use Rattle.job_reader.specs.Setting.{Steady}
use Rattle.job.specs.Theorems as jobs
use Rattle.job_reader.specs.declared.walk.Setting.{Setting}
use Rattle.listing_rows.specs.Rows.{row_of}
use Rattle.noisy_shot.specs.Shots.{Shot}
use Rattle.sums.specs.Spans.{low_shots}
use Rattle.misclosure.specs.Theorems.{Row, spans_in, rows_text, Linked}
use Rattle.job_lines.specs.Links.{Following}
use Rattle.read_back.proofs.ReadBack.{read_back, bearing_most}
use Rattle.job_reader.specs.Loop.{shots_in}
use Rattle.play.proofs.Shots.{Shots}
use Rattle.play.specs.Play.{noisy_shot, played_shots}

-- the rows of shots with their noise
unfoldable pub noisy_rows : Setting → List Form → List Row
noisy_rows s [] = []
noisy_rows s (shot from to d b ∷ xs) = record {
  from = from;
  to = to;
  low = noisy_distance s.distance d (pair_of fraction_bits s.generator).first;
  high = noisy_distance s.distance d (pair_of fraction_bits s.generator).first;
  step = noisy_bearing s.bearing b (pair_of fraction_bits s.generator).second;
} ∷ noisy_rows (job.setting_after (shot from to d b) s) xs
noisy_rows s (seeds a0 a1 a2 b0 b1 b2 ∷ xs) = noisy_rows s xs
noisy_rows s (sigma d b ∷ xs) = noisy_rows s xs
noisy_rows s (no_form ∷ xs) = noisy_rows s xs

-- what the job prints is those rows
pub rows_printed : (xs : List Form) (s : Setting) → Shots xs → jobs.rows s xs ≡ rows_text false (noisy_rows s xs)
unfolding jobs.rows job.printed noisy_rows rows_text noisy_row row_of Shots
rows_printed [] s h = refl
rows_printed (shot from to d b ∷ xs) s h =
    ap (λ (l : List ℕ). job.printed (shot from to d b) s ++ l) (rows_printed xs (job.setting_after (shot from to d b) s) h.4)
rows_printed (seeds a0 a1 a2 b0 b1 b2 ∷ xs) s h = absurd h
rows_printed (sigma d b ∷ xs) s h = absurd h
rows_printed (no_form ∷ xs) s h = absurd h

-- they are rows that `misclosure` accepts where the shots follow each other
pub rows_linked : (xs : List Form) (s : Setting) (station : List ℕ) → Shots xs → Steady s.distance s.bearing → Following station xs
    → Linked false station (noisy_rows s xs)
unfolding noisy_rows Linked Shots Following job.setting_after
rows_linked [] s station h steady f = tt
rows_linked (shot from to d b ∷ xs) s station h steady f = (
  record {
    from = h.0;
    to = h.1;
    far = read_back.none_farther s.distance d s.generator steady.sigma_distance h.2;
    order = refl;
    turn = bearing_most s.bearing b _;
    next = f.0;
  },
  rows_linked xs (job.setting_after (shot from to d b) s) to h.4 steady f.1,
)
rows_linked (seeds a0 a1 a2 b0 b1 b2 ∷ xs) s station h steady f = absurd h
rows_linked (sigma d b ∷ xs) s station h steady f = absurd h
rows_linked (no_form ∷ xs) s station h steady f = absurd h

-- the shots in them are those of the play
pub rows_played : (xs : List Form) (s : Setting) → Shots xs → low_shots (spans_in (noisy_rows s xs)) ≡ played_shots s (shots_in xs)
unfolding noisy_rows played_shots shots_in Shots job.setting_after after pair_of
rows_played [] s h = refl
rows_played (shot from to d b ∷ xs) s h =
    ap (λ (l : List Shot). noisy_shot s (record { distance = d; step = b }) ∷ l) (rows_played xs (job.setting_after (shot from to d b) s) h.4)
rows_played (seeds a0 a1 a2 b0 b1 b2 ∷ xs) s h = absurd h
rows_played (sigma d b ∷ xs) s h = absurd h
rows_played (no_form ∷ xs) s h = absurd h

-- and there are as many
pub rows_count : (xs : List Form) (s : Setting) → Shots xs → (length (noisy_rows s xs) ≡ length xs) × (jobs.shots xs ≡ length xs)
unfolding noisy_rows jobs.shots jobs.is_shot Shots
rows_count [] s h = (refl, refl)
rows_count (shot from to d b ∷ xs) s h =
    let (p, q) = rows_count xs (job.setting_after (shot from to d b) s) h.4 in
    (ap suc p, omega (arith, q))
rows_count (seeds a0 a1 a2 b0 b1 b2 ∷ xs) s h = absurd h
rows_count (sigma d b ∷ xs) s h = absurd h
rows_count (no_form ∷ xs) s h = absurd h

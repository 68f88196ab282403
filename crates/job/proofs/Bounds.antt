-- What an accepted line keeps within bounds: the lines, the sigmas and the listing's length.
use Prim.Native.Nat.{ℕ, ◌+◌, ◌-◌, ◌*◌, ◌/◌, ◌≤◌, ◌<◌, min}
use native.Mathlib.Omega.{arith}
use native.Mathlib.Nat.{mul-le-mul}
use mathlib.Core.Path.{◌≡◌, refl, sym, ap}
use mathlib.Core.Bool.{true≢false}
use mathlib.Core.List.{List}
use lib.IntN.{ℤ, pos, negsuc, nat_abs}
use lib.ListN.{length, get_or, take, replicate}
use mir.Syntax.{w16}
use mir.Val.{to_z, of_z}
use borrow.Author.Tests.{ltb-false}
use Rattle.streams.specs.declared.Generator.{Generator}
use Rattle.noise.proofs.Theorems.{pair_sizes}
use Rattle.box_muller.specs.Steps.{fraction_bits}
use Rattle.noise.specs.Noise.{PairAnswer, pair_of, samples_in}
use Rattle.signs.proofs.Sizes.{size_reads}
use Rattle.job_reader.specs.Limits.{last_line, most_sigma, most_distance, most_bearing}
use Rattle.job_lines.specs.Forms.{Form, seeds, sigma, shot, no_form, shot_in, read_line}
use Rattle.job_lines.specs.declared.Shot.{Shot as ShotFields}
use Rattle.text.specs.Buffer.{written, position_after, Puts}
use Rattle.text.proofs.Writing.{written_out, room_holds}
use Rattle.text.specs.declared.written.Written.{Written}
use Rattle.noisy_shot.specs.Rounding.{noise_size, noisy_distance, noisy_bearing}
use Rattle.listing_rows.specs.Rows.{shot_row, end_row, row_room}
use Rattle.text.specs.Limits.{name_length}
use Rattle.text.specs.Fields.{part_of}
use Rattle.text.proofs.Decimal.{decimal_length}
use Rattle.job.specs.Private.{row_of, Ready, Printing}
use Rattle.job_reader.specs.Refusals.{formless, misplaced, refusal}
use Rattle.job_reader.specs.Setting.{setting_on, Steady}
use Rattle.job.specs.Job.{setting_after, printed, noisy_row}
use Rattle.job_reader.specs.declared.walk.Setting.{Setting}
use Rattle.job.specs.declared.state.State.{State}
use Rattle.job_reader.proofs.Accepted.{accepted_line, line_few, sigma_within, shot_within}
use Rattle.listing_rows.proofs.Rows.{row_length, end_length}
use Rattle.job.proofs.Names.{names_short}

-- the most that 16 bits hold in size, and the noise that they give
abbrev most_size : ℕ
most_size = 32768

abbrev most_noise : ℕ
most_noise = (most_sigma * most_size + 1024) / 2048

-- the samples of a pair have 16 bits
abbrev Small : PairAnswer → Type 0
Small r = (nat_abs r.first ≤ most_size) × (nat_abs r.second ≤ most_size)

pub pair_small : (g : Generator) → Small (pair_of fraction_bits g)
pair_small g = let s = pair_sizes fraction_bits g in (omega (arith, s.0), omega (arith, s.1))

noise_bound : (σ n : ℕ) → σ ≤ most_sigma → n ≤ most_size → noise_size σ n ≤ most_noise
unfolding noise_size
noise_bound σ n h k = omega (arith, mul-le-mul h k)

distance_bound : (σ d : ℕ) (z : ℤ) → σ ≤ most_sigma → d ≤ most_distance → nat_abs z ≤ most_size → noisy_distance σ d z ≤ most_distance + most_noise
unfolding noisy_distance
distance_bound σ d (pos n) h k l = omega (arith, noise_bound σ n h l)
distance_bound σ d (negsuc n) h k l = omega arith

bearing_bound : (σ b : ℕ) (z : ℤ) → noisy_bearing σ b z ≤ most_bearing
unfolding noisy_bearing
bearing_bound σ b (pos n) = omega arith
bearing_bound σ b (negsuc n) = omega arith

-- a row of a listing is at most row_room bytes long
row_bound : (f t : List ℕ) (m s : ℕ) → length f ≤ name_length → length t ≤ name_length → m ≤ most_distance + most_noise → s ≤ most_bearing → length (shot_row f t m s) ≤ row_room
row_bound f t m s a b c d =
    let p = decimal_length 6 m (omega arith) in
    let q = decimal_length 4 s (omega arith) in
    rw (row_length f t m s) (omega arith)

-- and its last row at most 8
pub end_short : (k : ℕ) → k ≤ last_line + 1 → length (end_row (k - 3)) ≤ 8
end_short k h = let d = decimal_length 2 (k - 3) (omega arith) in omega (arith, end_length (k - 3))

-- what the next line may rely on
pub record Steps (k : ℕ) (x : Form) (s : Setting) : Type 0 where
  pub line : k ≤ last_line
  pub steady : Steady (setting_after x s).distance (setting_after x s).bearing
  pub row : length (printed x s) ≤ row_room
  pub early : k < 3 → length (printed x s) ≡ 0

pub steps : (k : ℕ) (l : List ℕ) (s : Setting) → Steady s.distance s.bearing → refusal k (read_line l) ≡ 0 → Steps
    k (read_line l) s
unfolding misplaced formless setting_on setting_after printed noisy_row
steps k l s steady h = go (read_line l) refl h (line_few k (read_line l) h)
  where
    go : (x : Form) → read_line l ≡ x → refusal k x ≡ 0 → k ≤ last_line → Steps k x s
    go (seeds a0 a1 a2 b0 b1 b2) e a few = record { line = few; steady = steady; row = omega arith; early = λ h. refl }
    go (sigma d b) e a few =
        let r = sigma_within k d b a in
        record { line = few; steady = record { sigma_distance = r.0; sigma_bearing = r.1 }; row = omega arith; early = λ h. refl }
    go (shot from to d b) e a few =
        let r = shot_within k from to d b a in
        let n = names_short l from to d b e in
        let p = pair_small s.generator in
        record {
          line = few;
          steady = steady;
          row =
              row_bound from to _ _ n.0 n.1
              (distance_bound s.distance d _ steady.sigma_distance r.0 (search (p.0, p.1)))
              (bearing_bound s.bearing b _);
          early = λ h. absurd (omega (arith, h, ltb-false k 3 (accepted_line k (shot from to d b) a).placed));
        }
    go no_form e a few = absurd (true≢false (accepted_line k no_form a).formed)

-- an accepted line of a job half way prints no more than a row
pub printing : (s : State) (l : List ℕ) → Ready s → refusal s.read.line (read_line l) ≡ 0 → Printing s.read.line s.used s.read.setting (read_line l)
printing s l r e = record { accepted = e; row = (steps s.read.line l s.read.setting r.steady e).row; short = r.short }

-- the row of a shot with its noise; the samples as 16 bits hold them
pub noise_on : (line : List ℕ) (x : ShotFields) (s : Setting) (samples : List ℤ) (mm step : ℕ) → samples ≡ samples_in (pair_of fraction_bits s.generator)
    → mm ≡ noisy_distance s.distance x.distance (to_z w16 (of_z w16 (get_or samples 0 (pos 0))))
    → step ≡ noisy_bearing s.bearing x.bearing (to_z w16 (of_z w16 (get_or samples 1 (pos 0))))
    → row_of line x mm step ≡ printed (shot_in line x) s
unfolding printed noisy_row
noise_on line x s samples mm step e m t =
    let sizes = pair_sizes fraction_bits s.generator in
    rw (m, t, e, size_reads w16 (pair_of fraction_bits s.generator).first (omega (arith, sizes.0)), size_reads w16 (pair_of fraction_bits s.generator).second (omega (arith, sizes.1)))

-- the row of a shot, from its parts
module _ (line : List ℕ) (x : ShotFields) (mm step : ℕ) (from to : List ℕ)
    (f : from ≡ part_of line x.from) (t : to ≡ part_of line x.to)
    (short : length (row_of line x mm step) ≤ row_room) where
  abbrev bytes : List ℕ
  bytes = row_of line x mm step

  same_row : shot_row from to mm step ≡ bytes
  same_row = rw (f, t)

  -- measured, where nothing of it fits
  pub row_measured : (out : List ℕ) (used n : ℕ) → n ≡ min (length (shot_row from to mm step)) row_room → length out ≤ used
      → (used + n ≡ used + length bytes) × (out ≡ written out used bytes)
  row_measured out used n e h = (omega (arith, e, ap length same_row, short), sym (written_out out used bytes h))

  -- and made
  pub row_added : (row : Written row_room) (out out' : List ℕ) (used n : ℕ) → Puts (replicate row_room 0) 0 (shot_row from to mm step) row.length row.bytes
      → (n ≡ used + row.length) × (out' ≡ written out used (take row.length row.bytes))
      → (n ≡ used + length bytes) × (out' ≡ written out used bytes)
  row_added row out out' used n p a =
      let q : Puts (replicate row_room 0) 0 bytes row.length row.bytes = rw (← same_row) p in
      let k = room_holds row_room bytes q short in
      rw (← k.0, ← k.1) a

-- a row that was put into its room
pub row_within : (row : Written row_room) (s : List ℕ) → Puts (replicate row_room 0) 0 s row.length row.bytes → row.length ≤ row_room
unfolding position_after
row_within row s p = omega (arith, p.0)

-- Shot i of a listed job takes pair i of the record that its seeds give.
use Prim.Native.Nat.{ℕ, ◌+◌, ◌-◌, ◌≤◌}
use native.Mathlib.Omega.{arith}
use mathlib.Core.Path.{◌≡◌, refl, sym, ap, ap₂, ◌∙◌}
use mathlib.Core.Bool.{true≢false}
use mathlib.Core.List.{List, [], ◌∷◌, ◌++◌, map}
use lib.Dec.{eqb}
use lib.ListN.{length, length-map}
use borrow.Author.Tests.{eqb-true, not-false}
use Rattle.streams.specs.declared.Generator.{Generator}
use Rattle.streams.specs.declared.Stream.{Stream}
use Rattle.streams.specs.Streams.{seed_of, after, fresh}
use Rattle.streams.specs.Recurrence.{Sound}
use Rattle.streams.proofs.Theorems.{after_add, seeded}
use Rattle.box_muller.specs.Steps.{fraction_bits}
use Rattle.noise.specs.Noise.{pair_of}
use Rattle.noise.proofs.Theorems.{pair_accepted}
use Rattle.job_reader.specs.Limits.{last_line}
use Rattle.job_reader.specs.Refusals.{formless, misplaced, seed_code, refusal}
use Rattle.job_reader.proofs.Refused.{seeds_within}
use Rattle.job_reader.proofs.Accepted.{accepted_line, line_few}
use Rattle.job_lines.specs.Forms.{Form, seeds, sigma, shot, no_form}
use Rattle.listing_rows.specs.Rows.{header, end_row}
use Rattle.job_reader.specs.Setting.{start, setting_on}
use Rattle.job.specs.Job.{printed, setting_after}
use Rattle.job.specs.Theorems.{Accepts, text_of, rows, ShotLine, form_of, rows_from, Drawn}

-- the rows of shots, where the setting's record is i pairs on
rows_pairs : (xs : List ShotLine) (i d b : ℕ) (g : Generator)
    → rows (record { generator = after i g; distance = d; bearing = b }) (map form_of xs) ≡ rows_from i d b g xs
unfolding rows rows_from printed setting_on setting_after pair_of after
rows_pairs [] i d b g = refl
rows_pairs (x ∷ xs) i d b g =
    ap (λ (r : List ℕ). printed (form_of x) (record { generator = after i g; distance = d; bearing = b }) ++ r)
    (ap (λ (h : Generator). rows (record { generator = h; distance = d; bearing = b }) (map form_of xs)) (sym (after_add i 1 g))
    ∙ rows_pairs xs (i + 1) d b g)

-- accepted lines from line 3 on are shots
record Shots (k : ℕ) (xs : List Form) : Type 0 where
  all : List ShotLine
  same : map form_of all ≡ xs
  few : length all + k ≤ last_line + 1

later_shots : (xs : List Form) (k : ℕ) → 3 ≤ k → k ≤ last_line + 1 → Accepts k xs → Shots k xs
unfolding Accepts misplaced formless
later_shots [] k h n a = record { all = []; same = refl; few = omega (arith, n) }
later_shots (x ∷ xs) k h n (p, e, a) =
    go x e (later_shots xs (k + 1) (omega arith) (omega (arith, line_few k x e)) a)
  where
    go : (x : Form) → refusal k x ≡ 0 → Shots (k + 1) xs → Shots k (x ∷ xs)
    go (seeds a0 a1 a2 b0 b1 b2) e r =
        absurd (omega (arith, h, eqb-true k 1 (not-false (eqb k 1) (accepted_line k (seeds a0 a1 a2 b0 b1 b2) e).placed)))
    go (sigma d b) e r = absurd (omega (arith, h, eqb-true k 2 (not-false (eqb k 2) (accepted_line k (sigma d b) e).placed)))
    go (shot from to d b) e r = record {
      all = record { from = from; to = to; distance = d; bearing = b } ∷ r.all;
      same = ap (λ (l : List Form). shot from to d b ∷ l) r.same;
      few = omega (arith, r.few);
    }
    go no_form e r = absurd (true≢false (accepted_line k no_form e).formed)

-- the registers that accepted seeds give, and their pairs
module _ (a0 a1 a2 b0 b1 b2 : ℕ) (e : refusal 1 (seeds a0 a1 a2 b0 b1 b2) ≡ 0) where
  abbrev pub stream_a : Stream
  stream_a = record { s0 = a0; s1 = a1; s2 = a2 }

  abbrev pub stream_b : Stream
  stream_b = record { s0 = b0; s1 = b1; s2 = b2 }

  code_0 : (seed_of a0 a1 a2 b0 b1 b2).code ≡ 0
  unfolding seed_code
  code_0 = (accepted_line 1 (seeds a0 a1 a2 b0 b1 b2) e).fit

  pub seeds_sound : ((seed_of a0 a1 a2 b0 b1 b2).next ≡ fresh stream_a stream_b) × Sound (fresh stream_a stream_b)
  seeds_sound =
      let ((x0, x1, x2), (y0, y1, y2)) = seeds_within a0 a1 a2 b0 b1 b2 (accepted_line 1 (seeds a0 a1 a2 b0 b1 b2) e).ranged in
      seeded stream_a stream_b
      (record { s0_range = omega arith; s1_range = omega arith; s2_range = omega arith })
      (record { s0_range = omega arith; s1_range = omega arith; s2_range = omega arith })
      code_0

  accepts_pairs : (n : ℕ) → n ≤ last_line → (pair_of fraction_bits (after n (seed_of a0 a1 a2 b0 b1 b2).next)).code ≡ 0
  accepts_pairs n h =
      let (same, s) = seeds_sound in
      rw same (pair_accepted fraction_bits n (fresh stream_a stream_b) s refl (omega arith))

-- a listed job by its first two lines
module _ (text bytes : List ℕ) (xs : List Form) (r : Shots 3 xs) where
  from_heads : (a0 a1 a2 b0 b1 b2 d b : ℕ) → refusal 1 (seeds a0 a1 a2 b0 b1 b2) ≡ 0
      → text_of (seeds a0 a1 a2 b0 b1 b2 ∷ sigma d b ∷ xs) ≡ text
      → bytes ≡ header ++ (rows start (seeds a0 a1 a2 b0 b1 b2 ∷ sigma d b ∷ xs) ++ end_row (length xs)) → Drawn text bytes
  unfolding rows printed setting_on setting_after after
  from_heads a0 a1 a2 b0 b1 b2 d b e t l =
      let g = (seed_of a0 a1 a2 b0 b1 b2).next in
      let count : length xs ≡ length r.all = omega (arith, length-map r.all form_of, ap length r.same) in
      let in_pairs : rows (record { generator = g; distance = d; bearing = b }) xs ≡ rows_from 0 d b g r.all =
      ap (rows (record { generator = g; distance = d; bearing = b })) (sym r.same) ∙ rows_pairs r.all 0 d b g in
      record {
        a0 = a0;
        a1 = a1;
        a2 = a2;
        b0 = b0;
        b1 = b1;
        b2 = b2;
        distance = d;
        bearing = b;
        all = r.all;
        said = ap (λ (l : List Form). text_of (seeds a0 a1 a2 b0 b1 b2 ∷ sigma d b ∷ l)) r.same ∙ t;
        seeded = code_0 a0 a1 a2 b0 b1 b2 e;
        drawn = λ i h. accepts_pairs a0 a1 a2 b0 b1 b2 e i (omega (arith, h, r.few));
        listing = l ∙ ap₂ (λ (rs : List ℕ) (m : ℕ). header ++ (rs ++ end_row m)) in_pairs count;
      }

  from_seeds : (a0 a1 a2 b0 b1 b2 : ℕ) (y : Form) → refusal 1 (seeds a0 a1 a2 b0 b1 b2) ≡ 0 → refusal 2 y ≡ 0
      → text_of (seeds a0 a1 a2 b0 b1 b2 ∷ y ∷ xs) ≡ text
      → bytes ≡ header ++ (rows start (seeds a0 a1 a2 b0 b1 b2 ∷ y ∷ xs) ++ end_row (length xs)) → Drawn text bytes
  unfolding misplaced formless
  from_seeds a0 a1 a2 b0 b1 b2 (seeds c0 c1 c2 d0 d1 d2) e f t l = absurd (true≢false (accepted_line 2 (seeds c0 c1 c2 d0 d1 d2) f).placed)
  from_seeds a0 a1 a2 b0 b1 b2 (sigma d b) e f t l = from_heads a0 a1 a2 b0 b1 b2 d b e t l
  from_seeds a0 a1 a2 b0 b1 b2 (shot from to d b) e f t l = absurd (true≢false (accepted_line 2 (shot from to d b) f).placed)
  from_seeds a0 a1 a2 b0 b1 b2 no_form e f t l = absurd (true≢false (accepted_line 2 no_form f).formed)

  from_lines : (x y : Form) → refusal 1 x ≡ 0 → refusal 2 y ≡ 0 → text_of (x ∷ y ∷ xs) ≡ text
      → bytes ≡ header ++ (rows start (x ∷ y ∷ xs) ++ end_row (length xs)) → Drawn text bytes
  unfolding misplaced formless
  from_lines (seeds a0 a1 a2 b0 b1 b2) y e f t l = from_seeds a0 a1 a2 b0 b1 b2 y e f t l
  from_lines (sigma d b) y e f t l = absurd (true≢false (accepted_line 1 (sigma d b) e).placed)
  from_lines (shot from to d b) y e f t l = absurd (true≢false (accepted_line 1 (shot from to d b) e).placed)
  from_lines no_form y e f t l = absurd (true≢false (accepted_line 1 no_form e).formed)

pub drawn_pairs : (text bytes : List ℕ) (xs : List Form) → Accepts 1 xs → 2 ≤ length xs → text_of xs ≡ text
    → bytes ≡ header ++ (rows start xs ++ end_row (length xs - 2)) → Drawn text bytes
unfolding Accepts
drawn_pairs text bytes [] a n t l = absurd (omega (arith, n))
drawn_pairs text bytes (x ∷ []) a n t l = absurd (omega (arith, n))
drawn_pairs text bytes (x ∷ y ∷ xs) a n t l =
    let count : length (x ∷ y ∷ xs) - 2 ≡ length xs = omega arith in
    from_lines text bytes xs (later_shots xs 3 (omega arith) (omega arith) a.2.2) x y a.1 a.2.1 t
    (l ∙ ap (λ (m : ℕ). header ++ (rows start (x ∷ y ∷ xs) ++ end_row m)) count)

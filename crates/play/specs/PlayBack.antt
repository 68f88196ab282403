-- What a play is, as theorems: the record below has a proof in proofs/PlayBack.antt.
use Rattle.std.specs.Prelude.{ℕ, ◌+◌, ◌*◌, ◌<◌, ◌↔◌, ◌≡◌, false, List, [], ◌++◌, ℤ, length, drop, get_or}
use Rattle.text.specs.Scan.{lines}
use Rattle.text.specs.Theorems.{join}
use Rattle.job_lines.specs.Forms.{seeds, print_line}
use Rattle.streams.specs.declared.Generator.{Generator}
use Rattle.job.specs.Job as job
use Rattle.job_reader.specs.declared.walk.Setting.{Setting}
use Rattle.noisy_shot.specs.Shots.{Shot}
use Rattle.sums.specs.Sums.{sine, cosine, rounded}
use Rattle.misclosure.specs.Misclosure.{listing_of, miss_of}
use Rattle.job_reader.specs.Loop.{refused, accepted, loop_of}
use Rattle.play.specs.Play.{ahead, sum_at, miss_at, misses_from, play_of, answer_of, misses_after}

-- the job with the same lines and, as seeds on line 1, the registers of a record, all 32 bits of each
abbrev pub reseeded : List ℕ → Generator → List ℕ
reseeded text g =
    print_line (seeds g.a.s0 g.a.s1 g.a.s2 g.b.s0 g.b.s1 g.b.s2) ++ join (drop 1 (lines text))

-- play j of a loop is what `misclosure` gives for the listing of the job so reseeded
abbrev pub IsMisclosure : List ℕ → Setting → List Shot → ℕ → Type 0
IsMisclosure text s l j =
    (bytes : List ℕ) × (job.job_of (reseeded text (ahead (j * length l) s).generator) ≡ job.listed bytes)
    × (miss_of (listing_of false bytes) ≡ record {
      code = 0;
      line = 0;
      east = sum_at sine s l j;
      north = sum_at cosine s l j;
      easting = rounded (sum_at sine s l j);
      northing = rounded (sum_at cosine s l j);
    })

-- the code of a call, and the misses that it leaves
abbrev pub code_of : List ℕ → ℕ → List (List ℤ) → ℕ
code_of text first old = (answer_of (play_of text first (length old))).code

abbrev pub leaves : List ℕ → ℕ → List (List ℤ) → List (List ℤ)
leaves text first old = misses_after (play_of text first (length old)) first old

pub record Theorems : Type 0 where
  -- misses[i] is that of play first + i
  pub element : (s : Setting) (l : List Shot) (first runs i : ℕ) → i < runs → get_or (misses_from first runs s l) i [] ≡ miss_at s l (first + i)
  -- play j is `misclosure` of the listing of the job with the same lines and, as seeds on line 1, the registers of the record that it starts with
  pub play_is : (text : List ℕ) (first runs j : ℕ) (s : Setting) (l : List Shot) → play_of text first runs ≡ accepted s l → j < first + runs
      → IsMisclosure text s l j
  -- play 0 starts with the job's own seeds: its job is the job itself
  pub own_seeds : (text : List ℕ) (first runs : ℕ) (s : Setting) (l : List Shot) → play_of text first runs ≡ accepted s l
      → reseeded text s.generator ≡ text
  -- refused as the loop is: code and line are the loop's
  pub refused_loop : (text : List ℕ) (first runs code line : ℕ) → loop_of text ≡ refused code line → play_of text first runs ≡ refused code line
  -- an accepted loop is refused with 13 where the pairs of all plays up to first + runs would pass 2^64 - 1, and only there
  pub just_13 : (text : List ℕ) (first : ℕ) (old : List (List ℤ)) (s : Setting) (l : List Shot) → loop_of text ≡ accepted s l
      → (code_of text first old ≡ 13) ↔ (18446744073709551615 < (first + length old) * length l)
  -- the plays of n + m runs from first are those of n runs from first, followed by those of m runs from first + n
  pub joined : (text : List ℕ) (first : ℕ) (x y : List (List ℤ)) → code_of text first (x ++ y) ≡ 0
      → (code_of text first x ≡ 0) × (code_of text (first + length x) y ≡ 0)
      × (leaves text first (x ++ y) ≡ leaves text first x ++ leaves text (first + length x) y)

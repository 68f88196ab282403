-- Many plays of one loop, from a job's bytes: how far each misses.
use Rattle.std.specs.Prelude.{ℕ, zero, suc, ◌+◌, ◌*◌, cond, List, [], ◌∷◌, eqb, ℤ, length}
use Rattle.streams.specs.Streams.{after, count_code}
use Rattle.box_muller.specs.Steps.{fraction_bits}
use Rattle.noise.specs.Noise.{pair_of}
use Rattle.noisy_shot.specs.Rounding.{noisy_distance, noisy_bearing}
use Rattle.job_reader.specs.declared.walk.Setting.{Setting}
use Rattle.noisy_shot.specs.Shots.{Shot}
use Rattle.sums.specs.Sums.{sine, cosine, total, rounded}
use Rattle.job_reader.specs.Loop.{Outcome, refused, accepted, loop_of}
use Rattle.play.specs.declared.PlayAnswer.{PlayAnswer}

-- ---- One play

-- the setting with its record n pairs on
abbrev pub ahead : ℕ → Setting → Setting
ahead n s = record { generator = after n s.generator; distance = s.distance; bearing = s.bearing }

-- a shot with the noise of the next pair: "First sample to distance (below 0 becomes 0), second to bearing (mod 65536)"
abbrev pub noisy_shot : Setting → Shot → Shot
noisy_shot s x = record {
  distance = noisy_distance s.distance x.distance (pair_of fraction_bits s.generator).first;
  step = noisy_bearing s.bearing x.step (pair_of fraction_bits s.generator).second;
}

-- the shots of a play, each with a pair of its own
unfoldable pub played_shots : Setting → List Shot → List Shot
played_shots s [] = []
played_shots s (x ∷ l) = noisy_shot s x ∷ played_shots (ahead 1 s) l

-- play j starts j × (shots) pairs on from the job's seeds: its sum at 2^30; G is `sine` for east and `cosine` for north
unfoldable pub sum_at : (ℕ → ℤ) → Setting → List Shot → ℕ → ℤ
sum_at G s l j = total G (played_shots (ahead (j * length l) s) l)

-- its miss in millimetres, east and north
abbrev pub miss_at : Setting → List Shot → ℕ → List ℤ
miss_at s l j = rounded (sum_at sine s l j) ∷ rounded (sum_at cosine s l j) ∷ []

-- the misses of so many plays from play j on
unfoldable pub misses_from : ℕ → ℕ → Setting → List Shot → List (List ℤ)
misses_from j zero s l = []
misses_from j (suc runs) s l = miss_at s l j ∷ misses_from (suc j) runs s l

-- ---- The call

-- refused as the loop is, then with 13 where the pairs of all plays up to first + runs would pass 2^64 - 1
abbrev pub room_for : ℕ → Outcome → Outcome
room_for plays (refused code line) = refused code line
room_for plays (accepted s l) = cond (eqb (count_code s.generator (plays * length l)) 0) (accepted s l) (refused 13 0)

unfoldable pub play_of : List ℕ → ℕ → ℕ → Outcome
play_of text first runs = room_for (first + runs) (loop_of text)

abbrev pub answer_of : Outcome → PlayAnswer
answer_of (refused code line) = record { code = code; line = line }
answer_of (accepted s l) = record { code = 0; line = 0 }

-- What the caller's memory then holds, a miss a run; refused, what it held
abbrev pub misses_after : Outcome → ℕ → List (List ℤ) → List (List ℤ)
misses_after (refused code line) first old = old
misses_after (accepted s l) first old = misses_from first (length old) s l

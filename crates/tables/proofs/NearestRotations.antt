-- The rotation tables hold the nearest whole numbers: one test over any index and scale, which antt computes at 96 fraction bits, and
-- one lemma that carries it to each entry.
use mathlib.Core.Path.{◌≡◌, refl, ap₂}
use mathlib.Core.Bool.{Bool, ◌&&◌}
use mathlib.Core.List.{List, [], ◌∷◌}
use Prim.Native.Nat.{ℕ, zero, suc, ◌+◌, ◌*◌, ◌/◌, ◌%◌, ◌^◌, ◌<◌}
use native.Mathlib.Omega.{arith}
use lib.Dec.{T, ltb, ltb→lt}
use lib.ListN.{length}
use store.Enc.{and_l, and_r}
use Rattle.exact.specs.Root.{root_digits, root_down, root_up}
use Rattle.exact.specs.Rotation.{
  Rotation,
  none,
  half,
  compose,
  halving,
  bit_rotation,
  bits_rotation,
  coarse,
  fine,
}
use Rattle.tables.specs.Tables.{
  entry_of,
  cos_coarse,
  sin_coarse,
  cos_fine,
  sin_fine,
  cos_coarse_is,
  sin_coarse_is,
  cos_fine_is,
  sin_fine_is,
}
use Rattle.tables.specs.Promise.{NearestIn, NearestCos, NearestSin}
use Rattle.tables.proofs.Entries.{lengths, every, at}

-- The rotation of an index from the halvings that its bits choose, which all entries share.
halvings : ℕ → ℕ → ℕ → List Rotation
halvings n j zero = []
halvings n j (suc count) = halving n (j + suc count) ∷ halvings n j count

bit_by : ℕ → Rotation → ℕ → Rotation
bit_by n h zero = none n
bit_by n h (suc bit) = h

rotation_by : ℕ → List Rotation → ℕ → Rotation
rotation_by n [] x = none n
rotation_by n (h ∷ hs) x = compose n (rotation_by n hs (x / 2)) (bit_by n h (x % 2))

bit_by_is : (n j bit : ℕ) → bit_by n (halving n j) bit ≡ bit_rotation n j bit
unfolding bit_by bit_rotation
bit_by_is n j zero = refl
bit_by_is n j (suc bit) = refl

rotation_by_is : (n j count x : ℕ) → rotation_by n (halvings n j count) x ≡ bits_rotation n j count x
unfolding rotation_by halvings bits_rotation
rotation_by_is n j zero x = refl
rotation_by_is n j (suc count) x = ap₂ (compose n) (rotation_by_is n j count (x / 2)) (bit_by_is n (j + suc count) (x % 2))

is_nearest_in : ℕ → ℕ → ℕ → ℕ → ℕ → Bool
is_nearest_in f n low high x =
    ltb (2 * (x * 2 ^ n)) (2 * (2 ^ f * low) + 2 ^ n) && ltb (2 * (2 ^ f * high)) (2 * (x * 2 ^ n) + 2 ^ n)

nearest_in : (f n low high x : ℕ) → T (is_nearest_in f n low high x) → NearestIn f n low high x
unfolding is_nearest_in
nearest_in f n low high x t = record {
  below = ltb→lt _ _ (and_l (ltb (2 * (x * 2 ^ n)) (2 * (2 ^ f * low) + 2 ^ n)) _ t);
  above = ltb→lt _ _ (and_r (ltb (2 * (x * 2 ^ n)) (2 * (2 ^ f * low) + 2 ^ n)) _ t);
}

-- the test of an entry against the ends of its cosine or its sine
is_nearest_of : ℕ → ℕ → (Rotation → ℕ) → (Rotation → ℕ) → List Rotation → ℕ → ℕ → Bool
is_nearest_of f n low high hs i x = let r : Rotation = rotation_by n hs i in is_nearest_in f n (low r) (high r) x

test : ℕ → ℕ → (Rotation → ℕ) → (Rotation → ℕ) → List Rotation → List ℕ → Bool
test f n low high hs table = every (is_nearest_of f n low high hs) 0 table

carried :
    (f n j count : ℕ) (low high : Rotation → ℕ) (table : List ℕ) → T (test f n low high (halvings n j count) table) →
    (i : ℕ) → i < length table →
    NearestIn f n (low (bits_rotation n j count i)) (high (bits_rotation n j count i)) (entry_of table 0 i)
unfolding test is_nearest_of
carried f n j count low high table t i h =
    rw (← rotation_by_is n j count i)
    (nearest_in f n _ _ _ (at (is_nearest_of f n low high (halvings n j count)) 0 table t i (omega arith) (omega arith)))

abbrev tested : ℕ → List ℕ → List ℕ → Type 0
tested j cosines sines =
    T (test 30 96 (λ r. r.cos_low) (λ r. r.cos_high) (halvings 96 j 7) cosines) ×
    T (test 30 96 (λ r. r.sin_low) (λ r. r.sin_high) (halvings 96 j 7) sines)

coarse_tested : tested 0 cos_coarse sin_coarse
unfolding test is_nearest_of is_nearest_in rotation_by bit_by halvings halving half compose root_down root_up root_digits
coarse_tested = rw (cos_coarse_is, sin_coarse_is) (tt, tt)

fine_tested : tested 7 cos_fine sin_fine
unfolding test is_nearest_of is_nearest_in rotation_by bit_by halvings halving half compose root_down root_up root_digits
fine_tested = rw (cos_fine_is, sin_fine_is) (tt, tt)

pub cos_coarse_lem : (a : ℕ) → a < 128 → NearestCos 30 96 (coarse 96 a) (entry_of cos_coarse 0 a)
cos_coarse_lem a h = carried 30 96 0 7 (λ r. r.cos_low) (λ r. r.cos_high) cos_coarse coarse_tested.0 a (omega (arith, lengths))

pub sin_coarse_lem : (a : ℕ) → a < 128 → NearestSin 30 96 (coarse 96 a) (entry_of sin_coarse 0 a)
sin_coarse_lem a h = carried 30 96 0 7 (λ r. r.sin_low) (λ r. r.sin_high) sin_coarse coarse_tested.1 a (omega (arith, lengths))

pub cos_fine_lem : (b : ℕ) → b < 128 → NearestCos 30 96 (fine 96 b) (entry_of cos_fine 0 b)
cos_fine_lem b h = carried 30 96 7 7 (λ r. r.cos_low) (λ r. r.cos_high) cos_fine fine_tested.0 b (omega (arith, lengths))

pub sin_fine_lem : (b : ℕ) → b < 128 → NearestSin 30 96 (fine 96 b) (entry_of sin_fine 0 b)
sin_fine_lem b h = carried 30 96 7 7 (λ r. r.sin_low) (λ r. r.sin_high) sin_fine fine_tested.1 b (omega (arith, lengths))

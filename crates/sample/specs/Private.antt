-- For private functions; no public contract cites these.
use Rattle.std.specs.Prelude.{◌≡◌, List, ℕ, ◌/◌, ◌%◌, ◌^◌, ◌≤◌, ◌<◌, length, get_or}
use Rattle.radius.specs.Steps.{number_bits, under_root}
use Rattle.radius.specs.Cells.{InCell}
use Rattle.radius.specs.Root.{NearRoot}
use Rattle.angle.specs.Rotations.{Rotated}

-- Room for n numbers in each of the five lists that the passes hand on.
pub record Room (n : ℕ) (places r x coarse fine : List ℕ) : Type 0 where
  pub places_room : n ≤ length places
  pub r_room : n ≤ length r
  pub x_room : n ≤ length x
  pub coarse_room : n ≤ length coarse
  pub fine_room : n ≤ length fine

-- What the tables say of z: of its k, and of its v, whose quarters are not looked up.
pub record LookedAt (z place reciprocal log coarse fine : ℕ) : Type 0 where
  pub cell : InCell (z / 65536) place reciprocal log
  pub rotated : Rotated (z % 16384) coarse fine

-- The first i of some z are looked up.
pub record Looked (z places r x coarse fine : List ℕ) (i : ℕ) : Type 0 where
  pub room : Room (length z) places r x coarse fine
  pub at : (j : ℕ) → j < i → LookedAt (get_or z j 0) (get_or places j 0) (get_or r j 0) (get_or x j 0) (get_or coarse j 0) (get_or fine j 0)

-- 2Q in place of the logarithm, for any k whose cell it is.
abbrev pub UnderRootAt : (place reciprocal log x : ℕ) → Type 0
UnderRootAt place reciprocal log x = (k : ℕ) → k < 2 ^ number_bits → InCell k place reciprocal log → x ≡ under_root k

abbrev pub UnderRoots : (n : ℕ) (places r logs x : List ℕ) → Type 0
UnderRoots n places r logs x = (j : ℕ) → j < n → UnderRootAt (get_or places j 0) (get_or r j 0) (get_or logs j 0) (get_or x j 0)

-- The root of each x or one less.
abbrev pub NearAt : (x r : ℕ) → Type 0
NearAt x r = x < 2 ^ 48 → NearRoot x r

abbrev pub NearRoots : (n : ℕ) (x r : List ℕ) → Type 0
NearRoots n x r = (j : ℕ) → j < n → NearAt (get_or x j 0) (get_or r j 0)

-- What the last pass asks of z: its 2Q, a near root and its rotations.
pub record ReadyAt (z x r coarse fine : ℕ) : Type 0 where
  pub under : x ≡ under_root (z / 65536)
  pub near : NearRoot x r
  pub rotated : Rotated (z % 16384) coarse fine

pub record Ready (z x r coarse fine : List ℕ) : Type 0 where
  pub x_room : length z ≤ length x
  pub r_room : length z ≤ length r
  pub coarse_room : length z ≤ length coarse
  pub fine_room : length z ≤ length fine
  pub at : (j : ℕ) → j < length z → ReadyAt (get_or z j 0) (get_or x j 0) (get_or r j 0) (get_or coarse j 0) (get_or fine j 0)

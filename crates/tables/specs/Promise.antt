-- What the tables promise (document 01, 'Radius' and 'Angle and sample'), in the words of `exact`; the crates above use nothing else
-- of an entry. proofs/Promise.antt has a value of each record.
use Rattle.std.specs.Prelude.{◌≡◌, false, ℕ, suc, ◌+◌, ◌*◌, ◌-◌, ◌^◌, ◌≤◌, ◌<◌, pos}
use Rattle.exact.specs.Fraction.{Fraction, whole, halved, dyadic}
use Rattle.exact.specs.Series.{AtMostLn, AtLeastLn}
use Rattle.exact.specs.Rotation.{Rotation, coarse, fine, rotation}
use Rattle.exact.specs.Pair.{CloseTo}
use Rattle.tables.specs.Tables.{entry_of, log_coarse, log_fine, cos_coarse, sin_coarse, cos_fine, sin_fine, ln_two}

-- half a unit below x and half a unit above it, the unit being 2^-f; below 0 it is 0
abbrev pub lower : ℕ → ℕ → Fraction
lower f x = dyadic (suc f) (2 * x - 1)

abbrev pub upper : ℕ → ℕ → Fraction
upper f x = dyadic (suc f) (2 * x + 1)

-- "the nearest whole number to its logarithm times 2^40", for any f in place of 40 and any number z
pub record NearestLn (f : ℕ) (z : Fraction) (x : ℕ) : Type 0 where
  pub low : AtMostLn (lower f x) z
  pub high : AtLeastLn (upper f x) z

-- "nearest at 2^30", for any f in place of 30: both ends of an enclosure at n fraction bits are less than half a unit of 2^-f from x
pub record NearestIn (f n low high x : ℕ) : Type 0 where
  pub below : 2 * (x * 2 ^ n) < 2 * (2 ^ f * low) + 2 ^ n
  pub above : 2 * (2 ^ f * high) < 2 * (x * 2 ^ n) + 2 ^ n

abbrev pub NearestCos : ℕ → ℕ → Rotation → ℕ → Type 0
NearestCos f n r x = NearestIn f n r.cos_low r.cos_high x

abbrev pub NearestSin : ℕ → ℕ → Rotation → ℕ → Type 0
NearestSin f n r x = NearestIn f n r.sin_low r.sin_high x

-- Each entry is the nearest: of the logarithms at 2^40, and of the rotations at 2^30, in their enclosures at 96 fraction bits.
pub record Promise : Type 0 where
  pub log_coarse_lem : (h : ℕ) → 256 ≤ h → h < 512 → NearestLn 40 (dyadic 8 h) (entry_of log_coarse 256 h)
  pub log_fine_lem : (i : ℕ) → i < 256 → NearestLn 40 (dyadic 16 (65536 + i)) (entry_of log_fine 0 i)
  pub ln_two_lem : NearestLn 40 (whole 2) ln_two
  pub cos_coarse_lem : (a : ℕ) → a < 128 → NearestCos 30 96 (coarse 96 a) (entry_of cos_coarse 0 a)
  pub sin_coarse_lem : (a : ℕ) → a < 128 → NearestSin 30 96 (coarse 96 a) (entry_of sin_coarse 0 a)
  pub cos_fine_lem : (b : ℕ) → b < 128 → NearestCos 30 96 (fine 96 b) (entry_of cos_fine 0 b)
  pub sin_fine_lem : (b : ℕ) → b < 128 → NearestSin 30 96 (fine 96 b) (entry_of sin_fine 0 b)

-- What "nearest" says, at any scale. Every point of the enclosure is less than half a unit from x. The coarse tables' rotations are
-- the exact ones for w = 128 a, the fine tables' those for w = b. A whole number that meets the same promise, for a rotation in any of
-- its enclosures, is x.
pub record Nearest : Type 0 where
  pub points :
      (f n low high x : ℕ) → NearestIn f n low high x →
      CloseTo (halved (whole 1)) f (pos x) (record { negative = false; low = dyadic n low; high = dyadic n high })
  pub coarse_is : (n a : ℕ) → rotation n (128 * a) ≡ coarse n a
  pub fine_is : (n b : ℕ) → b < 128 → rotation n b ≡ fine n b
  pub ln_unique : (f : ℕ) (z : Fraction) (x y : ℕ) → NearestLn f z x → NearestLn f z y → x ≡ y
  pub cos_unique : (f w m n x y : ℕ) → NearestCos f m (rotation m w) x → NearestCos f n (rotation n w) y → x ≡ y
  pub sin_unique : (f w m n x y : ℕ) → NearestSin f m (rotation m w) x → NearestSin f n (rotation n w) y → x ≡ y

-- "Any table [..] gives 0 for an entry that it lacks"
pub record Lacking : Type 0 where
  pub log_coarse_below : (h : ℕ) → h < 256 → entry_of log_coarse 256 h ≡ 0
  pub log_coarse_lem : (h : ℕ) → 512 ≤ h → entry_of log_coarse 256 h ≡ 0
  pub log_fine_lem : (i : ℕ) → 256 ≤ i → entry_of log_fine 0 i ≡ 0
  pub cos_coarse_lem : (a : ℕ) → 128 ≤ a → entry_of cos_coarse 0 a ≡ 0
  pub sin_coarse_lem : (a : ℕ) → 128 ≤ a → entry_of sin_coarse 0 a ≡ 0
  pub cos_fine_lem : (b : ℕ) → 128 ≤ b → entry_of cos_fine 0 b ≡ 0
  pub sin_fine_lem : (b : ℕ) → 128 ≤ b → entry_of sin_fine 0 b ≡ 0

-- What the steps of a sample ask besides, at every index.
pub record Bounds : Type 0 where
  pub ln_two_lem : ln_two ≤ 0xB17217F7D2
  pub log_coarse_lem : (h : ℕ) → entry_of log_coarse 256 h ≤ ln_two
  pub log_fine_lem : (i : ℕ) → entry_of log_fine 0 i ≤ ln_two
  pub cos_coarse_lem : (a : ℕ) → entry_of cos_coarse 0 a ≤ 2 ^ 30
  pub sin_coarse_lem : (a : ℕ) → entry_of sin_coarse 0 a ≤ 2 ^ 30
  pub cos_fine_lem : (b : ℕ) → entry_of cos_fine 0 b ≤ 2 ^ 30
  pub sin_fine_lem : (b : ℕ) → entry_of sin_fine 0 b ≤ 2 ^ 30
  -- the cosine of w is not below 0, and its sine not above 1
  pub cosine : (a b : ℕ) → entry_of sin_coarse 0 a * entry_of sin_fine 0 b ≤ entry_of cos_coarse 0 a * entry_of cos_fine 0 b
  pub sine : (a b : ℕ) → entry_of sin_coarse 0 a * entry_of cos_fine 0 b + entry_of cos_coarse 0 a * entry_of sin_fine 0 b ≤ 2 ^ 60

-- The entries that are exact: ln 1 is 0, the cosine of 0 is 1 and its sine 0.
pub record ExactEntries : Type 0 where
  pub log_coarse_lem : entry_of log_coarse 256 256 ≡ 0
  pub log_fine_lem : entry_of log_fine 0 0 ≡ 0
  pub cos_coarse_lem : entry_of cos_coarse 0 0 ≡ 2 ^ 30
  pub sin_coarse_lem : entry_of sin_coarse 0 0 ≡ 0
  pub cos_fine_lem : entry_of cos_fine 0 0 ≡ 2 ^ 30
  pub sin_fine_lem : entry_of sin_fine 0 0 ≡ 0

-- Rotations at n fraction bits, every root rounded outward. Document 01, 'What "exact" means'.
use Rattle.std.specs.Prelude.{ℕ, zero, suc, ◌+◌, ◌-◌, ◌*◌, ◌/◌, ◌%◌, ◌^◌, min}
use Rattle.exact.specs.Root.{root_down, root_up}

-- x over y, rounded up
abbrev pub quotient_up : ℕ → ℕ → ℕ
quotient_up x y = (x + (y - 1)) / y

-- the ends of an enclosure of a rotation's cosine and sine, in units of 2 ^ -n
pub record Rotation : Type 0 where
  pub cos_low : ℕ
  pub cos_high : ℕ
  pub sin_low : ℕ
  pub sin_high : ℕ

-- no turn: cosine 1, sine 0
abbrev pub none : ℕ → Rotation
none n = record { cos_low = 2 ^ n; cos_high = 2 ^ n; sin_low = 0; sin_high = 0 }

-- "The cosine of a quarter turn is 0"
abbrev pub quarter_turn : ℕ → Rotation
quarter_turn n = record { cos_low = 0; cos_high = 0; sin_low = 2 ^ n; sin_high = 2 ^ n }

-- "half an angle has cosine root((1 + cosine)/2) and sine root((1 - cosine)/2), both non-negative"
unfoldable pub half : ℕ → Rotation → Rotation
half n r = record {
  cos_low = root_down ((2 ^ n + r.cos_low) * 2 ^ n);
  cos_high = root_up ((2 ^ n + r.cos_high) * 2 ^ n);
  sin_low = root_down ((2 ^ n - r.cos_high) * 2 ^ n);
  sin_high = root_up ((2 ^ n - r.cos_low) * 2 ^ n);
}

-- "the addition formulas"; an end beyond 0 or 1 is cut there
unfoldable pub compose : ℕ → Rotation → Rotation → Rotation
compose n r t = record {
  cos_low = (r.cos_low * t.cos_low - r.sin_high * t.sin_high) / 2 ^ n;
  cos_high = min (2 ^ n) (quotient_up (r.cos_high * t.cos_high - r.sin_low * t.sin_low) (2 ^ n));
  sin_low = (r.sin_low * t.cos_low + r.cos_low * t.sin_low) / 2 ^ n;
  sin_high = min (2 ^ n) (quotient_up (r.sin_high * t.cos_high + r.cos_high * t.sin_high) (2 ^ n));
}

-- a quarter turn halved j times
unfoldable pub halving : ℕ → ℕ → Rotation
halving n zero = quarter_turn n
halving n (suc j) = half n (halving n j)

-- a bit of the angle: no turn where it is 0
unfoldable pub bit_rotation : ℕ → ℕ → ℕ → Rotation
bit_rotation n j zero = none n
bit_rotation n j (suc b) = halving n j

-- the composition of `count` bits x, whose highest turns by a quarter halved j + 1 times
unfoldable pub bits_rotation : ℕ → ℕ → ℕ → ℕ → Rotation
bits_rotation n j zero x = none n
bits_rotation n j (suc count) x = compose n (bits_rotation n j count (x / 2)) (bit_rotation n (j + suc count) (x % 2))

-- "The exact rotation for w composes the half-angle rotations of its 14 bits by the addition formulas", one bit after another
abbrev pub bit_by_bit : ℕ → ℕ → Rotation
bit_by_bit n w = bits_rotation n 0 14 w

-- "a = floor(w / 128), b = w mod 128": a turns by a/512, b by b/65536 of a turn
abbrev pub coarse : ℕ → ℕ → Rotation
coarse n a = bits_rotation n 0 7 a

abbrev pub fine : ℕ → ℕ → Rotation
fine n b = bits_rotation n 7 7 b

-- the exact rotation for w, composed of the rotations of a and b: it has the cosine and the sine of `bit_by_bit` (`order_overlaps`)
unfoldable pub rotation : ℕ → ℕ → Rotation
rotation n w = compose n (coarse n (w / 128)) (fine n (w % 128))

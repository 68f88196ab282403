-- The whole-number steps from v to its sine and cosine (document 01, 'Angle and sample'), in the document's order. C, D, c, s are
-- any tables, each a function of the document's own index.
use Rattle.std.specs.Prelude.{ℕ, ◌+◌, ◌-◌, ◌*◌, ◌/◌, ◌%◌, ◌^◌, ℤ, pos, neg_ℤ}
use Rattle.exact.specs.Pair.{turn}
use Rattle.tables.specs.Tables.{cos_coarse, sin_coarse, cos_fine, sin_fine, entry_of}

-- q = floor(v / 16384)
abbrev pub quarter : ℕ → ℕ
quarter v = v / 16384

-- w = v mod 16384
abbrev pub in_quarter : ℕ → ℕ
in_quarter v = v % 16384

-- a = floor(w / 128)
abbrev pub coarse_angle : ℕ → ℕ
coarse_angle w = w / 128

-- b = w mod 128
abbrev pub fine_angle : ℕ → ℕ
fine_angle w = w % 128

-- floor((C × c - D × s) / 2^30)
unfoldable pub cosine : (C D c s : ℕ → ℕ) (w : ℕ) → ℕ
cosine C D c s w = (C (coarse_angle w) * c (fine_angle w) - D (coarse_angle w) * s (fine_angle w)) / 2 ^ 30

-- floor((D × c + C × s) / 2^30)
unfoldable pub sine : (C D c s : ℕ → ℕ) (w : ℕ) → ℕ
sine C D c s w = (D (coarse_angle w) * c (fine_angle w) + C (coarse_angle w) * s (fine_angle w)) / 2 ^ 30

-- the sine and the cosine of w, at the tables
unfoldable pub sine_at : ℕ → ℕ
sine_at w = sine (entry_of cos_coarse 0) (entry_of sin_coarse 0) (entry_of cos_fine 0) (entry_of sin_fine 0) w

unfoldable pub cosine_at : ℕ → ℕ
cosine_at w = cosine (entry_of cos_coarse 0) (entry_of sin_coarse 0) (entry_of cos_fine 0) (entry_of sin_fine 0) w

-- The pair's (sine, cosine) for v, as signed numbers, turned by its quarters q = 0, 1, 2, 3: (sin, cos), (cos, -sin), (-sin,
-- -cos), (-cos, sin).
unfoldable pub signed_of : ℕ → ℤ × ℤ
signed_of v = turn neg_ℤ (quarter v) (pos (sine_at (in_quarter v)), pos (cosine_at (in_quarter v)))

-- v a quarter turn on, mod 65536
abbrev pub quarter_on : ℕ → ℕ
quarter_on v = (v + 16384) % 65536

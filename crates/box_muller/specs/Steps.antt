-- The last whole-number step (document 01, 'Angle and sample'): from F and a signed sine or cosine G to a sample, over a number f of
-- fraction bits.
use Rattle.std.specs.Prelude.{ℕ, ◌+◌, ◌-◌, ◌*◌, ◌/◌, ◌^◌, ℤ, pos, negsuc, neg_ℤ, nat_abs}

-- The two f that are used: "the 16-bit samples with 11 fraction bits", and "5 integer bits and 13 fraction bits" (document 02, Job 8).
abbrev pub fraction_bits : ℕ
fraction_bits = 11

abbrev pub fraction_bits18 : ℕ
fraction_bits18 = 13

-- A sample's size: floor((F × |G| + 2^(49-f)) / 2^(50-f)).
unfoldable pub size : (f F G : ℕ) → ℕ
size f F G = (F * G + 2 ^ (49 - f)) / 2 ^ (50 - f)

-- n with the sign of G
abbrev pub signed : ℤ → ℕ → ℤ
signed (pos g) n = pos n
signed (negsuc g) n = neg_ℤ (pos n)

-- A sample has the sign of its sine or cosine G, and that size.
abbrev pub rounded : (f F : ℕ) → ℤ → ℤ
rounded f F G = signed G (size f F (nat_abs G))

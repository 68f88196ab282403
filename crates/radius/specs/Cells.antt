-- What the tables say of a k, from which 2Q is made with no table, and the inverse of a divisor.
use Rattle.std.specs.Prelude.{◌≡◌, ℕ, ◌+◌, ◌-◌, ◌*◌, ◌%◌, ◌^◌, ◌≤◌}
use Rattle.tables.specs.Tables.{log_coarse, log_fine, ln_two, entry_of}
use Rattle.log_coarse_lookup.specs.Reciprocals.{reciprocals}
use Rattle.radius.specs.Steps.{width, numerator, top_bit, mantissa, coarse_index, fine_index}

-- 2^15 M and, below it, i; the reciprocal of h; (b - e) × K - A(h) - B(i), mod 2^64
pub record InCell (k place reciprocal log : ℕ) : Type 0 where
  pub place_is : place ≡ 2 ^ 15 * mantissa width (numerator k) + fine_index width (numerator k)
  pub reciprocal_is : reciprocal ≡ entry_of reciprocals 256 (coarse_index width (numerator k))
  pub log_is : (log + (entry_of log_coarse 256 (coarse_index width (numerator k)) + entry_of log_fine 0 (fine_index width (numerator k)))) % 2 ^ 64
      ≡ (width - top_bit (numerator k)) * ln_two

-- The product is 2^53, to less than one part in 2^27.
pub record NearInverse (inverse divisor : ℕ) : Type 0 where
  pub low : 2 ^ 53 ≤ inverse * divisor + 2 ^ 26
  pub high : inverse * divisor ≤ 2 ^ 53 + 2 ^ 26

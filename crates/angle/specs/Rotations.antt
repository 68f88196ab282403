-- What the look-ups say of an angle, from which its sine and cosine are made with no table.
use Rattle.std.specs.Prelude.{◌≡◌, ℕ, ◌/◌, ◌%◌, ◌^◌}
use Rattle.tables.specs.Tables.{cos_coarse, sin_coarse, cos_fine, sin_fine, entry_of}
use Rattle.angle.specs.Steps.{coarse_angle, fine_angle}

-- C above D, and c above s, as the halves of two numbers
pub record Rotated (w coarse fine : ℕ) : Type 0 where
  pub cos_coarse_lem : coarse / 2 ^ 32 ≡ entry_of cos_coarse 0 (coarse_angle w)
  pub sin_coarse_lem : coarse % 2 ^ 32 ≡ entry_of sin_coarse 0 (coarse_angle w)
  pub cos_fine_lem : fine / 2 ^ 32 ≡ entry_of cos_fine 0 (fine_angle w)
  pub sin_fine_lem : fine % 2 ^ 32 ≡ entry_of sin_fine 0 (fine_angle w)

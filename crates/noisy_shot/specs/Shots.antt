-- The shots of a survey.
use Rattle.std.specs.Prelude.{ℕ}

-- a shot: its distance in mm and its bearing in steps
pub record Shot : Type 0 where
  pub distance : ℕ
  pub step : ℕ

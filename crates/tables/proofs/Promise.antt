-- What the tables promise, whole: a value of each record of specs/Promise.antt.
use native.Mathlib.Omega.{arith}
use Rattle.exact.proofs.RotationLaws.{rotations_overlap}
use Rattle.tables.specs.Tables.{
  log_coarse,
  log_fine,
  cos_coarse,
  sin_coarse,
  cos_fine,
  sin_fine,
}
use Rattle.tables.specs.Promise.{Promise, Nearest, Lacking}
use Rattle.tables.proofs.Entries.{entry_below, entry_past, lengths}
use Rattle.tables.proofs.NearestLogarithms.{log_coarse_lem, log_fine_lem, ln_two_lem, ln_unique}
use Rattle.tables.proofs.NearestRotations.{cos_coarse_lem, sin_coarse_lem, cos_fine_lem, sin_fine_lem}
use Rattle.tables.proofs.Angles.{coarse_is, fine_is}
use Rattle.tables.proofs.Points.{points, in_unique}
pub use Rattle.tables.proofs.Bounds.{bounds, exact_entries}

pub promise : Promise
promise = record {
  log_coarse_lem = log_coarse_lem;
  log_fine_lem = log_fine_lem;
  ln_two_lem = ln_two_lem;
  cos_coarse_lem = cos_coarse_lem;
  sin_coarse_lem = sin_coarse_lem;
  cos_fine_lem = cos_fine_lem;
  sin_fine_lem = sin_fine_lem;
}

pub nearest : Nearest
nearest = record {
  points = points;
  coarse_is = coarse_is;
  fine_is = fine_is;
  ln_unique = ln_unique;
  cos_unique =
      λ f w m n x y. in_unique f m n _ _ _ _ x y (rotations_overlap m n w).cosine (rotations_overlap n m w).cosine;
  sin_unique =
      λ f w m n x y. in_unique f m n _ _ _ _ x y (rotations_overlap m n w).sine (rotations_overlap n m w).sine;
}

pub lacking : Lacking
lacking = record {
  log_coarse_below = λ h l. entry_below log_coarse 256 h l;
  log_coarse_lem = λ h l. entry_past log_coarse 256 h (omega (arith, lengths));
  log_fine_lem = λ i l. entry_past log_fine 0 i (omega (arith, lengths));
  cos_coarse_lem = λ a l. entry_past cos_coarse 0 a (omega (arith, lengths));
  sin_coarse_lem = λ a l. entry_past sin_coarse 0 a (omega (arith, lengths));
  cos_fine_lem = λ b l. entry_past cos_fine 0 b (omega (arith, lengths));
  sin_fine_lem = λ b l. entry_past sin_fine 0 b (omega (arith, lengths));
}

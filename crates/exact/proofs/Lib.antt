-- The laws of specs/: order and series, the radius, roots and rotations, limits, the pair.
pub mod FractionLaws
pub mod SeriesLaws
pub mod SeriesSums
pub mod LogarithmLaws
pub mod RadiusLaws
pub mod RootLaws
pub mod RotationLaws
pub mod RotationWidth
pub mod RotationBits
pub mod Limit
pub mod RotationLimit
pub mod RotationLength
pub mod RotationOrder
pub mod MemberLaws
pub mod PairLaws
pub mod DistanceLaws

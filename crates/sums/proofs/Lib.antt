-- The laws of specs/: points, whole numbers by their parts, sums and their enclosures, how near they are, and choices between two
-- readings.
pub mod PointLaws
pub mod Parts
pub mod SumLaws
pub mod Nearness
pub mod Choices
pub mod FineChoices
pub mod Theorems

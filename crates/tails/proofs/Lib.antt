-- Sums and counts; Rayleigh's tail of the radius, and at each angle; sums over all angles, as lists of the cosines and sines; the mean square of the radius,
-- by the product of the odd numbers, and of the samples; symmetries.
pub mod SumLaws
mod Pigeonhole
mod Rayleigh
pub mod EachAngle
mod Quarters
pub mod Angles
pub mod OddProduct
mod RadiusSquares
mod Roundings
pub mod Symmetry
pub mod Variance
pub mod Theorems

-- How the samples are distributed over all 2^64 inputs.
pub mod Counts
pub mod Tails
pub mod Symmetries
pub mod Variances

pub mod Drift
pub mod Theorems

-- The rounding of a sample, what the calls return, and what a buyer can rely on.
pub mod Steps
pub mod Sample
pub mod Refusals
pub mod DataSheet
pub mod Readings
pub mod Theorems

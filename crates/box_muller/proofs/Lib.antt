-- The refusals, laws of the rounding, demand 3, the readings, and the theorems.
pub mod Refusals
pub mod RoundingLaws
mod RoundingMargin
pub mod Closeness
pub mod DataSheet
pub mod Readings
pub mod Theorems
pub mod Widths

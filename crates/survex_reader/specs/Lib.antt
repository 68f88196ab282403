pub mod Lines
pub mod Limits
pub mod Legs
pub mod Private
pub mod LineTheorems
pub mod LineReadings
pub mod LegTheorems
pub mod LegReadings

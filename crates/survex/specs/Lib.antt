pub mod Survex
pub mod Theorems
pub mod Private
pub mod TextReadings

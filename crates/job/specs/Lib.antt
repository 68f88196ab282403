pub mod Limits
pub mod Refusals
pub mod Job
pub mod Theorems
pub mod Private
pub mod TextReadings

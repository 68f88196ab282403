pub mod Names
pub mod Bounds
pub mod Going
pub mod Answered
pub mod Jobs
pub mod Pairs
pub mod Theorems
pub mod TextReadings

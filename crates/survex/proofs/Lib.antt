pub mod ShotLines
pub mod Measures
pub mod Walks
pub mod Answers
pub mod Refusals
pub mod Theorems
pub mod TextReadings

pub mod Fitness
pub mod Runs
pub mod Latest
pub mod Theorems
pub mod Refusals
pub mod Answered

pub mod Marks
pub mod Codes
pub mod Runs
pub mod Refusals
pub mod Theorems

pub mod Additive
pub mod Theorems
pub mod Loops

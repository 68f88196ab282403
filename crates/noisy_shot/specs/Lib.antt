pub mod Shots
pub mod Rounding
pub mod Theorems

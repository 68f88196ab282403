pub mod Limits
pub mod Refusals
pub mod Setting
pub mod Loop
pub mod Private
pub mod Theorems

mod Signs
pub mod Theorems

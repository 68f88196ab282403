pub mod Play
pub mod Room
pub mod Near
pub mod Private
pub mod LoopTheorems
pub mod Theorems
pub mod PlayBack

mod Bits
pub mod Causes
pub mod Refused
pub mod Order
pub mod Register
pub mod Theorems
pub mod Skip
pub mod Seeding
pub mod FirstCause
mod Halves
pub mod LaneLaws

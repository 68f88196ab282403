-- The whole-number steps from v to its signed sine and cosine, and what their margin is.
pub mod Steps
pub mod Rotations
pub mod Private
pub mod Margin

-- The ranges of a sine and a cosine, their signs, a quarter turn on, and how far they are from the exact rotation.
pub mod Ranges
pub mod QuarterTurn
mod RotationLaws
pub mod TurnLaws
mod Products
pub mod Members

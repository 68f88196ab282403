pub mod Noise
pub mod Private
pub mod Runs
pub mod Readings

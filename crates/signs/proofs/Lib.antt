-- Laws of signs and sizes.
pub mod Sizes

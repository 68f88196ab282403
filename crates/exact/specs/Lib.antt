-- What "exact" means (document 01), in fractions. The laws of these definitions are in proofs/.
pub mod Fraction
pub mod Series
pub mod Radius
pub mod Root
pub mod Rotation
pub mod Pair

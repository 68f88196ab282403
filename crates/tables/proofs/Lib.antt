pub mod Entries
pub mod Arms
pub mod Bounds
pub mod NearestLogarithms
pub mod NearestRotations
pub mod Angles
pub mod Points
pub mod Promise

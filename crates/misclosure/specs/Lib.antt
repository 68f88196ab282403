pub mod Misclosure
pub mod Theorems
pub mod Sizes
pub mod Private
pub mod TextReadings
pub mod Output

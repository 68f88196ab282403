pub mod Forms
pub mod Room
pub mod Links
pub mod Private
pub mod TextReadings
pub mod Theorems

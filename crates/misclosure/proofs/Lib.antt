pub mod Machine
pub mod Lines
pub mod Going
pub mod Listings
pub mod Answer
pub mod Causes
pub mod FirstBad
pub mod Theorems
pub mod TextReadings
mod SignedDecimal
pub mod Printed

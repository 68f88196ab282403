pub mod RoundTrip
pub mod Reading
pub mod ShotLines
pub mod Exact
pub mod TextReadings
pub mod Following
pub mod Theorems

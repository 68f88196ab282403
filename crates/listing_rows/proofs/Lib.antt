pub mod Rows
pub mod Reading
pub mod RoundTrip
pub mod RowReadings
pub mod EntryReadings

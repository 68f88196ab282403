pub mod Private
pub mod Rows
pub mod Entries
pub mod RowReadings
pub mod EntryReadings

pub mod Words
pub mod Refused

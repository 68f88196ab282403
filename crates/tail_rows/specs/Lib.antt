-- How many of the 2^64 inputs give large samples, row by row.
pub mod Rows
pub mod Rows18

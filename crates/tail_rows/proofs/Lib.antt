-- Shares of the exponential, passes over the sizes of all sines and cosines, and the test of a row by two passes; the table.
mod Shares
pub mod Passes
pub mod Starts
pub mod Pairs
pub mod RowTest
pub mod Rows
pub mod Table
pub mod Table18

-- The laws of specs/: draws are additive, the certificates of 16 rows by computed tests, all other numbers of bits and draws, pairs.
mod Additive
mod Reach
mod Columns
mod Rows
mod Pairs
pub mod Theorems

-- The samples of many pairs, and what two streams leave in the caller's memory.
pub mod Samples
pub mod Filled
pub mod Private

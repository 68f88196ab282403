-- The exact period of the streams, and what follows of skips, stretches and runs of calls.
pub mod Cycle
pub mod Theorems

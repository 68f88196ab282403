mod PairLaws
pub mod Laws
pub mod Notes
mod BlockLaws
pub mod Requests
pub mod Runs
pub mod Theorems

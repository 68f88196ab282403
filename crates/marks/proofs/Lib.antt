-- Laws that the proofs of several functions use, and what is proved of marks.
pub mod Searches
pub mod Tested
pub mod Placing
pub mod Names
pub mod First
pub mod Theorems
pub mod Runs
pub mod Refusals

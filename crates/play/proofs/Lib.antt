mod RoomLaws
pub mod Shots
pub mod LoopTheorems
pub mod Summing
pub mod Zipped
pub mod Blocks
pub mod Runs
pub mod Answered
pub mod Theorems
pub mod Texts
pub mod Rows
pub mod PlayBack

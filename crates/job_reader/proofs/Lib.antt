pub mod Refused
pub mod Accepted
pub mod Answered
pub mod FirstBad
pub mod Taking
pub mod Going
pub mod Ending
pub mod Theorems

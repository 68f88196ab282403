-- What each call is refused for, and what runs of calls leave and hand out.
pub mod Refusals
pub mod Histories
pub mod Theorems

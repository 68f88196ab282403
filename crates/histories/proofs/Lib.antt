-- The laws of specs/: causes and refusals, single calls, open requests, histories, draws.
mod Causes
mod Refusals
mod Calls
mod Requests
mod Histories
mod Draws
pub mod Theorems

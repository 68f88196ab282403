pub mod Values
pub mod Tables
pub mod Promise
pub mod Private

-- The whole part of a root, the whole-number steps from k to the radius, and what the tables say of a k.
pub mod Root
pub mod Steps
pub mod Cells

-- The laws of the root and of the steps, and how far F is from the exact radius.
pub mod RootLaws
mod Quartic
mod CellLaws
mod NearLaws
pub mod StepLaws
mod Cells
mod Inverses
pub mod Ranges
mod LastCell
mod LogarithmMargin
pub mod RadiusMargin
pub mod FarMargin

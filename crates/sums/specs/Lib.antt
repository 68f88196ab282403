-- The sums of a run of shots (document 02, Job 13), the exact sums, how far apart they are, and the lowest and highest of distances between two
-- readings (Job 14).
pub mod Points
pub mod Sums
pub mod Exact
pub mod Spans
pub mod Margin
pub mod Theorems

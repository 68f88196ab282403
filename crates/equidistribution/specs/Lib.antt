-- Maximal equidistribution of a stream, and what follows for the pairs of k and v.
pub mod Equidistribution
pub mod Theorems
